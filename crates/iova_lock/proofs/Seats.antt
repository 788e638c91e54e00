-- Where seats are gathered, there is one.
use Rattle.std.proofs.Common.{ℕ, zero, suc, ◌≡◌, ◌∙◌, ◌<◌, ◌≤◌, List, [], ◌∷◌, length, sym, refl, arith}
use Rattle.std.specs.Prelude.{true, false}
use Rattle.std.proofs.lemmas.Bool.{and_right}
use Rattle.iova_keep.specs.Views.{SeatState}
use Rattle.iova_lock.specs.Books.{are_all, has_seat, have_seats}

-- seats of all workers are at least one
pub some_seats : (count workers : ℕ) (seats : List SeatState) → 1 ≤ workers
    → are_all count workers seats ≡ true → 0 < length seats
some_seats count workers (s ∷ ss) some all = omega arith
some_seats count zero [] some all = omega (arith, some)
some_seats count (suc n) [] some all =
    let none : are_all count (suc n) [] ≡ false = and_right _ _ (and_right (have_seats n []) (has_seat n []) refl) in
    let both : true ≡ false = sym all ∙ none in absurd cc
