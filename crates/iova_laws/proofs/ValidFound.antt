-- What a search for a holding or a client finds.
use Rattle.std.proofs.Common.{ℕ, ◌≡◌, ◌==◌, true, List, [], ◌∷◌, Some, refl, ap, ◌∙◌, arith, find}
use Rattle.std.proofs.lemmas.Bool.Decides.{nat_tests}
use Rattle.iova_range.specs.Frames.{Frames}
use Rattle.iova_model.specs.Clients.{Client, client_with, change_client, begins_at}

-- a range that is found begins where it was sought
pub found_at : (lo : ℕ) (r : Frames) (rs : List Frames) → find (begins_at lo) rs ≡ Some r → r.lo ≡ lo
found_at lo r [] found = absurd cc
found_at lo r (x ∷ xs) found = grind (arith, nat_tests, found_at lo r xs)

-- and is found there again
pub held_at : (lo : ℕ) (r : Frames) (rs : List Frames) → find (begins_at lo) rs ≡ Some r → find (begins_at r.lo) rs ≡ Some r
held_at lo r rs found = ap (λ k. find (begins_at k) rs) (found_at lo r rs found) ∙ found

-- the first holding is found
pub first_held : (r : Frames) (rs : List Frames) → find (begins_at r.lo) (r ∷ rs) ≡ Some r
first_held r rs = let e : (r.lo == r.lo) ≡ true = grind (arith, nat_tests) in rw e refl

-- a client that is changed is found again, where it keeps its serial
pub changed_found : (id : ℕ) (change : Client → Client) (c : Client) (cs : List Client) → client_with id cs ≡ Some c → (change c).id ≡ c.id → client_with id (change_client id change cs) ≡ Some (change c)
changed_found id change c [] found keeps = absurd cc
changed_found id change c (x ∷ cs) found keeps = grind (arith, nat_tests, changed_found id change c cs)
