-- A list whose end has moved up by one place.
use Rattle.std.proofs.Common.{ℕ, zero, suc, ◌≡◌, ◌+◌, ◌-◌, ◌≤◌, List, [], ◌∷◌, ◌++◌, length, take, drop, refl, ap, arith, append-nil}
use Rattle.std.specs.Prelude.{insert, slice_set}
use Rattle.std.specs.List.{copy_within}
use Rattle.std.proofs.Math.Seq.{take-append_seam}

drop_past : {X : Type 0} (l : List X) (x : X) → drop (suc (length l)) (l ++ x ∷ []) ≡ []
drop_past [] x = refl
drop_past (y ∷ t) x = drop_past t x

put_in : {X : Type 0} (l : List X) (at n : ℕ) (x : X) → at + n ≡ length l
    → slice_set ((take (suc at) (l ++ x ∷ []) ++ take n (drop at (l ++ x ∷ []))) ++ drop (suc (length l)) (l ++ x ∷ [])) at x ≡ insert l at x
put_in [] zero zero x is = refl
put_in [] zero (suc n) x is = absurd (omega (arith, is))
put_in [] (suc at) n x is = absurd (omega (arith, is))
put_in (y ∷ t) zero n x is =
    let whole : n ≡ suc (length t) = omega (arith, is) in
    rw (whole, take-append_seam t (x ∷ []), drop_past t x) (ap (λ l. x ∷ y ∷ l) (append-nil t))
put_in (y ∷ t) (suc at) n x is = ap (λ l. y ∷ l) (put_in t at n x (omega (arith, is)))

-- What is put at the end comes in at a place, once those from there on have moved up.
pub moved_up : {X : Type 0} (l : List X) (at count : ℕ) (x : X) → count ≡ length l → at ≤ length l
    → slice_set (copy_within (l ++ x ∷ []) at count (at + 1)) at x ≡ insert l at x
moved_up l at count x is le =
    let next : at + 1 ≡ suc at = omega arith in
    let past : suc at + (count - at) ≡ suc (length l) = omega (arith, is, le) in
    rw (next, past) (put_in l at (count - at) x (omega (arith, is, le)))
