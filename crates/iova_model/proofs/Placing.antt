-- The greatest place that fits: what the function computes has the property, and nothing else has it.
use Rattle.std.proofs.Common.{ℕ, zero, suc, ◌≡◌, ◌+◌, ◌-◌, ◌%◌, ◌<◌, ◌≤◌, ◌==◌, ◌&&◌, ◌||◌, min, ◌⊎◌, inl, inr, Bool, true, false, not, List, [], ◌∷◌, Option, Some, None, refl, sym, ap, ◌∙◌, arith}
use Rattle.std.specs.Prelude.{nat_le}
use Rattle.std.specs.List.{AllByRecursion}
use Rattle.std.proofs.lemmas.Bool.{and_parts, and_from, cases_order}
use Rattle.std.proofs.lemmas.Bool.Decides.{nat_tests}
use Rattle.iova_range.specs.Frames.{Frames, covers, meets}
use Rattle.iova_range.specs.Sizes.{align_of}
use Rattle.iova_range.specs.Bounds.{Extent}
use Rattle.iova_model.specs.Fit.{is_covered, Fits, IsBest, is_clear, fits, greatest, best}

-- The greatest number that passes.

none_step : (t : ℕ → Bool) (n k : ℕ) (b : Bool) → t n ≡ b → greatest t (suc n) ≡ None → k < suc n → (greatest t n ≡ None → k < n → t k ≡ false) → t k ≡ false
none_step t n k true is none lt more = let none' = rw is at none in absurd (cc (none'))
none_step t n k false is none lt more = split (cases_order k n)
  where
    split : (k ≡ n) ⊎ ((k < n) ⊎ (n < k)) → t k ≡ false
    split (inl e) = ap t e ∙ is
    split (inr (inl less)) = more (rw is at none) less
    split (inr (inr more)) = absurd (omega arith)

-- where there is none, none passes
pub greatest_none : (t : ℕ → Bool) (n k : ℕ) → greatest t n ≡ None → k < n → t k ≡ false
greatest_none t zero k none lt = absurd (omega arith)
greatest_none t (suc n) k none lt = none_step t n k (t n) refl none lt (λ e l. greatest_none t n k e l)

-- a number below n passes, and no greater one does
pub record IsGreatest (t : ℕ → Bool) (n i : ℕ) : Type 0 where
  pub passes : t i ≡ true
  pub below : i < n
  pub most : (k : ℕ) → k < n → t k ≡ true → k ≤ i

true_is_not_false : {b : Bool} → b ≡ true → b ≡ false → ⊥
true_is_not_false e f = let both : true ≡ false = sym e ∙ f in cc

some_step : (t : ℕ → Bool) (n i : ℕ) (b : Bool) → t n ≡ b → greatest t (suc n) ≡ Some i → (greatest t n ≡ Some i → IsGreatest t n i) → IsGreatest t (suc n) i
some_step t n i true is some more =
    let some' : Some n ≡ Some i = rw is at some in
    let e : n ≡ i = cc in
    record { passes = ap t (sym e) ∙ is; below = omega arith; most = λ k lt h. omega arith }
some_step t n i false is some more =
    let g = more (rw is at some) in
    record {
      passes = g.passes;
      below = let lt : i < n = g.below in omega arith;
      most = λ k lt h. split k lt h (cases_order k n) g;
    }
  where
    split : (k : ℕ) → k < suc n → t k ≡ true → (k ≡ n) ⊎ ((k < n) ⊎ (n < k)) → IsGreatest t n i → k ≤ i
    split k lt h (inl e) g = absurd (true_is_not_false h (ap t e ∙ is))
    split k lt h (inr (inl less)) g = g.most k less h
    split k lt h (inr (inr more)) g = absurd (omega arith)

pub greatest_some : (t : ℕ → Bool) (n i : ℕ) → greatest t n ≡ Some i → IsGreatest t n i
greatest_some t zero i some = absurd cc
greatest_some t (suc n) i some = some_step t n i (t n) refl some (λ e. greatest_some t n i e)

-- What fits, as a test and as a property.

-- a range that is clear of others covers no frame of theirs
clear_step : (r x : Frames) (frame : ℕ) → not (meets r x) ≡ true → r.lo ≤ frame → frame < r.lo + r.len → covers frame x ≡ false
clear_step r x frame clear from until = grind (arith, nat_tests)

pub clear-uncovered : (r : Frames) (ranges : List Frames) (frame : ℕ) → is_clear r ranges ≡ true → r.lo ≤ frame → frame < r.lo + r.len → is_covered frame ranges ≡ false
clear-uncovered r [] frame clear from until = refl
clear-uncovered r (x ∷ xs) frame clear from until =
    let parts = and_parts (not (meets r x)) (is_clear r xs) clear in
    let a : covers frame x ≡ false = clear_step r x frame parts.0 from until in
    rw a (clear-uncovered r xs frame parts.1 from until)

-- each range has a frame
abbrev pub AreSome : List Frames → Type 0
AreSome ranges = AllByRecursion (λ (r : Frames). 1 ≤ r.len) ranges

-- where two ranges meet, the greater of their first frames is in both
meet_step : (r x : Frames) (b : Bool) → meets r x ≡ b → 1 ≤ r.len → 1 ≤ x.len → ((frame : ℕ) → r.lo ≤ frame → frame < r.lo + r.len → covers frame x ≡ false) → not b ≡ true
meet_step r x false is some some_x free = refl
meet_step r x true is some some_x free = split (nat_le r.lo x.lo) refl
  where
    split : (c : Bool) → nat_le r.lo x.lo ≡ c → not true ≡ true
    split true le =
        let f : covers x.lo x ≡ false = free x.lo (grind (arith, nat_tests)) (grind (arith, nat_tests)) in
        absurd (let h : covers x.lo x ≡ true = grind (arith, nat_tests) in true_is_not_false h f)
    split false gt =
        let f : covers r.lo x ≡ false = free r.lo (omega arith) (omega arith) in
        absurd (let h : covers r.lo x ≡ true = grind (arith, nat_tests) in true_is_not_false h f)

or_false : (a b : Bool) → (a || b) ≡ false → (a ≡ false) × (b ≡ false)
or_false true b e = absurd cc
or_false false b e = (refl, e)

pub uncovered-clear : (r : Frames) (ranges : List Frames) → 1 ≤ r.len → AreSome ranges → ((frame : ℕ) → r.lo ≤ frame → frame < r.lo + r.len → is_covered frame ranges ≡ false) → is_clear r ranges ≡ true
uncovered-clear r [] some all free = refl
uncovered-clear r (x ∷ xs) some all free =
    and_from (not (meets r x)) (is_clear r xs)
    (meet_step r x (meets r x) refl some all.0 (λ frame from until. (or_false (covers frame x) (is_covered frame xs) (free frame from until)).0))
    (uncovered-clear r xs some all.1 (λ frame from until. (or_false (covers frame x) (is_covered frame xs) (free frame from until)).1))

pub fits-Fits : (b : Extent) (ranges : List Frames) (size limit lo : ℕ) → fits b ranges size limit lo ≡ true → Fits b ranges size limit lo
fits-Fits b ranges size limit lo h =
    let aligned = lo % align_of size == 0 in
    let start = nat_le b.start lo in
    let last = nat_le (lo + size - 1) (min limit b.last) in
    let clear = is_clear (record { lo = lo; len = size }) ranges in
    let p = and_parts (aligned && start && last) clear h in
    let q = and_parts (aligned && start) last p.0 in
    let r = and_parts aligned start q.0 in
    let e1 : aligned ≡ true = r.0 in
    let e2 : start ≡ true = r.1 in
    let e3 : last ≡ true = q.1 in
    record {
      aligned = grind (arith, nat_tests);
      start = grind (arith, nat_tests);
      last = grind (arith, nat_tests);
      free = λ frame from until. clear-uncovered (record { lo = lo; len = size }) ranges frame p.1 from until;
    }

pub Fits-fits : (b : Extent) (ranges : List Frames) (size limit lo : ℕ) → 1 ≤ size → AreSome ranges → Fits b ranges size limit lo → fits b ranges size limit lo ≡ true
Fits-fits b ranges size limit lo some all h =
    let aligned = lo % align_of size == 0 in
    let start = nat_le b.start lo in
    let last = nat_le (lo + size - 1) (min limit b.last) in
    let clear = is_clear (record { lo = lo; len = size }) ranges in
    let a : lo % align_of size ≡ 0 = h.aligned in
    let s : b.start ≤ lo = h.start in
    let l : lo + size - 1 ≤ min limit b.last = h.last in
    and_from (aligned && start && last) clear
    (and_from (aligned && start) last (and_from aligned start (grind (arith, nat_tests)) (grind (arith, nat_tests))) (grind (arith, nat_tests)))
    (uncovered-clear (record { lo = lo; len = size }) ranges some all h.free)

-- what fits lies below the bound of the search
fits_below : (b : Extent) (ranges : List Frames) (size limit lo : ℕ) → 1 ≤ size → Fits b ranges size limit lo → lo < min limit b.last + 1
fits_below b ranges size limit lo some h = let l : lo + size - 1 ≤ min limit b.last = h.last in omega arith

best_cases : (b : Extent) (ranges : List Frames) (size limit : ℕ) → 1 ≤ size → AreSome ranges → (o : Option ℕ) → best b ranges size limit ≡ o → IsBest b ranges size limit o
best_cases b ranges size limit some all None is = λ lo h.
    true_is_not_false (Fits-fits b ranges size limit lo some all h) (greatest_none (fits b ranges size limit) (min limit b.last + 1) lo is (fits_below b ranges size limit lo some h))
best_cases b ranges size limit some all (Some i) is =
    let g = greatest_some (fits b ranges size limit) (min limit b.last + 1) i is in
    (fits-Fits b ranges size limit i g.passes, λ lo h. g.most lo (fits_below b ranges size limit lo some h) (Fits-fits b ranges size limit lo some all h))

-- what the function computes is the best
pub best-is_best : (b : Extent) (ranges : List Frames) (size limit : ℕ) → 1 ≤ size → AreSome ranges → IsBest b ranges size limit (best b ranges size limit)
best-is_best b ranges size limit some all = best_cases b ranges size limit some all (best b ranges size limit) refl

-- there is one best at most
pub best_unique : (b : Extent) (ranges : List Frames) (size limit : ℕ) (o p : Option ℕ) → IsBest b ranges size limit o → IsBest b ranges size limit p → o ≡ p
best_unique b ranges size limit None None g h = refl
best_unique b ranges size limit None (Some j) g h = absurd (g j h.0)
best_unique b ranges size limit (Some i) None g h = absurd (h i g.0)
best_unique b ranges size limit (Some i) (Some j) g h =
    let le : j ≤ i = g.1 j h.0 in
    let ge : i ≤ j = h.1 i g.0 in
    ap (λ (k : ℕ). Some k) (let e : i ≡ j = omega arith in e)

-- so what is best is what the function computes
pub best-from : (b : Extent) (ranges : List Frames) (size limit : ℕ) (o : Option ℕ) → 1 ≤ size → AreSome ranges → IsBest b ranges size limit o → o ≡ best b ranges size limit
best-from b ranges size limit o some all h = best_unique b ranges size limit o _ h (best-is_best b ranges size limit some all)

-- What fits depends on the frames that are covered alone.

pub Fits-same : (b : Extent) (xs ys : List Frames) (size limit lo : ℕ) → ((frame : ℕ) → is_covered frame ys ≡ is_covered frame xs) → Fits b xs size limit lo → Fits b ys size limit lo
Fits-same b xs ys size limit lo same h = record {
  aligned = h.aligned;
  start = h.start;
  last = h.last;
  free = λ frame from until. same frame ∙ h.free frame from until;
}

pub IsBest-same : (b : Extent) (xs ys : List Frames) (size limit : ℕ) (o : Option ℕ) → ((frame : ℕ) → is_covered frame ys ≡ is_covered frame xs) → IsBest b xs size limit o → IsBest b ys size limit o
IsBest-same b xs ys size limit None same h = λ lo f. h lo (Fits-same b ys xs size limit lo (λ frame. sym (same frame)) f)
IsBest-same b xs ys size limit (Some i) same h =
    (Fits-same b xs ys size limit i same h.0, λ lo f. h.1 lo (Fits-same b ys xs size limit lo (λ frame. sym (same frame)) f))

-- The best place is clear of the ranges, and inside the bounds.
pub record IsPlace (b : Extent) (ranges : List Frames) (size lo : ℕ) : Type 0 where
  pub clear : is_clear (record { lo = lo; len = size }) ranges ≡ true
  pub start : b.start ≤ lo
  pub last : lo + size ≤ b.last + 1

pub best-place : (b : Extent) (ranges : List Frames) (size limit lo : ℕ) → 1 ≤ size → Some lo ≡ best b ranges size limit → IsPlace b ranges size lo
best-place b ranges size limit lo some is =
    let g = greatest_some (fits b ranges size limit) (min limit b.last + 1) lo (sym is) in
    let f = fits-Fits b ranges size limit lo g.passes in
    record {
      clear = (and_parts ((lo % align_of size == 0) && nat_le b.start lo && nat_le (lo + size - 1) (min limit b.last)) _ g.passes).1;
      start = f.start;
      last = let l = f.last in omega arith;
    }
