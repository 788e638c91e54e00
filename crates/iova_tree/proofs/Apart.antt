-- Ranges that rise apart: by index, with one more, with one less.
use Rattle.std.proofs.Common.{ℕ, zero, suc, ◌≡◌, ◌+◌, ◌<◌, ◌≤◌, ◌&&◌, Bool, true, false, not, ◌⊎◌, inl, inr, List, [], ◌∷◌, ◌++◌, length, Some, None, slice_index_or, refl, ap, arith}
use Rattle.std.specs.Prelude.{nat_lt, find, insert, remove}
use Rattle.std.specs.List.Sorted.{IsNonDecreasingBy}
use Rattle.std.proofs.lemmas.Bool.{and_parts, and_from}
use Rattle.std.proofs.lemmas.Bool.Decides.{nat_tests}
use Rattle.iova_range.specs.Frames.{Frames, meets}
use Rattle.iova_model.specs.Fit.{is_clear}
use Rattle.iova_model.specs.Clients.{insert_rising, remove_at, begins_at}
use Rattle.iova_tree.specs.Space.{RiseApart}

-- a bound from below may be lowered
pub rise_lower : (low from until : ℕ) (xs : List Frames) → low ≤ from → RiseApart from xs until → RiseApart low xs until
rise_lower low from until [] le h = omega arith
rise_lower low from until (x ∷ xs) le h = (omega (arith, h.0), h.1, h.2)

pub rise_ordered : (from until : ℕ) (xs : List Frames) → RiseApart from xs until → from ≤ until
rise_ordered from until [] h = h
rise_ordered from until (x ∷ xs) h = let rest = rise_ordered (x.lo + x.len) until xs h.2 in omega (arith, h.0, h.1)

-- Where one of them lies.
pub record LiesWithin (from until : ℕ) (r : Frames) : Type 0 where
  pub start : from ≤ r.lo
  pub some : 1 ≤ r.len
  pub end : r.lo + r.len ≤ until

pub rise_within : (from until : ℕ) (xs : List Frames) (k : ℕ) (d : Frames) → RiseApart from xs until → k < length xs → LiesWithin from until (slice_index_or xs k d)
rise_within from until [] k d h lt = absurd (omega arith)
rise_within from until (x ∷ xs) zero d h lt = record { start = h.0; some = h.1; end = rise_ordered (x.lo + x.len) until xs h.2 }
rise_within from until (x ∷ xs) (suc k) d h lt =
    let w = rise_within (x.lo + x.len) until xs k d h.2 (omega arith) in
    record { start = omega (arith, w.start, h.0); some = w.some; end = w.end }

-- an earlier one ends where a later one begins, or below
pub rise_apart : (from until : ℕ) (xs : List Frames) (i j : ℕ) (d : Frames) → RiseApart from xs until → i < j → j < length xs → (slice_index_or xs i d).lo + (slice_index_or xs i d).len ≤ (slice_index_or xs j d).lo
rise_apart from until [] i j d h less lt = absurd (omega arith)
rise_apart from until (x ∷ xs) zero zero d h less lt = absurd (omega arith)
rise_apart from until (x ∷ xs) zero (suc j) d h less lt = (rise_within (x.lo + x.len) until xs j d h.2 (omega arith)).start
rise_apart from until (x ∷ xs) (suc i) zero d h less lt = absurd (omega arith)
rise_apart from until (x ∷ xs) (suc i) (suc j) d h less lt = rise_apart (x.lo + x.len) until xs i j d h.2 (omega arith) (omega arith)

le_split : (i j : ℕ) → i ≤ j → (i ≡ j) ⊎ (i < j)
le_split i j le = cond_order (nat_lt i j) refl
  where
    cond_order : (b : Bool) → nat_lt i j ≡ b → (i ≡ j) ⊎ (i < j)
    cond_order true e = inr (grind (arith, nat_tests))
    cond_order false e = inl (grind (arith, nat_tests))

-- so their first frames don't fall
pub rise_sorted : (from until : ℕ) (xs : List Frames) → RiseApart from xs until → IsNonDecreasingBy (λ (r : Frames). r.lo) xs
rise_sorted from until xs h i j d le lt = split (le_split i j le)
  where
    split : (i ≡ j) ⊎ (i < j) → (slice_index_or xs i d).lo ≤ (slice_index_or xs j d).lo
    split (inl e) = rw e (omega arith)
    split (inr less) = omega (arith, rise_apart from until xs i j d h less lt)

-- One more.

-- at the place that a search finds, it stands where it rises
pub insert_rising-at : (r : Frames) (xs : List Frames) (p : ℕ) → p ≤ length xs
    → ((k : ℕ) (d : Frames) → k < p → (slice_index_or xs k d).lo < r.lo)
    → ((k : ℕ) (d : Frames) → p ≤ k → k < length xs → r.lo < (slice_index_or xs k d).lo)
    → insert xs p r ≡ insert_rising r xs
insert_rising-at r [] zero within below above = refl
insert_rising-at r [] (suc p) within below above = absurd (omega arith)
insert_rising-at r (x ∷ xs) zero within below above =
    let lt : r.lo < x.lo = above 0 r (omega arith) (omega arith) in
    let test : nat_lt r.lo x.lo ≡ true = grind (arith, nat_tests) in
    rw test refl
insert_rising-at r (x ∷ xs) (suc p) within below above =
    let lt : x.lo < r.lo = below 0 r (omega arith) in
    let test : nat_lt r.lo x.lo ≡ false = grind (arith, nat_tests) in
    let rest : insert xs p r ≡ insert_rising r xs = insert_rising-at r xs p (omega arith) (λ k d l. below (suc k) d (omega arith)) (λ k d l m. above (suc k) d (omega arith) (omega arith)) in
    rw test (ap (λ (ys : List Frames). x ∷ ys) rest)

clear_below : (r x : Frames) → not (meets r x) ≡ true → r.lo < x.lo → 1 ≤ x.len → r.lo + r.len ≤ x.lo
clear_below r x clear lt some = grind (arith, nat_tests)

pub clear_above : (r x : Frames) → not (meets r x) ≡ true → x.lo ≤ r.lo → 1 ≤ r.len → x.lo + x.len ≤ r.lo
clear_above r x clear le some = grind (arith, nat_tests)

rise_insert_step : (from until : ℕ) (r x : Frames) (xs : List Frames) (b : Bool) → nat_lt r.lo x.lo ≡ b → RiseApart from (x ∷ xs) until → from ≤ r.lo → 1 ≤ r.len → not (meets r x) ≡ true
    → (x.lo + x.len ≤ r.lo → RiseApart (x.lo + x.len) (insert_rising r xs) until) → RiseApart from (insert_rising r (x ∷ xs)) until
rise_insert_step from until r x xs true is h start some clear more =
    let lt : r.lo < x.lo = grind (arith, nat_tests) in
    rw is (start, some, (clear_below r x clear lt h.1, h.1, h.2))
rise_insert_step from until r x xs false is h start some clear more =
    let le : x.lo ≤ r.lo = grind (arith, nat_tests) in
    rw is (h.0, h.1, more (clear_above r x clear le some))

-- One less.

-- none begins below the first
pub find_below : (from until lo : ℕ) (xs : List Frames) → RiseApart from xs until → lo < from → find (begins_at lo) xs ≡ None
find_below from until lo [] h lt = refl
find_below from until lo (x ∷ xs) h lt =
    let start : from ≤ x.lo = h.0 in
    let some : 1 ≤ x.len = h.1 in
    let test : begins_at lo x ≡ false = grind (arith, nat_tests) in
    rw test (find_below (x.lo + x.len) until lo xs h.2 (omega arith))

-- the range that begins at lo stands at place p
pub record StandsAt (lo : ℕ) (xs : List Frames) (p : ℕ) : Type 0 where
  pub within : p < length xs
  pub found : (d : Frames) → find (begins_at lo) xs ≡ Some (slice_index_or xs p d)
  pub without : remove xs p ≡ remove_at lo xs

clear_strict : (from until : ℕ) (r : Frames) (xs : List Frames) (k : ℕ) (d : Frames) → RiseApart from xs until → 1 ≤ r.len → is_clear r xs ≡ true → k < length xs → r.lo ≤ (slice_index_or xs k d).lo → r.lo < (slice_index_or xs k d).lo
clear_strict from until r [] k d h some clear lt le = absurd (omega arith)
clear_strict from until r (x ∷ xs) zero d h some clear lt le =
    let apart : not (meets r x) ≡ true = (and_parts (not (meets r x)) (is_clear r xs) clear).0 in
    let some_x : 1 ≤ x.len = h.1 in
    grind (arith, nat_tests)
clear_strict from until r (x ∷ xs) (suc k) d h some clear lt le =
    clear_strict (x.lo + x.len) until r xs k d h.2 some (and_parts (not (meets r x)) (is_clear r xs) clear).1 (omega arith) le

pub searched_insert : (from until : ℕ) (r : Frames) (xs slice : List Frames) (p : ℕ) → slice ≡ xs → RiseApart from xs until → 1 ≤ r.len → is_clear r xs ≡ true → p ≤ length slice
    → ((k : ℕ) (d : Frames) → k < p → (slice_index_or slice k d).lo < r.lo)
    → ((k : ℕ) (d : Frames) → p ≤ k → k < length slice → r.lo ≤ (slice_index_or slice k d).lo)
    → insert xs p r ≡ insert_rising r xs
searched_insert from until r xs slice p is h some clear within below above =
    insert_rising-at r xs p (rw is at within) (λ k d lt. rw is at (below k d lt))
    (λ k d le lt. clear_strict from until r xs k d h some clear lt (rw is at (above k d le (rw is lt))))

-- What is clear of some ranges.

and_swap : (a b : Bool) → (a && b) ≡ (b && a)
and_swap true true = refl
and_swap true false = refl
and_swap false true = refl
and_swap false false = refl

pub meets_swap : (a b : Frames) → meets a b ≡ meets b a
meets_swap a b = and_swap (nat_lt a.lo (b.lo + b.len)) (nat_lt b.lo (a.lo + a.len))

pub is_clear-append : (r : Frames) (xs ys : List Frames) → is_clear r (xs ++ ys) ≡ true → (is_clear r xs ≡ true) × (is_clear r ys ≡ true)
is_clear-append r [] ys clear = (refl, clear)
is_clear-append r (x ∷ xs) ys clear =
    let parts = and_parts (not (meets r x)) (is_clear r (xs ++ ys)) clear in
    let rest = is_clear-append r xs ys parts.1 in
    (and_from (not (meets r x)) (is_clear r xs) parts.0 rest.0, rest.1)
