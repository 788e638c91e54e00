-- Ranges in no order, and the same rising.
use Rattle.std.proofs.Common.{◌≡◌, ◌≢◌, ◌⊎◌, inl, inr, ℕ, zero, suc, ◌+◌, ◌<◌, ◌≤◌, Bool, true, false, cond, ◌||◌, List, [], ◌∷◌, ◌++◌, length, find, set, take, None, Some, refl, subst, sym, ap, arith, ◌∙◌}
use Rattle.std.specs.Prelude.{nat_lt, slice_get}
use Rattle.std.proofs.lemmas.Bool.{cases_eq, cases_lt}
use Rattle.std.proofs.lemmas.Bool.Decides.{nat_tests}
use Rattle.std.proofs.lemmas.List.{get_or-set_same, get_or-set_other, get_or-take, take_more, take_all, length-take-le}
use Rattle.std.proofs.lemmas.List.Edits.{Swapped, swapped_from_swap, length-swap}
use Rattle.std.proofs.lemmas.List.Sorted.{IsPermutation-keeps, IsPermutation-refl, IsPermutation-sym, IsPermutation-trans, IsPermutation-cons, IsPermutation-middle, IsPermutation-to_front, IsNonDecreasingBy-from_default}
use Rattle.std.specs.List.{swap, list_any}
use Rattle.std.specs.List.Sorted.{IsPermutation, IsNonDecreasingBy}
use Rattle.iova_range.specs.Frames.{Frames}
use Rattle.iova_model.specs.Clients.{insert_rising, begins_at, remove_at}
use Rattle.iova_model.specs.Valid.{Rises}
use Rattle.iova_clients.specs.Chains.{range_at}
use Rattle.iova_clients.specs.Orders.{ordered_by, ordered, BeginApart}
use Rattle.iova_clients.proofs.Linking.{by_either}
use Rattle.iova_clients.proofs.Kept.{Rises-inserted, Rises-removed, length-insert_rising}

-- What is found, as one comes and as one goes.

begins_there : (lo : ℕ) (x : Frames) → x.lo ≡ lo → begins_at lo x ≡ true
begins_there lo x is = grind (arith, nat_tests)

begins_not_at : (lo : ℕ) (x : Frames) → x.lo ≢ lo → begins_at lo x ≡ false
begins_not_at lo x ne = grind (arith, nat_tests)

find_head : (lo : ℕ) (x : Frames) (hs : List Frames) → x.lo ≡ lo → find (begins_at lo) (x ∷ hs) ≡ Some x
find_head lo x hs is = rw (begins_there lo x is) refl

found_behind : (lo : ℕ) (x : Frames) (hs : List Frames) → x.lo ≢ lo → find (begins_at lo) (x ∷ hs) ≡ find (begins_at lo) hs
found_behind lo x hs ne = rw (begins_not_at lo x ne) refl

pub found_lo : (lo : ℕ) (r : Frames) (hs : List Frames) → find (begins_at lo) hs ≡ Some r → r.lo ≡ lo
found_lo lo r [] q = absurd (let bad : None ≡ Some r = q in cc)
found_lo lo r (x ∷ hs) q = by_either (cases_eq x.lo lo)
    (λ is. let same : Some x ≡ Some r = sym (find_head lo x hs is) ∙ q in let mine : x ≡ r = cc in sym (ap (λ (y : Frames). y.lo) mine) ∙ is)
    (λ ne. found_lo lo r hs (sym (found_behind lo x hs ne) ∙ q))

pub found_inserted : (r : Frames) (hs : List Frames) → find (begins_at r.lo) hs ≡ None → find (begins_at r.lo) (insert_rising r hs) ≡ Some r
found_inserted r [] none = find_head r.lo r [] refl
found_inserted r (x ∷ hs) none = by_either (cases_eq x.lo r.lo)
    (λ is. absurd (let bad : None ≡ Some x = sym none ∙ find_head r.lo x hs is in cc))
    (λ ne. step (nat_lt r.lo x.lo) ne (found_inserted r hs (sym (found_behind r.lo x hs ne) ∙ none)))
  where
    step : (b : Bool) → x.lo ≢ r.lo → find (begins_at r.lo) (insert_rising r hs) ≡ Some r → find (begins_at r.lo) (cond b (r ∷ x ∷ hs) (x ∷ insert_rising r hs)) ≡ Some r
    step true ne ih = find_head r.lo r (x ∷ hs) refl
    step false ne ih = found_behind r.lo x (insert_rising r hs) ne ∙ ih

pub others_inserted : (lo : ℕ) (r : Frames) (hs : List Frames) → r.lo ≢ lo → find (begins_at lo) (insert_rising r hs) ≡ find (begins_at lo) hs
others_inserted lo r [] ne = found_behind lo r [] ne
others_inserted lo r (x ∷ hs) ne = step (nat_lt r.lo x.lo) (others_inserted lo r hs ne)
  where
    step : (b : Bool) → find (begins_at lo) (insert_rising r hs) ≡ find (begins_at lo) hs → find (begins_at lo) (cond b (r ∷ x ∷ hs) (x ∷ insert_rising r hs)) ≡ find (begins_at lo) (x ∷ hs)
    step true ih = found_behind lo r (x ∷ hs) ne
    step false ih = ap (cond (begins_at lo x) (Some x)) ih

-- none begins below the start
pub none_below : (from lo : ℕ) (hs : List Frames) → lo < from → Rises from hs → find (begins_at lo) hs ≡ None
none_below from lo [] lt h = refl
none_below from lo (x ∷ hs) lt h = found_behind lo x hs (omega (arith, lt, h.0)) ∙ none_below (x.lo + 1) lo hs (omega (arith, lt, h.0)) h.1

pub none_removed : (from lo : ℕ) (hs : List Frames) → Rises from hs → find (begins_at lo) (remove_at lo hs) ≡ None
none_removed from lo [] h = refl
none_removed from lo (x ∷ hs) h = by_either (cases_eq x.lo lo)
    (λ is. rw (begins_there lo x is) (none_below (x.lo + 1) lo hs (omega (arith, is)) h.1))
    (λ ne. rw (begins_not_at lo x ne) (found_behind lo x (remove_at lo hs) ne ∙ none_removed (x.lo + 1) lo hs h.1))

pub others_removed : (lo other : ℕ) (hs : List Frames) → other ≢ lo → find (begins_at other) (remove_at lo hs) ≡ find (begins_at other) hs
others_removed lo other [] ne = refl
others_removed lo other (x ∷ hs) ne = by_either (cases_eq x.lo lo)
    (λ is. rw (begins_there lo x is) (sym (found_behind other x hs (λ e. ne (sym e ∙ is)))))
    (λ not. rw (begins_not_at lo x not) (ap (cond (begins_at other x) (Some x)) (others_removed lo other hs ne)))

-- rising lists in which the same is found are the same
pub same_found : (from : ℕ) (xs ys : List Frames) → Rises from xs → Rises from ys → ((lo : ℕ) → find (begins_at lo) xs ≡ find (begins_at lo) ys) → xs ≡ ys
same_found from [] [] hx hy same = refl
same_found from [] (y ∷ ys) hx hy same = absurd (let bad : None ≡ Some y = same y.lo ∙ find_head y.lo y ys refl in cc)
same_found from (x ∷ xs) [] hx hy same = absurd (let bad : None ≡ Some x = sym (same x.lo) ∙ find_head x.lo x xs refl in cc)
same_found from (x ∷ xs) (y ∷ ys) hx hy same =
    let x_there : find (begins_at x.lo) (y ∷ ys) ≡ Some x = sym (same x.lo) ∙ find_head x.lo x xs refl in
    let y_there : find (begins_at y.lo) (x ∷ xs) ≡ Some y = same y.lo ∙ find_head y.lo y ys refl in
    by_either (cases_eq y.lo x.lo)
    (λ is. let one : Some y ≡ Some x = sym (find_head x.lo y ys is) ∙ x_there in
    let head : y ≡ x = cc in
    let tails : (lo : ℕ) → find (begins_at lo) xs ≡ find (begins_at lo) ys = λ lo. by_either (cases_eq x.lo lo)
    (λ here. none_below (x.lo + 1) lo xs (omega (arith, here)) hx.1 ∙ sym (none_below (y.lo + 1) lo ys (omega (arith, here, is)) hy.1))
    (λ not. sym (found_behind lo x xs not) ∙ same lo ∙ found_behind lo y ys (λ e. not (sym is ∙ e))) in
    let rest : xs ≡ ys = same_found (x.lo + 1) xs ys hx.1 (rw (← is) hy.1) tails in
    rw (head, rest) refl)
    (λ ne. by_either (cases_lt x.lo y.lo)
    (λ lt. absurd (let bad : None ≡ Some x = sym (none_below from_y x.lo ys (omega (arith, lt)) hy.1) ∙ sym (found_behind x.lo y ys ne) ∙ x_there in cc))
    (λ ge. absurd (let bad : None ≡ Some y = sym (none_below from_x y.lo xs (omega (arith, ge, ne)) hx.1) ∙ sym (found_behind y.lo x xs (λ e. ne (sym e))) ∙ y_there in cc)))
  where
    from_x : ℕ
    from_x = x.lo + 1

    from_y : ℕ
    from_y = y.lo + 1

-- The ranges in order.

-- one of them begins there, or none does
pub seek : (f : ℕ → Frames) (n lo : ℕ) → ((k : ℕ) × (k < n) × ((f k).lo ≡ lo)) ⊎ ((k : ℕ) → k < n → (f k).lo ≢ lo)
seek f zero lo = inr (λ k lt. absurd (omega (arith, lt)))
seek f (suc n) lo = by_either (cases_eq (f n).lo lo)
    (λ is. inl (n, omega arith, is))
    (λ ne. by_either (seek f n lo)
    (λ found. inl (found.0, omega (arith, found.1), found.2))
    (λ none. inr (λ k lt. by_either (cases_eq k n) (λ is. rw is ne) (λ other. none k (omega (arith, lt, other))))))

pub apart_less : (f : ℕ → Frames) (n : ℕ) → BeginApart f (suc n) → BeginApart f n
apart_less f n h i j x y is = h i j (omega (arith, x)) (omega (arith, y)) is

pub ordered_none : (f : ℕ → Frames) (n lo : ℕ) → ((k : ℕ) → k < n → (f k).lo ≢ lo) → find (begins_at lo) (ordered_by f n) ≡ None
ordered_none f zero lo none = refl
ordered_none f (suc n) lo none =
    others_inserted lo (f n) (ordered_by f n) (none n (omega arith)) ∙ ordered_none f n lo (λ k lt. none k (omega (arith, lt)))

last_apart : (f : ℕ → Frames) (n : ℕ) → BeginApart f (suc n) → find (begins_at (f n).lo) (ordered_by f n) ≡ None
last_apart f n h = ordered_none f n (f n).lo (λ k lt is. let same : k ≡ n = h k n (omega (arith, lt)) (omega arith) is in absurd (omega (arith, lt, same)))

pub ordered_some : (f : ℕ → Frames) (n : ℕ) → BeginApart f n → (k : ℕ) → k < n → find (begins_at (f k).lo) (ordered_by f n) ≡ Some (f k)
ordered_some f zero h k lt = absurd (omega (arith, lt))
ordered_some f (suc n) h k lt = by_either (cases_eq k n)
    (λ is. rw is (found_inserted (f n) (ordered_by f n) (last_apart f n h)))
    (λ ne. others_inserted (f k).lo (f n) (ordered_by f n) (λ is. ne (sym (h n k (omega arith) lt is)))
    ∙ ordered_some f n (apart_less f n h) k (omega (arith, lt, ne)))

pub ordered_rises : (f : ℕ → Frames) (n : ℕ) → BeginApart f n → Rises 0 (ordered_by f n)
ordered_rises f zero h = tt
ordered_rises f (suc n) h = Rises-inserted 0 (f n) (ordered_by f n) (ordered_rises f n (apart_less f n h)) (omega arith) (last_apart f n h)

pub length-ordered : (f : ℕ → Frames) (n : ℕ) → length (ordered_by f n) ≡ n
length-ordered f zero = refl
length-ordered f (suc n) = length-insert_rising (f n) (ordered_by f n) ∙ omega (arith, length-ordered f n)

pub ordered_same : (f g : ℕ → Frames) (n : ℕ) → ((k : ℕ) → k < n → g k ≡ f k) → ordered_by g n ≡ ordered_by f n
ordered_same f g zero same = refl
ordered_same f g (suc n) same = rw (same n (omega arith), ordered_same f g n (λ k lt. same k (omega (arith, lt)))) refl

pub apart_same : (f g : ℕ → Frames) (n : ℕ) → ((k : ℕ) → k < n → g k ≡ f k) → BeginApart f n → BeginApart g n
apart_same f g n same h i j x y is = h i j x y (sym (ap (λ (r : Frames). r.lo) (same i x)) ∙ is ∙ ap (λ (r : Frames). r.lo) (same j y))

-- a rising list with these and no others
pub ordered_is : (f : ℕ → Frames) (n : ℕ) (hs : List Frames) → BeginApart f n → Rises 0 hs
    → ((k : ℕ) → k < n → find (begins_at (f k).lo) hs ≡ Some (f k))
    → ((lo : ℕ) → ((k : ℕ) → k < n → (f k).lo ≢ lo) → find (begins_at lo) hs ≡ None)
    → ordered_by f n ≡ hs
ordered_is f n hs apart rises some none =
    same_found 0 (ordered_by f n) hs (ordered_rises f n apart) rises (λ lo. by_either (seek f n lo)
    (λ found. subst (λ l. find (begins_at l) (ordered_by f n) ≡ find (begins_at l) hs) found.2 (ordered_some f n apart found.0 found.1 ∙ sym (some found.0 found.1)))
    (λ absent. ordered_none f n lo absent ∙ sym (none lo absent)))

-- One more, which begins where none does.
pub apart_more : (f : ℕ → Frames) (n : ℕ) → BeginApart f n → find (begins_at (f n).lo) (ordered_by f n) ≡ None → BeginApart f (suc n)
apart_more f n h none i j x y is = by_either (cases_eq i n)
    (λ i_n. by_either (cases_eq j n) (λ j_n. i_n ∙ sym j_n)
    (λ j_not. absurd (let bad : None ≡ Some (f j) = sym none ∙ subst (λ l. find (begins_at l) (ordered_by f n) ≡ Some (f j)) (sym is ∙ ap (λ k. (f k).lo) i_n) (ordered_some f n h j (omega (arith, y, j_not))) in cc)))
    (λ i_not. by_either (cases_eq j n)
    (λ j_n. absurd (let bad : None ≡ Some (f i) = sym none ∙ subst (λ l. find (begins_at l) (ordered_by f n) ≡ Some (f i)) (is ∙ ap (λ k. (f k).lo) j_n) (ordered_some f n h i (omega (arith, x, i_not))) in cc))
    (λ j_not. h i j (omega (arith, x, i_not)) (omega (arith, y, j_not)) is))

-- One less, whose place the last one takes.
pub apart_taken : (f g : ℕ → Frames) (n p : ℕ) → BeginApart f (suc n) → p < suc n → ((k : ℕ) → k < n → k ≢ p → g k ≡ f k) → (p < n → g p ≡ f n) → BeginApart g n
apart_taken f g n p h within same moved i j x y is = by_either (cases_eq i p)
    (λ i_p. by_either (cases_eq j p) (λ j_p. i_p ∙ sym j_p)
    (λ j_not. let e : n ≡ j = h n j (omega arith) (omega (arith, y)) (sym (ap (λ (r : Frames). r.lo) (moved (omega (arith, i_p, x)))) ∙ (ap (λ k. (g k).lo) (sym i_p) ∙ is) ∙ ap (λ (r : Frames). r.lo) (same j y j_not)) in absurd (omega (arith, e, y))))
    (λ i_not. by_either (cases_eq j p)
    (λ j_p. let e : i ≡ n = h i n (omega (arith, x)) (omega arith) (sym (ap (λ (r : Frames). r.lo) (same i x i_not)) ∙ (is ∙ ap (λ k. (g k).lo) j_p) ∙ ap (λ (r : Frames). r.lo) (moved (omega (arith, j_p, y)))) in absurd (omega (arith, e, x)))
    (λ j_not. h i j (omega (arith, x)) (omega (arith, y)) (sym (ap (λ (r : Frames). r.lo) (same i x i_not)) ∙ is ∙ ap (λ (r : Frames). r.lo) (same j y j_not))))

pub ordered_taken : (f g : ℕ → Frames) (n p : ℕ) → BeginApart f (suc n) → p < suc n → ((k : ℕ) → k < n → k ≢ p → g k ≡ f k) → (p < n → g p ≡ f n)
    → ordered_by g n ≡ remove_at (f p).lo (ordered_by f (suc n))
ordered_taken f g n p h within same moved =
    ordered_is g n (remove_at (f p).lo (ordered_by f (suc n))) (apart_taken f g n p h within same moved) (Rises-removed 0 (f p).lo (ordered_by f (suc n)) (ordered_rises f (suc n) h))
    (λ k lt. by_either (cases_eq k p)
    (λ is. let now : g k ≡ f n = ap g is ∙ moved (omega (arith, is, lt)) in rw now (kept n (omega arith) (omega (arith, is, lt))))
    (λ ne. rw (same k lt ne) (kept k (omega (arith, lt)) ne)))
    (λ lo absent. by_either (cases_eq lo (f p).lo)
    (λ is. rw is (none_removed 0 (f p).lo (ordered_by f (suc n)) (ordered_rises f (suc n) h)))
    (λ ne. others_removed (f p).lo lo (ordered_by f (suc n)) ne ∙ ordered_none f (suc n) lo (λ k lt. by_either (cases_eq k p)
    (λ k_p is. ne (sym is ∙ ap (λ j. (f j).lo) k_p))
    (λ k_not. by_either (cases_eq k n)
    (λ k_n is. absent p (omega (arith, within, k_n, k_not)) (ap (λ (r : Frames). r.lo) (moved (omega (arith, within, k_n, k_not))) ∙ (ap (λ j. (f j).lo) (sym k_n) ∙ is)))
    (λ k_less is. absent k (omega (arith, lt, k_less)) (ap (λ (r : Frames). r.lo) (same k (omega (arith, lt, k_less)) k_not) ∙ is))))))
  where
    kept : (k : ℕ) → k < suc n → k ≢ p → find (begins_at (f k).lo) (remove_at (f p).lo (ordered_by f (suc n))) ≡ Some (f k)
    kept k lt ne = others_removed (f p).lo (f k).lo (ordered_by f (suc n)) (λ is. ne (h k p lt within is)) ∙ ordered_some f (suc n) h k lt

-- The lowest.
pub first_ordered : (f : ℕ → Frames) (n p : ℕ) (hs : List Frames) → hs ≡ ordered_by f n → BeginApart f n → p < n → ((k : ℕ) → k < n → (f p).lo ≤ (f k).lo) → slice_get hs 0 ≡ Some (f p)
first_ordered f n p [] is apart some least = absurd (let zero_long : 0 ≡ n = ap length is ∙ length-ordered f n in omega (arith, some, zero_long))
first_ordered f n p (x ∷ hs) is apart some least =
    let rises : Rises 0 (x ∷ hs) = subst (λ l. Rises 0 l) (sym is) (ordered_rises f n apart) in
    let mine : find (begins_at (f p).lo) (x ∷ hs) ≡ Some (f p) = subst (λ l. find (begins_at (f p).lo) l ≡ Some (f p)) (sym is) (ordered_some f n apart p some) in
    by_either (cases_eq x.lo (f p).lo)
    (λ same. sym (find_head (f p).lo x hs same) ∙ mine)
    (λ ne. by_either (seek f n x.lo)
    (λ found. let up : (f p).lo ≤ x.lo = rw (← found.2) (least found.0 found.1) in
    absurd (let bad : None ≡ Some (f p) = sym (none_below (x.lo + 1) (f p).lo hs (omega (arith, up)) rises.1) ∙ sym (found_behind (f p).lo x hs ne) ∙ mine in cc))
    (λ absent. absurd (let bad : None ≡ Some x = sym (ordered_none f n x.lo absent) ∙ (ap (find (begins_at x.lo)) (sym is) ∙ find_head x.lo x hs refl) in cc)))

-- Two in each other's place.
pub apart_swapped : (f g : ℕ → Frames) (n a b : ℕ) → BeginApart f n → a < n → b < n → Swapped f g a b → BeginApart g n
apart_swapped f g n a b h a_in b_in s i j x y is =
    by_either (cases_eq i a)
    (λ i_a. by_either (cases_eq j a) (λ j_a. i_a ∙ sym j_a)
    (λ j_not. by_either (cases_eq j b)
    (λ j_b. let e : b ≡ a = h b a b_in a_in (sym (lo_of s.0) ∙ (at_lo i_a ∙ is ∙ sym (at_lo j_b)) ∙ lo_of s.1) in i_a ∙ sym e ∙ sym j_b)
    (λ j_other. let e : b ≡ j = h b j b_in y (sym (lo_of s.0) ∙ (at_lo i_a ∙ is) ∙ lo_of (s.2 j j_not j_other)) in absurd (j_other (sym e)))))
    (λ i_not. by_either (cases_eq i b)
    (λ i_b. by_either (cases_eq j b) (λ j_b. i_b ∙ sym j_b)
    (λ j_not_b. by_either (cases_eq j a)
    (λ j_a. let e : a ≡ b = h a b a_in b_in (sym (lo_of s.1) ∙ (at_lo i_b ∙ is ∙ sym (at_lo j_a)) ∙ lo_of s.0) in i_b ∙ sym e ∙ sym j_a)
    (λ j_other. let e : a ≡ j = h a j a_in y (sym (lo_of s.1) ∙ (at_lo i_b ∙ is) ∙ lo_of (s.2 j j_other j_not_b)) in absurd (j_other (sym e)))))
    (λ i_other. by_either (cases_eq j a)
    (λ j_a. let e : i ≡ b = h i b x b_in (sym (lo_of (s.2 i i_not i_other)) ∙ (is ∙ sym (at_lo j_a)) ∙ lo_of s.0) in absurd (i_other e))
    (λ j_not_a. by_either (cases_eq j b)
    (λ j_b. let e : i ≡ a = h i a x a_in (sym (lo_of (s.2 i i_not i_other)) ∙ (is ∙ sym (at_lo j_b)) ∙ lo_of s.1) in absurd (i_not e))
    (λ j_other. h i j x y (sym (lo_of (s.2 i i_not i_other)) ∙ is ∙ lo_of (s.2 j j_not_a j_other))))))
  where
    lo_of : {r t : Frames} → r ≡ t → r.lo ≡ t.lo
    lo_of e = ap (λ (r : Frames). r.lo) e

    at_lo : {k m : ℕ} → k ≡ m → (g m).lo ≡ (g k).lo
    at_lo e = ap (λ k. (g k).lo) (sym e)

pub ordered_swapped : (f g : ℕ → Frames) (n a b : ℕ) → BeginApart f n → a < n → b < n → Swapped f g a b → ordered_by g n ≡ ordered_by f n
ordered_swapped f g n a b h a_in b_in s =
    ordered_is g n (ordered_by f n) (apart_swapped f g n a b h a_in b_in s) (ordered_rises f n h)
    (λ k lt. by_either (cases_eq k a)
    (λ is. let now : g k ≡ f b = ap g is ∙ s.0 in rw now (ordered_some f n h b b_in))
    (λ not_a. by_either (cases_eq k b)
    (λ is. let now : g k ≡ f a = ap g is ∙ s.1 in rw now (ordered_some f n h a a_in))
    (λ not_b. rw (s.2 k not_a not_b) (ordered_some f n h k lt))))
    (λ lo absent. ordered_none f n lo (λ k lt. by_either (cases_eq k a)
    (λ k_a is. absent b b_in (ap (λ (r : Frames). r.lo) s.1 ∙ (ap (λ j. (f j).lo) (sym k_a) ∙ is)))
    (λ not_a. by_either (cases_eq k b)
    (λ k_b is. absent a a_in (ap (λ (r : Frames). r.lo) s.0 ∙ (ap (λ j. (f j).lo) (sym k_b) ∙ is)))
    (λ not_b is. absent k lt (ap (λ (r : Frames). r.lo) (s.2 k not_a not_b) ∙ is)))))

-- Ranges in another order.
pub record AreSame (xs ys : List Frames) : Type 0 where
  pub long : length ys ≡ length xs
  pub apart : BeginApart (range_at ys) (length ys)
  pub same : ordered ys (length ys) ≡ ordered xs (length xs)

pub permuted : (xs ys : List Frames) → BeginApart (range_at xs) (length xs) → IsPermutation xs ys → AreSame xs ys
permuted xs ys apart perm = IsPermutation-keeps xs (AreSame xs) (record { long = refl; apart = apart; same = refl }) step ys perm
  where
    step : (l : List Frames) (i j : ℕ) → i < length l → j < length l → AreSame xs l → AreSame xs (swap l i j)
    step l i j x y h =
        let long = length-swap l i j in
        let s = swapped_from_swap l (swap l i j) i j (record { lo = 0; len = 0 }) x y refl in
        record {
          long = long ∙ h.long;
          apart = rw long (apart_swapped (range_at l) (range_at (swap l i j)) (length l) i j h.apart x y s);
          same = rw long (ordered_swapped (range_at l) (range_at (swap l i j)) (length l) i j h.apart x y s) ∙ h.same;
        }

-- Of cells, the first so many.

at_past : (cells : List Frames) (p : ℕ) (r : Frames) (k : ℕ) → k ≢ p → range_at (set cells p r) k ≡ range_at cells k
at_past cells p r k ne = get_or-set_other cells p k r (record { lo = 0; len = 0 }) ne

range_at-set_same : (cells : List Frames) (p : ℕ) (r : Frames) → p < length cells → range_at (set cells p r) p ≡ r
range_at-set_same cells p r lt = get_or-set_same cells p r (record { lo = 0; len = 0 }) lt

pub pushed_ordered : (cells : List Frames) (n : ℕ) (r : Frames) → n < length cells → ordered (set cells n r) (n + 1) ≡ insert_rising r (ordered cells n)
pushed_ordered cells n r lt =
    let m : n + 1 ≡ suc n = omega arith in
    rw (m, range_at-set_same cells n r lt, ordered_same (range_at cells) (range_at (set cells n r)) n (λ k less. at_past cells n r k (omega (arith, less)))) refl

pub pushed_apart : (cells : List Frames) (n : ℕ) (r : Frames) → n < length cells → BeginApart (range_at cells) n → find (begins_at r.lo) (ordered cells n) ≡ None
    → BeginApart (range_at (set cells n r)) (n + 1)
pushed_apart cells n r lt apart none =
    let m : n + 1 ≡ suc n = omega arith in
    let same : (k : ℕ) → k < n → range_at (set cells n r) k ≡ range_at cells k = λ k less. at_past cells n r k (omega (arith, less)) in
    rw m (apart_more (range_at (set cells n r)) n (apart_same (range_at cells) (range_at (set cells n r)) n same apart)
    (rw (range_at-set_same cells n r lt, ordered_same (range_at cells) (range_at (set cells n r)) n same) none))

pub taken_ordered : (cells : List Frames) (n p : ℕ) → BeginApart (range_at cells) (n + 1) → p < n + 1 → n < length cells
    → ordered (set cells p (range_at cells n)) n ≡ remove_at (range_at cells p).lo (ordered cells (n + 1))
taken_ordered cells n p apart within lt =
    let m : n + 1 ≡ suc n = omega arith in
    rw m (ordered_taken (range_at cells) (range_at (set cells p (range_at cells n))) n p (rw m at apart) (omega (arith, within))
    (λ k less ne. at_past cells p (range_at cells n) k ne) (λ less. range_at-set_same cells p (range_at cells n) (omega (arith, less, lt))))

pub last_ordered : (cells : List Frames) (n : ℕ) → BeginApart (range_at cells) (n + 1) → n < length cells
    → ordered cells n ≡ remove_at (range_at cells n).lo (ordered cells (n + 1))
last_ordered cells n apart lt =
    let m : n + 1 ≡ suc n = omega arith in
    rw m (ordered_taken (range_at cells) (range_at cells) n n (rw m at apart) (omega arith) (λ k less ne. refl) (λ less. absurd (omega (arith, less))))

pub taken_apart : (cells : List Frames) (n p : ℕ) → BeginApart (range_at cells) (n + 1) → p < n + 1 → n < length cells
    → BeginApart (range_at (set cells p (range_at cells n))) n
taken_apart cells n p apart within lt =
    let m : n + 1 ≡ suc n = omega arith in
    apart_taken (range_at cells) (range_at (set cells p (range_at cells n))) n p (rw m at apart) (omega (arith, within))
    (λ k less ne. at_past cells p (range_at cells n) k ne) (λ less. range_at-set_same cells p (range_at cells n) (omega (arith, less, lt)))

pub found_at : (cells : List Frames) (n k lo : ℕ) → BeginApart (range_at cells) n → k < n → (range_at cells k).lo ≡ lo → find (begins_at lo) (ordered cells n) ≡ Some (range_at cells k)
found_at cells n k lo apart lt is = subst (λ l. find (begins_at l) (ordered cells n) ≡ Some (range_at cells k)) is (ordered_some (range_at cells) n apart k lt)

-- A test that one of them passes.
any_inserted : (p : Frames → Bool) (r : Frames) (hs : List Frames) → list_any p (insert_rising r hs) ≡ list_any p (r ∷ hs)
any_inserted p r [] = refl
any_inserted p r (x ∷ hs) = step (nat_lt r.lo x.lo) (p r) refl (p x) refl (any_inserted p r hs)
  where
    step : (b : Bool) (q : Bool) → p r ≡ q → (t : Bool) → p x ≡ t → list_any p (insert_rising r hs) ≡ list_any p (r ∷ hs) → list_any p (cond b (r ∷ x ∷ hs) (x ∷ insert_rising r hs)) ≡ list_any p (r ∷ x ∷ hs)
    step true q pr t px ih = refl
    step false true pr true px ih = rw (pr, px) refl
    step false true pr false px ih = rw (px, ih, pr) refl
    step false false pr true px ih = rw (px, pr) refl
    step false false pr false px ih = rw (px, ih, pr) refl

any_last : (p : Frames → Bool) (xs : List Frames) (r : Frames) → list_any p (xs ++ r ∷ []) ≡ list_any p (r ∷ xs)
any_last p [] r = refl
any_last p (x ∷ xs) r = step (p r) refl (p x) refl (any_last p xs r)
  where
    step : (q : Bool) → p r ≡ q → (t : Bool) → p x ≡ t → list_any p (xs ++ r ∷ []) ≡ list_any p (r ∷ xs) → list_any p (x ∷ xs ++ r ∷ []) ≡ list_any p (r ∷ x ∷ xs)
    step true pr true px ih = rw (pr, px) refl
    step true pr false px ih = rw (px, ih, pr) refl
    step false pr true px ih = rw (px, pr) refl
    step false pr false px ih = rw (px, ih, pr) refl

pub any_ordered : (p : Frames → Bool) (cells : List Frames) (n : ℕ) → n ≤ length cells → list_any p (ordered cells n) ≡ list_any p (take n cells)
any_ordered p cells zero within = refl
any_ordered p cells (suc n) within =
    let more : take (suc n) cells ≡ take n cells ++ range_at cells n ∷ [] = (let m : suc n ≡ n + 1 = omega arith in rw m (take_more cells n (record { lo = 0; len = 0 }) (omega (arith, within)))) in
    rw (more, any_last p (take n cells) (range_at cells n), any_inserted p (range_at cells n) (ordered cells n))
    (ap (λ b. p (range_at cells n) || b) (any_ordered p cells n (omega (arith, within))))

-- More cells behind these.
pub grown_ordered : (cells new : List Frames) (n : ℕ) → n ≤ length cells → take (length cells) new ≡ cells → ordered new n ≡ ordered cells n
grown_ordered cells new n within kept = ordered_same (range_at cells) (range_at new) n (λ k lt.
    sym (get_or-take (length cells) new k (record { lo = 0; len = 0 }) (omega (arith, lt, within))) ∙ ap (λ l. range_at l k) kept)

-- Ranges that stand in order.
behind_all : (r : Frames) (hs : List Frames) → ((k : ℕ) → k < length hs → (range_at hs k).lo ≤ r.lo) → insert_rising r hs ≡ hs ++ r ∷ []
behind_all r [] le = refl
behind_all r (x ∷ hs) le =
    let first : x.lo ≤ r.lo = le 0 (omega arith) in
    let test : nat_lt r.lo x.lo ≡ false = grind (arith, nat_tests) in
    rw test (ap (λ l. x ∷ l) (behind_all r hs (λ k lt. le (suc k) (omega (arith, lt)))))

pub ordered_rising : (cells : List Frames) (n : ℕ) → n ≤ length cells → IsNonDecreasingBy (λ (r : Frames). r.lo) cells → ordered cells n ≡ take n cells
ordered_rising cells zero within up = refl
ordered_rising cells (suc n) within up =
    let m : suc n ≡ n + 1 = omega arith in
    let more : take (suc n) cells ≡ take n cells ++ range_at cells n ∷ [] = rw m (take_more cells n (record { lo = 0; len = 0 }) (omega (arith, within))) in
    let long : length (take n cells) ≡ n = length-take-le n cells (omega (arith, within)) in
    ap (insert_rising (range_at cells n)) (ordered_rising cells n (omega (arith, within)) up)
    ∙ behind_all (range_at cells n) (take n cells) (λ k lt. rw (get_or-take n cells k (record { lo = 0; len = 0 }) (omega (arith, lt, long))) (up k n (record { lo = 0; len = 0 }) (omega (arith, lt, long)) (omega (arith, within))))
    ∙ sym more

-- A rising list, from which ranges came in another order.
rises_from : (from : ℕ) (xs : List Frames) → Rises from xs → (k : ℕ) → k < length xs → from ≤ (range_at xs k).lo
rises_from from [] h k lt = absurd (omega (arith, lt))
rises_from from (x ∷ xs) h zero lt = h.0
rises_from from (x ∷ xs) h (suc k) lt = let more = rises_from (x.lo + 1) xs h.1 k (omega (arith, lt)) in omega (arith, more, h.0)

rises_up : (from : ℕ) (xs : List Frames) → Rises from xs → (i j : ℕ) → i < j → j < length xs → (range_at xs i).lo < (range_at xs j).lo
rises_up from [] h i j less lt = absurd (omega (arith, lt))
rises_up from (x ∷ xs) h i zero less lt = absurd (omega (arith, less))
rises_up from (x ∷ xs) h zero (suc j) less lt = let more = rises_from (x.lo + 1) xs h.1 j (omega (arith, lt)) in omega (arith, more)
rises_up from (x ∷ xs) h (suc i) (suc j) less lt = rises_up (x.lo + 1) xs h.1 i j (omega (arith, less)) (omega (arith, lt))

rising_apart : (xs : List Frames) → Rises 0 xs → BeginApart (range_at xs) (length xs)
rising_apart xs h i j x y is = by_either (cases_lt i j)
    (λ lt. let up = rises_up 0 xs h i j lt y in absurd (omega (arith, up, is)))
    (λ ge. by_either (cases_eq i j) (λ same. same)
    (λ ne. let up = rises_up 0 xs h j i (omega (arith, ge, ne)) x in absurd (omega (arith, up, is))))

rising_ordered : (xs : List Frames) → Rises 0 xs → ordered xs (length xs) ≡ xs
rising_ordered xs h =
    ordered_rising xs (length xs) (omega arith) (IsNonDecreasingBy-from_default (λ (r : Frames). r.lo) xs (record { lo = 0; len = 0 }) up) ∙ take_all (length xs) xs (omega arith)
  where
    up : (i j : ℕ) → i ≤ j → j < length xs → (range_at xs i).lo ≤ (range_at xs j).lo
    up i j le lt = by_either (cases_eq i j) (λ same. rw same (omega arith))
        (λ ne. let more = rises_up 0 xs h i j (omega (arith, le, ne)) lt in omega (arith, more))

pub sorted_rising : (rising ys : List Frames) → Rises 0 rising → IsPermutation rising ys → IsNonDecreasingBy (λ (r : Frames). r.lo) ys → ys ≡ rising
sorted_rising rising ys h perm up =
    sym (ordered_rising ys (length ys) (omega arith) up ∙ take_all (length ys) ys (omega arith))
    ∙ (permuted rising ys (rising_apart rising h) perm).same
    ∙ rising_ordered rising h

-- Some cells, and the same in order.
inserted_permuted : (r : Frames) (hs : List Frames) → IsPermutation (insert_rising r hs) (r ∷ hs)
inserted_permuted r [] = IsPermutation-refl (r ∷ [])
inserted_permuted r (x ∷ hs) = step (nat_lt r.lo x.lo) (inserted_permuted r hs)
  where
    step : (b : Bool) → IsPermutation (insert_rising r hs) (r ∷ hs) → IsPermutation (cond b (r ∷ x ∷ hs) (x ∷ insert_rising r hs)) (r ∷ x ∷ hs)
    step true ih = IsPermutation-refl (r ∷ x ∷ hs)
    step false ih = IsPermutation-trans (x ∷ insert_rising r hs) (x ∷ r ∷ hs) (r ∷ x ∷ hs)
        (IsPermutation-cons x (insert_rising r hs) (r ∷ hs) ih) (IsPermutation-middle (x ∷ []) r hs)

pub ordered_permuted : (cells : List Frames) (n : ℕ) → n ≤ length cells → IsPermutation (ordered cells n) (take n cells)
ordered_permuted cells zero within = IsPermutation-refl []
ordered_permuted cells (suc n) within =
    let r = range_at cells n in
    let m : suc n ≡ n + 1 = omega arith in
    let more : take (suc n) cells ≡ take n cells ++ r ∷ [] = rw m (take_more cells n (record { lo = 0; len = 0 }) (omega (arith, within))) in
    let rest = IsPermutation-cons r (ordered cells n) (take n cells) (ordered_permuted cells n (omega (arith, within))) in
    let last = IsPermutation-sym (take n cells ++ r ∷ []) (r ∷ take n cells) (IsPermutation-to_front (take n cells) r) in
    let behind = IsPermutation-trans (r ∷ ordered cells n) (r ∷ take n cells) (take n cells ++ r ∷ []) rest last in
    rw more (IsPermutation-trans (insert_rising r (ordered cells n)) (r ∷ ordered cells n) (take n cells ++ r ∷ []) (inserted_permuted r (ordered cells n)) behind)
