-- The union of a window with those that it meets: where it lies, and what it is clear of.
use Rattle.std.proofs.Common.{ℕ, ◌≡◌, ◌+◌, ◌<◌, ◌≤◌, true, false, not, ◌⊎◌, inl, inr, List, [], ◌∷◌, length, slice_index_or, refl, ◌∙◌, arith}
use Rattle.std.specs.List.{AllByRecursion, list_any}
use Rattle.std.proofs.lemmas.List.{get_or_default}
use Rattle.std.proofs.lemmas.List.Elements.{recursion_from_All}
use Rattle.std.proofs.lemmas.Bool.{and_parts, and_from, or_parts, cond_both, cases_order, not-true}
use Rattle.std.proofs.lemmas.Bool.Decides.{nat_tests}
use Rattle.iova_range.specs.Frames.{Frames, meets, join}
use Rattle.iova_model.specs.Fit.{is_clear}
use Rattle.iova_model.specs.Next.{union}
use Rattle.iova_tree.specs.Space.{RiseApart, clear_of}
use Rattle.iova_tree.proofs.Apart.{LiesWithin, rise_within, rise_apart, meets_swap}

pub all_weaker : (P Q : Frames → Type 0) → ((x : Frames) → P x → Q x) → (xs : List Frames) → AllByRecursion P xs → AllByRecursion Q xs
all_weaker P Q weaker [] all = tt
all_weaker P Q weaker (x ∷ xs) all = (weaker x all.0, all_weaker P Q weaker xs all.1)

-- Where it lies.

join_within : (from until : ℕ) (a b : Frames) → LiesWithin from until a → LiesWithin from until b → LiesWithin from until (join a b)
join_within from until a b p q = record {
  start = omega (arith, p.start, q.start);
  some = omega (arith, p.some, q.some);
  end = omega (arith, p.end, q.end, p.some, q.some);
}

union_lies : (from until : ℕ) (r : Frames) (ws : List Frames) → LiesWithin from until r → AllByRecursion (LiesWithin from until) ws → LiesWithin from until (union r ws)
union_lies from until r [] own all = own
union_lies from until r (w ∷ ws) own all =
    let rest = union_lies from until r ws own all.1 in
    cond_both (meets r w) (join (union r ws) w) (union r ws) (LiesWithin from until) (λ e. join_within from until (union r ws) w rest all.0) (λ e. rest)

-- between the bounds that r and the others lie between
pub union_within : (from until : ℕ) (r : Frames) (ws : List Frames) → LiesWithin from until r → RiseApart from ws until → LiesWithin from until (union r ws)
union_within from until r ws own rise =
    union_lies from until r ws own (recursion_from_All (LiesWithin from until) ws (λ k d lt. rise_within from until ws k d rise lt))

-- What it is clear of: what is clear of r and of those that meet r.

-- x is clear of those that meet r
abbrev pub IsClearOfMet : Frames → Frames → List Frames → Type 0
IsClearOfMet x r ws = AllByRecursion (λ w. meets r w ≡ true → meets x w ≡ false) ws

below_met : (x r w : Frames) → x.lo + x.len ≤ r.lo → 1 ≤ x.len → meets r w ≡ true → meets x w ≡ false → x.lo + x.len ≤ w.lo
below_met x r w below some met apart = grind (arith, nat_tests)

above_met : (x r w : Frames) → r.lo + r.len ≤ x.lo → 1 ≤ x.len → meets r w ≡ true → meets x w ≡ false → w.lo + w.len ≤ x.lo
above_met x r w above some met apart = grind (arith, nat_tests)

below_union : (x r : Frames) (ws : List Frames) → x.lo + x.len ≤ r.lo → 1 ≤ x.len → IsClearOfMet x r ws → x.lo + x.len ≤ (union r ws).lo
below_union x r [] below some clear = below
below_union x r (w ∷ ws) below some clear =
    let rest = below_union x r ws below some clear.1 in
    cond_both (meets r w) (join (union r ws) w) (union r ws) (λ u. x.lo + x.len ≤ u.lo)
    (λ e. let here = below_met x r w below some e (clear.0 e) in omega arith)
    (λ e. rest)

above_union : (x r : Frames) (ws : List Frames) → r.lo + r.len ≤ x.lo → 1 ≤ x.len → IsClearOfMet x r ws → (union r ws).lo + (union r ws).len ≤ x.lo
above_union x r [] above some clear = above
above_union x r (w ∷ ws) above some clear =
    let rest = above_union x r ws above some clear.1 in
    cond_both (meets r w) (join (union r ws) w) (union r ws) (λ u. u.lo + u.len ≤ x.lo)
    (λ e. let here = above_met x r w above some e (clear.0 e) in omega arith)
    (λ e. rest)

sides : (r x : Frames) → meets r x ≡ false → 1 ≤ r.len → 1 ≤ x.len → (x.lo + x.len ≤ r.lo) ⊎ (r.lo + r.len ≤ x.lo)
sides r x apart some_r some_x = grind (arith, nat_tests)

apart_above : (u x : Frames) → x.lo + x.len ≤ u.lo → not (meets u x) ≡ true
apart_above u x le = grind (arith, nat_tests)

apart_below : (u x : Frames) → u.lo + u.len ≤ x.lo → not (meets u x) ≡ true
apart_below u x le = grind (arith, nat_tests)

union_apart : (r x : Frames) (ws : List Frames) → 1 ≤ r.len → 1 ≤ x.len → meets r x ≡ false → IsClearOfMet x r ws → not (meets (union r ws) x) ≡ true
union_apart r x ws some_r some_x apart clear = split (sides r x apart some_r some_x)
  where
    split : (x.lo + x.len ≤ r.lo) ⊎ (r.lo + r.len ≤ x.lo) → not (meets (union r ws) x) ≡ true
    split (inl below) = apart_above (union r ws) x (below_union x r ws below some_x clear)
    split (inr above) = apart_below (union r ws) x (above_union x r ws above some_x clear)

-- of ranges that rise apart, one is clear of all others
other_apart : (from until : ℕ) (ws : List Frames) (k j : ℕ) (d : Frames) → RiseApart from ws until → k < length ws → j < length ws → (k ≡ j → ⊥) → meets (slice_index_or ws k d) (slice_index_or ws j d) ≡ false
other_apart from until ws k j d rise within_k within_j other = split (cases_order k j)
  where
    split : (k ≡ j) ⊎ ((k < j) ⊎ (j < k)) → meets (slice_index_or ws k d) (slice_index_or ws j d) ≡ false
    split (inl e) = absurd (other e)
    split (inr (inl lt)) = not-true _ (apart_below (slice_index_or ws k d) (slice_index_or ws j d) (rise_apart from until ws k j d rise lt within_j))
    split (inr (inr lt)) = not-true _ (apart_above (slice_index_or ws k d) (slice_index_or ws j d) (rise_apart from until ws j k d rise lt within_k))

one_clear : (from until : ℕ) (r : Frames) (ws : List Frames) (k : ℕ) (d : Frames) → RiseApart from ws until → k < length ws → meets r (slice_index_or ws k d) ≡ false → IsClearOfMet (slice_index_or ws k d) r ws
one_clear from until r ws k d rise lt apart =
    recursion_from_All (λ w. meets r w ≡ true → meets (slice_index_or ws k d) w ≡ false) ws
    (λ j e within met.
    let same : slice_index_or ws j e ≡ slice_index_or ws j d = get_or_default ws j e d within in
    let met_j : meets r (slice_index_or ws j d) ≡ true = rw same at met in
    rw same (other_apart from until ws k j d rise lt within (λ (is : k ≡ j). let met_k : meets r (slice_index_or ws k d) ≡ true = rw is met_j in cc)))

clear_kept : (u r : Frames) (xs : List Frames) → AllByRecursion (λ x. not (meets r x) ≡ true → not (meets u x) ≡ true) xs → is_clear u (clear_of r xs) ≡ true
clear_kept u r [] all = refl
clear_kept u r (x ∷ xs) all =
    let rest = clear_kept u r xs all.1 in
    cond_both (not (meets r x)) (x ∷ clear_of r xs) (clear_of r xs) (λ ys. is_clear u ys ≡ true)
    (λ e. and_from (not (meets u x)) (is_clear u (clear_of r xs)) (all.0 e) rest)
    (λ e. rest)

-- it is clear of the others
pub union_clear_others : (from until : ℕ) (r : Frames) (ws : List Frames) → 1 ≤ r.len → RiseApart from ws until → is_clear (union r ws) (clear_of r ws) ≡ true
union_clear_others from until r ws some rise =
    clear_kept (union r ws) r ws (recursion_from_All (λ x. not (meets r x) ≡ true → not (meets (union r ws) x) ≡ true) ws
    (λ k d lt apart.
    let clear : meets r (slice_index_or ws k d) ≡ false = not-true _ apart in
    union_apart r (slice_index_or ws k d) ws some (rise_within from until ws k d rise lt).some clear (one_clear from until r ws k d rise lt clear)))

-- and of ranges of which r and all the windows are clear
pub union_clear : (from until : ℕ) (r : Frames) (ws xs : List Frames) → 1 ≤ r.len → RiseApart from xs until → list_any (meets r) xs ≡ false → AllByRecursion (λ w. is_clear w xs ≡ true) ws → is_clear (union r ws) xs ≡ true
union_clear from until r ws [] some rise none all = refl
union_clear from until r ws (x ∷ xs) some rise none all =
    let parts = or_parts (meets r x) (list_any (meets r) xs) none in
    let here : IsClearOfMet x r ws
    = all_weaker (λ w. is_clear w (x ∷ xs) ≡ true) (λ w. meets r w ≡ true → meets x w ≡ false)
    (λ w clear met. meets_swap x w ∙ not-true _ (and_parts (not (meets w x)) (is_clear w xs) clear).0) ws all in
    let others : AllByRecursion (λ w. is_clear w xs ≡ true) ws
    = all_weaker (λ w. is_clear w (x ∷ xs) ≡ true) (λ w. is_clear w xs ≡ true) (λ w clear. (and_parts (not (meets w x)) (is_clear w xs) clear).1) ws all in
    and_from (not (meets (union r ws) x)) (is_clear (union r ws) xs) (union_apart r x ws some rise.1 parts.0 here) (union_clear (x.lo + x.len) until r ws xs some rise.2 parts.1 others)
