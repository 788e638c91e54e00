-- The windows and the inserted ranges among all: one more, one less, where they lie, what they cover.
use Rattle.std.proofs.Common.{◌≡◌, ℕ, ◌+◌, ◌-◌, ◌<◌, ◌≤◌, ◌⊎◌, inl, inr, ◌||◌, ◌&&◌, Bool, true, false, not, cond, List, [], ◌∷◌, ◌++◌, Some, None, refl, sym, ap, ◌∙◌, arith}
use Rattle.std.specs.Prelude.{nat_lt, nat_le, find, IsSome}
use Rattle.std.specs.List.{AllByRecursion, list_any}
use Rattle.std.proofs.lemmas.Bool.{and_parts, and_from}
use Rattle.std.proofs.lemmas.Bool.Decides.{nat_tests}
use Rattle.std.proofs.lemmas.List.Folds.{list_any-append}
use Rattle.iova_range.specs.Frames.{Frames, covers, meets}
use Rattle.iova_model.specs.Fit.{is_covered, is_clear}
use Rattle.iova_model.specs.Clients.{insert_rising, remove_at, begins_at}
use Rattle.iova_tree.specs.Spans.{Span, range_of_span, all_of, is_kind, of_kind, windows_of, inserted_of, end_after, first_lo, IsRisingFrom, IsBefore, with_span, Holds}
use Rattle.iova_range.specs.Bounds.{Extent}
use Rattle.iova_tree.specs.Space.{IsSpace, IsTreeKept, space_of, RiseApart, LieWithin}
use Rattle.iova_tree.proofs.Apart.{rise_lower}
use Rattle.iova_tree.proofs.Spans.{rising_with, rising-weaken, rising-end}

len_end : (x : Span) → x.lo < x.end → x.lo + (x.end - x.lo) ≡ x.end
len_end x lt = omega arith

-- Appended.

pub all_of-append : (l m : List Span) → all_of (l ++ m) ≡ all_of l ++ all_of m
all_of-append [] m = refl
all_of-append (x ∷ l) m = ap (λ (z : List Frames). range_of_span x ∷ z) (all_of-append l m)

kind_append_step : (b : Bool) (f : Frames) (u v m : List Frames) → u ≡ v ++ m → cond b (f ∷ u) u ≡ cond b (f ∷ v) v ++ m
kind_append_step true f u v m e = ap (λ (z : List Frames). f ∷ z) e
kind_append_step false f u v m e = e

pub of_kind-append : (kind : Bool) (l m : List Span) → of_kind kind (l ++ m) ≡ of_kind kind l ++ of_kind kind m
of_kind-append kind [] m = refl
of_kind-append kind (x ∷ l) m = kind_append_step (is_kind kind x) (range_of_span x) (of_kind kind (l ++ m)) (of_kind kind l) (of_kind kind m) (of_kind-append kind l m)

-- What is covered.

covers_apart : (frame : ℕ) (x : Span) → x.lo < x.end → (frame < x.lo) ⊎ (x.end ≤ frame) → covers frame (range_of_span x) ≡ false
covers_apart frame x lt (inl below) = grind (arith, nat_tests)
covers_apart frame x lt (inr above) = rw (len_end x lt) (grind (arith, nat_tests))

covered_below : (e frame : ℕ) (l : List Span) → IsRisingFrom e l → frame < e → is_covered frame (all_of l) ≡ false
covered_below e frame [] r lt = refl
covered_below e frame (x ∷ l) r lt =
    rw (covers_apart frame x r.1 (inl (omega (arith, r.0)))) (covered_below x.end frame l r.2 (omega (arith, r.0, r.1)))

pub covered_above : (e frame : ℕ) (l : List Span) → IsRisingFrom e l → end_after e l ≤ frame → is_covered frame (all_of l) ≡ false
covered_above e frame [] r le = refl
covered_above e frame (x ∷ l) r le =
    let end = rising-end x.end l r.2 in
    rw (covers_apart frame x r.1 (inr (omega arith))) (covered_above x.end frame l r.2 le)

pub or_none : (a : Bool) → (a || false) ≡ a
or_none true = refl
or_none false = refl

pub covered_append : (frame : ℕ) (l r : List Span) → is_covered frame (all_of (l ++ r)) ≡ (is_covered frame (all_of l) || is_covered frame (all_of r))
covered_append frame l r = ap (list_any (covers frame)) (all_of-append l r) ∙ list_any-append (covers frame) (all_of l) (all_of r)

pub covered_before : (frame e : ℕ) (l : List Span) → IsRisingFrom e l → IsBefore (record { lo = frame; end = frame; window = false }) l → is_covered frame (all_of l) ≡ false
covered_before frame e [] r lt = refl
covered_before frame e (x ∷ l) r lt = covered_below x.lo frame (x ∷ l) (omega arith, r.1, r.2) lt

or_swap : (a b c : Bool) → (b || (a || c)) ≡ (a || (b || c))
or_swap true true c = refl
or_swap true false c = refl
or_swap false true c = refl
or_swap false false c = refl

-- windows and inserted ranges cover what all do
covered_kinds_step : (f : ℕ → Bool) (frame : ℕ) (b : Bool) (x : Frames) (ws xs all : List Frames)
    → is_covered frame (ws ++ xs) ≡ is_covered frame all → is_covered frame (cond b (x ∷ ws) ws ++ cond (not b) (x ∷ xs) xs) ≡ is_covered frame (x ∷ all)
covered_kinds_step f frame true x ws xs all e = ap (λ z. covers frame x || z) e
covered_kinds_step f frame false x ws xs all e =
    list_any-append (covers frame) ws (x ∷ xs) ∙ or_swap (covers frame x) (is_covered frame ws) (is_covered frame xs)
    ∙ ap (λ z. covers frame x || z) (sym (list_any-append (covers frame) ws xs) ∙ e)

pub covered_kinds : (frame : ℕ) (l : List Span) → is_covered frame (windows_of l ++ inserted_of l) ≡ is_covered frame (all_of l)
covered_kinds frame [] = refl
covered_kinds frame (x ∷ l) = covered_kinds_step (λ n. true) frame x.window (range_of_span x) (windows_of l) (inserted_of l) (all_of l) (covered_kinds frame l)

-- What meets a range.

meets_beside : (a : Frames) (x : Span) → x.lo < x.end → (x.end ≤ a.lo) ⊎ (a.lo + a.len ≤ x.lo) → meets a (range_of_span x) ≡ false
meets_beside a x lt (inl below) = rw (len_end x lt) (grind (arith, nat_tests))
meets_beside a x lt (inr above) = grind (arith, nat_tests)

any_step : (b : Bool) (p : Frames → Bool) (f : Frames) (ys : List Frames) → p f ≡ false → list_any p ys ≡ false → list_any p (cond b (f ∷ ys) ys) ≡ false
any_step true p f ys e h = rw e h
any_step false p f ys e h = h

pub none_meets_below : (kind : Bool) (e : ℕ) (a : Frames) (l : List Span) → IsRisingFrom e l → end_after e l ≤ a.lo → list_any (meets a) (of_kind kind l) ≡ false
none_meets_below kind e a [] r le = refl
none_meets_below kind e a (x ∷ l) r le =
    let end = rising-end x.end l r.2 in
    any_step (is_kind kind x) (meets a) (range_of_span x) (of_kind kind l) (meets_beside a x r.1 (inl (omega arith))) (none_meets_below kind x.end a l r.2 le)

none_meets_from : (kind : Bool) (e : ℕ) (a : Frames) (l : List Span) → IsRisingFrom e l → a.lo + a.len ≤ e → list_any (meets a) (of_kind kind l) ≡ false
none_meets_from kind e a [] r le = refl
none_meets_from kind e a (x ∷ l) r le =
    any_step (is_kind kind x) (meets a) (range_of_span x) (of_kind kind l) (meets_beside a x r.1 (inr (omega (arith, r.0)))) (none_meets_from kind x.end a l r.2 (omega (arith, r.0, r.1)))

pub none_meets_above : (kind : Bool) (a : Frames) (l : List Span) → IsRisingFrom 0 l → a.lo + a.len ≤ first_lo l → list_any (meets a) (of_kind kind l) ≡ false
none_meets_above kind a [] r le = refl
none_meets_above kind a (x ∷ l) r le =
    any_step (is_kind kind x) (meets a) (range_of_span x) (of_kind kind l) (meets_beside a x r.1 (inr le)) (none_meets_from kind x.end a l r.2 (omega (arith, r.1)))

-- One more.

-- what rises above a range's first frame stands after it
insert_front : (f : Frames) (e : ℕ) (kind : Bool) (l : List Span) → IsRisingFrom e l → f.lo < e → insert_rising f (of_kind kind l) ≡ f ∷ of_kind kind l
insert_front f e kind [] r lt = refl
insert_front f e kind (y ∷ l) r lt = split (insert_front f y.end kind l r.2 (omega (arith, r.0, r.1))) (is_kind kind y)
  where
    split : insert_rising f (of_kind kind l) ≡ f ∷ of_kind kind l → (b : Bool) → insert_rising f (cond b (range_of_span y ∷ of_kind kind l) (of_kind kind l)) ≡ f ∷ cond b (range_of_span y ∷ of_kind kind l) (of_kind kind l)
    split rest true = let test : nat_lt f.lo y.lo ≡ true = (let p = r.0 in grind (arith, nat_tests)) in rw test refl
    split rest false = rest

pub of_kind-with : (kind : Bool) (e : ℕ) (x : Span) (l : List Span) → is_kind kind x ≡ true → IsRisingFrom e l → of_kind kind (with_span x l) ≡ insert_rising (range_of_span x) (of_kind kind l)
of_kind-with kind e x [] is r = rw is refl
of_kind-with kind e x (y ∷ l) is r = split (of_kind-with kind y.end x l is r.2) (nat_lt x.lo y.lo) refl
  where
    kinds : nat_lt x.lo y.lo ≡ false → of_kind kind (with_span x l) ≡ insert_rising (range_of_span x) (of_kind kind l) → (c : Bool)
        → cond c (range_of_span y ∷ of_kind kind (with_span x l)) (of_kind kind (with_span x l)) ≡ insert_rising (range_of_span x) (cond c (range_of_span y ∷ of_kind kind l) (of_kind kind l))
    kinds h rest true = rw h (ap (λ (z : List Frames). range_of_span y ∷ z) rest)
    kinds h rest false = rest

    split : of_kind kind (with_span x l) ≡ insert_rising (range_of_span x) (of_kind kind l) → (b : Bool) → nat_lt x.lo y.lo ≡ b → of_kind kind (with_span x (y ∷ l)) ≡ insert_rising (range_of_span x) (of_kind kind (y ∷ l))
    split rest true h =
        let front = insert_front (range_of_span x) (x.lo + 1) kind (y ∷ l) (let p : x.lo < y.lo = grind (arith, nat_tests) in (omega arith, r.1, r.2)) (omega arith) in
        rw (h, is) (sym front)
    split rest false h = ap (λ z. of_kind kind (cond z (x ∷ y ∷ l) (y ∷ with_span x l))) h ∙ kinds h rest (is_kind kind y)

pub of_kind-other : (kind : Bool) (x : Span) (l : List Span) → is_kind kind x ≡ false → of_kind kind (with_span x l) ≡ of_kind kind l
of_kind-other kind x [] is = rw is refl
of_kind-other kind x (y ∷ l) is = split (of_kind-other kind x l is) (nat_lt x.lo y.lo)
  where
    split : of_kind kind (with_span x l) ≡ of_kind kind l → (b : Bool) → of_kind kind (cond b (x ∷ y ∷ l) (y ∷ with_span x l)) ≡ of_kind kind (y ∷ l)
    split rest true = rw is refl
    split rest false = ap (λ (z : List Frames). cond (is_kind kind y) (range_of_span y ∷ z) z) rest

-- it fits between those that it is clear of
beside : (x y : Span) → x.lo < x.end → y.lo < y.end → not (meets (range_of_span x) (range_of_span y)) ≡ true → (x.end ≤ y.lo) ⊎ (y.end ≤ x.lo)
beside x y p q clear = split (nat_le x.end y.lo) refl (rw (len_end x p, len_end y q) at clear)
  where
    split : (b : Bool) → nat_le x.end y.lo ≡ b → not (nat_lt x.lo y.end && nat_lt y.lo x.end) ≡ true → (x.end ≤ y.lo) ⊎ (y.end ≤ x.lo)
    split true e clear = inl (grind (arith, nat_tests))
    split false e clear = inr (grind (arith, nat_tests))

-- clear of windows and inserted ranges, it is clear of the first, which is one of them, and of the others
first_clear : (f : Frames) (y : Span) (l : List Span) → is_clear f (windows_of (y ∷ l)) ≡ true → is_clear f (inserted_of (y ∷ l)) ≡ true → (not (meets f (range_of_span y)) ≡ true) × (is_clear f (windows_of l) ≡ true) × (is_clear f (inserted_of l) ≡ true)
first_clear f y l w i = split y.window w i
  where
    split : (b : Bool) → is_clear f (cond b (range_of_span y ∷ windows_of l) (windows_of l)) ≡ true → is_clear f (cond (not b) (range_of_span y ∷ inserted_of l) (inserted_of l)) ≡ true
        → (not (meets f (range_of_span y)) ≡ true) × (is_clear f (windows_of l) ≡ true) × (is_clear f (inserted_of l) ≡ true)
    split true w i = let p = and_parts (not (meets f (range_of_span y))) (is_clear f (windows_of l)) w in (p.0, p.1, i)
    split false w i = let p = and_parts (not (meets f (range_of_span y))) (is_clear f (inserted_of l)) i in (p.0, w, p.1)

pub within_with : (from until : ℕ) (x : Span) (l : List Span) → LieWithin from l until → from ≤ x.lo → x.lo < x.end → x.end ≤ until → is_clear (range_of_span x) (windows_of l) ≡ true → is_clear (range_of_span x) (inserted_of l) ≡ true
    → LieWithin from (with_span x l) until
within_with from until x [] h start some end w i = ((start, some, tt), end)
within_with from until x (y ∷ l) h start some end w i =
    let c = first_clear (range_of_span x) y l w i in
    split (nat_lt x.lo y.lo) refl (beside x y some h.0.1 c.0) (λ above. within_with y.end until x l (h.0.2, h.1) above some end c.1 c.2)
  where
    split : (b : Bool) → nat_lt x.lo y.lo ≡ b → (x.end ≤ y.lo) ⊎ (y.end ≤ x.lo) → (y.end ≤ x.lo → LieWithin y.end (with_span x l) until) → LieWithin from (cond b (x ∷ y ∷ l) (y ∷ with_span x l)) until
    split true e (inl below) more = ((start, some, (below, h.0.1, h.0.2)), h.1)
    split true e (inr above) more = let lt : x.lo < y.lo = grind (arith, nat_tests) in absurd (omega (arith, h.0.1))
    split false e (inl below) more = let le : y.lo ≤ x.lo = grind (arith, nat_tests) in absurd (omega arith)
    split false e (inr above) more =
        let rest = more above in
        ((h.0.0, h.0.1, rest.0), rest.1)

-- One less.

pub within_without : (from until : ℕ) (x : Span) (l : List Span) → LieWithin from (with_span x l) until → LieWithin from l until
within_without from until x [] h = (tt, omega (arith, h.0.0, h.0.1, h.1))
within_without from until x (y ∷ l) h = split (nat_lt x.lo y.lo) h (λ k. within_without y.end until x l k)
  where
    split : (b : Bool) → LieWithin from (cond b (x ∷ y ∷ l) (y ∷ with_span x l)) until → (LieWithin y.end (with_span x l) until → LieWithin y.end l until) → LieWithin from (y ∷ l) until
    split true h more = (rising-weaken from x.end (y ∷ l) (omega (arith, h.0.0, h.0.1)) h.0.2, h.1)
    split false h more = let rest = more (h.0.2, h.1) in ((h.0.0, h.0.1, rest.0), rest.1)

-- of those that rise from above a frame none begins there
find_none : (lo e : ℕ) (kind : Bool) (l : List Span) → IsRisingFrom e l → lo < e → (find (begins_at lo) (of_kind kind l) ≡ None) × (remove_at lo (of_kind kind l) ≡ of_kind kind l)
find_none lo e kind [] r lt = (refl, refl)
find_none lo e kind (y ∷ l) r lt = split (find_none lo y.end kind l r.2 (omega (arith, r.0, r.1))) (is_kind kind y)
  where
    split : (find (begins_at lo) (of_kind kind l) ≡ None) × (remove_at lo (of_kind kind l) ≡ of_kind kind l) → (b : Bool) → (find (begins_at lo) (cond b (range_of_span y ∷ of_kind kind l) (of_kind kind l)) ≡ None) × (remove_at lo (cond b (range_of_span y ∷ of_kind kind l) (of_kind kind l)) ≡ cond b (range_of_span y ∷ of_kind kind l) (of_kind kind l))
    split rest true =
        let test : begins_at lo (range_of_span y) ≡ false = (let p = r.0 in grind (arith, nat_tests)) in
        (rw test rest.0, rw test (ap (λ (z : List Frames). range_of_span y ∷ z) rest.1))
    split rest false = rest

-- the range that is taken out is found among those of its kind, and no other begins there
pub taken_kind : (kind : Bool) (e : ℕ) (x : Span) (l : List Span) → is_kind kind x ≡ true → IsRisingFrom e (with_span x l)
    → (find (begins_at x.lo) (of_kind kind (with_span x l)) ≡ Some (range_of_span x)) × (remove_at x.lo (of_kind kind (with_span x l)) ≡ of_kind kind l)
taken_kind kind e x [] is r = let test : begins_at x.lo (range_of_span x) ≡ true = grind (arith, nat_tests) in (rw (is, test) refl, rw (is, test) refl)
taken_kind kind e x (y ∷ l) is r = split (nat_lt x.lo y.lo) r (λ s. taken_kind kind y.end x l is s)
  where
    own : begins_at x.lo (range_of_span x) ≡ true
    own = grind (arith, nat_tests)

    kinds : (c : Bool) → begins_at x.lo (range_of_span y) ≡ false → (find (begins_at x.lo) (of_kind kind (with_span x l)) ≡ Some (range_of_span x)) × (remove_at x.lo (of_kind kind (with_span x l)) ≡ of_kind kind l)
        → (find (begins_at x.lo) (cond c (range_of_span y ∷ of_kind kind (with_span x l)) (of_kind kind (with_span x l))) ≡ Some (range_of_span x))
        × (remove_at x.lo (cond c (range_of_span y ∷ of_kind kind (with_span x l)) (of_kind kind (with_span x l))) ≡ cond c (range_of_span y ∷ of_kind kind l) (of_kind kind l))
    kinds true test i = (rw test i.0, rw test (ap (λ (z : List Frames). range_of_span y ∷ z) i.1))
    kinds false test i = i

    split : (b : Bool) → IsRisingFrom e (cond b (x ∷ y ∷ l) (y ∷ with_span x l))
        → (IsRisingFrom y.end (with_span x l) → (find (begins_at x.lo) (of_kind kind (with_span x l)) ≡ Some (range_of_span x)) × (remove_at x.lo (of_kind kind (with_span x l)) ≡ of_kind kind l))
        → (find (begins_at x.lo) (of_kind kind (cond b (x ∷ y ∷ l) (y ∷ with_span x l))) ≡ Some (range_of_span x)) × (remove_at x.lo (of_kind kind (cond b (x ∷ y ∷ l) (y ∷ with_span x l))) ≡ of_kind kind (y ∷ l))
    split true r rest = (rw (is, own) refl, rw (is, own) refl)
    split false r rest =
        let w = rising_with y.end x l r.2 in
        let test : begins_at x.lo (range_of_span y) ≡ false = (let p = r.1 in let q = w.0 in grind (arith, nat_tests)) in
        kinds (is_kind kind y) test (rest r.2)

-- a range of the other kind isn't found
other_kind : (kind : Bool) (e : ℕ) (x : Span) (l : List Span) → IsRisingFrom e (with_span x l) → find (begins_at x.lo) (of_kind kind l) ≡ None
other_kind kind e x [] r = refl
other_kind kind e x (y ∷ l) r = split (nat_lt x.lo y.lo) r (λ s. other_kind kind y.end x l s)
  where
    kinds : (c : Bool) → begins_at x.lo (range_of_span y) ≡ false → find (begins_at x.lo) (of_kind kind l) ≡ None → find (begins_at x.lo) (cond c (range_of_span y ∷ of_kind kind l) (of_kind kind l)) ≡ None
    kinds true test i = rw test i
    kinds false test i = i

    split : (b : Bool) → IsRisingFrom e (cond b (x ∷ y ∷ l) (y ∷ with_span x l)) → (IsRisingFrom y.end (with_span x l) → find (begins_at x.lo) (of_kind kind l) ≡ None) → find (begins_at x.lo) (of_kind kind (y ∷ l)) ≡ None
    split true r rest = (find_none x.lo x.end kind (y ∷ l) r.2 r.1).0
    split false r rest =
        let w = rising_with y.end x l r.2 in
        let test : begins_at x.lo (range_of_span y) ≡ false = (let p = r.1 in let q = w.0 in grind (arith, nat_tests)) in
        kinds (is_kind kind y) test (rest r.2)

-- what is found among those of a kind, and taken out, is of that kind
pub kind_taken : (kind : Bool) (e : ℕ) (x : Span) (l : List Span) → IsRisingFrom e (with_span x l) → IsSome (find (begins_at x.lo) (of_kind kind (with_span x l))) → is_kind kind x ≡ true
kind_taken kind e x l r found = split (is_kind kind x) refl
  where
    split : (b : Bool) → is_kind kind x ≡ b → is_kind kind x ≡ true
    split true is = is
    split false is =
        let none = other_kind kind e x l r in
        let there = rw (of_kind-other kind x l is, none) at found in
        absurd (cc there)

pub holds_kind : (kind : Bool) (lo : ℕ) (l : List Span) → IsSome (find (begins_at lo) (of_kind kind l)) → Holds lo l
holds_kind kind lo [] found = absurd (cc found)
holds_kind kind lo (x ∷ l) found = split (begins_at lo (range_of_span x)) refl (is_kind kind x) found (λ there. holds_kind kind lo l there)
  where
    split : (b : Bool) → begins_at lo (range_of_span x) ≡ b → (c : Bool) → IsSome (find (begins_at lo) (cond c (range_of_span x ∷ of_kind kind l) (of_kind kind l))) → (IsSome (find (begins_at lo) (of_kind kind l)) → Holds lo l) → Holds lo (x ∷ l)
    split true e c found more = inl (grind (arith, nat_tests))
    split false e true found more = inr (more (rw e at found))
    split false e false found more = inr (more found)

-- Where they lie.

pub kind_rises : (kind : Bool) (from until : ℕ) (l : List Span) → LieWithin from l until → RiseApart from (of_kind kind l) until
kind_rises kind from until [] h = h.1
kind_rises kind from until (x ∷ l) h = split (kind_rises kind x.end until l (h.0.2, h.1)) (is_kind kind x)
  where
    split : RiseApart x.end (of_kind kind l) until → (b : Bool) → RiseApart from (cond b (range_of_span x ∷ of_kind kind l) (of_kind kind l)) until
    split rest true = (h.0.0, omega (arith, h.0.1), rw (len_end x h.0.1) rest)
    split rest false = rise_lower from x.end until (of_kind kind l) (omega (arith, h.0.0, h.0.1)) rest

clear_of_behind : (f : Frames) (kind : Bool) (e : ℕ) (l : List Span) → IsRisingFrom e l → f.lo + f.len ≤ e → is_clear f (of_kind kind l) ≡ true
clear_of_behind f kind e [] r le = refl
clear_of_behind f kind e (y ∷ l) r le = split (clear_of_behind f kind y.end l r.2 (omega (arith, r.0, r.1))) (is_kind kind y)
  where
    split : is_clear f (of_kind kind l) ≡ true → (b : Bool) → is_clear f (cond b (range_of_span y ∷ of_kind kind l) (of_kind kind l)) ≡ true
    split rest true = and_from (not (meets f (range_of_span y))) (is_clear f (of_kind kind l)) (ap not (meets_beside f y r.1 (inr (omega (arith, r.0))))) rest
    split rest false = rest

-- each of the windows of l, which rise from e, is clear of what ends by e, and of what else they are clear of
with_lower : (f : Frames) (e : ℕ) (xs : List Frames) (l : List Span) → IsRisingFrom e l → f.lo + f.len ≤ e → AllByRecursion (λ w. is_clear w xs ≡ true) (windows_of l) → AllByRecursion (λ w. is_clear w (f ∷ xs) ≡ true) (windows_of l)
with_lower f e xs [] r le all = tt
with_lower f e xs (y ∷ l) r le all = split y.window all (λ rest. with_lower f y.end xs l r.2 (omega (arith, r.0, r.1)) rest)
  where
    split : (b : Bool) → AllByRecursion (λ w. is_clear w xs ≡ true) (cond b (range_of_span y ∷ windows_of l) (windows_of l))
        → (AllByRecursion (λ w. is_clear w xs ≡ true) (windows_of l) → AllByRecursion (λ w. is_clear w (f ∷ xs) ≡ true) (windows_of l))
        → AllByRecursion (λ w. is_clear w (f ∷ xs) ≡ true) (cond b (range_of_span y ∷ windows_of l) (windows_of l))
    split true all more =
        let apart : not (meets (range_of_span y) f) ≡ true = (let p = r.0 in grind (arith, nat_tests)) in
        (and_from (not (meets (range_of_span y) f)) (is_clear (range_of_span y) xs) apart all.0, more all.1)
    split false all more = more all

windows_apart : (e : ℕ) (l : List Span) → IsRisingFrom e l → AllByRecursion (λ w. is_clear w (inserted_of l) ≡ true) (windows_of l)
windows_apart e [] r = tt
windows_apart e (x ∷ l) r = split (windows_apart x.end l r.2) x.window
  where
    end : x.lo + (x.end - x.lo) ≤ x.end
    end = omega (arith, r.1)

    split : AllByRecursion (λ w. is_clear w (inserted_of l) ≡ true) (windows_of l) → (b : Bool)
        → AllByRecursion (λ w. is_clear w (cond (not b) (range_of_span x ∷ inserted_of l) (inserted_of l)) ≡ true) (cond b (range_of_span x ∷ windows_of l) (windows_of l))
    split rest true = (clear_of_behind (range_of_span x) false x.end l r.2 end, rest)
    split rest false = with_lower (range_of_span x) x.end (inserted_of l) l r.2 end rest

-- so what a tree keeps is a space
pub kept_space : (bounds : Extent) (l : List Span) (ws : List Frames) → IsTreeKept bounds l ws → IsSpace (space_of bounds l ws)
kept_space bounds l ws h = rw h.windows (record {
  bounds = h.bounds;
  inserted = kind_rises false bounds.start (bounds.last + 1) l h.within;
  windows = kind_rises true bounds.start (bounds.last + 1) l h.within;
  few = rw h.windows at h.few;
  apart = windows_apart bounds.start l h.within.0;
})

pub within_lower : (low from until : ℕ) (l : List Span) → low ≤ from → LieWithin from l until → LieWithin low l until
within_lower low from until [] le h = (tt, omega (arith, h.1))
within_lower low from until (x ∷ l) le h = (rising-weaken low from (x ∷ l) le h.0, h.1)
