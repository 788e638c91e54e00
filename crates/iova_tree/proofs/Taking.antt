-- How the walk over the windows takes their ranges out of the tree.
use Rattle.std.proofs.Common.{◌≡◌, ℕ, ◌+◌, ◌<◌, ◌≤◌, ◌-◌, zero, suc, true, false, List, [], ◌∷◌, length, Option, Some, None, slice_index_or, refl, sym, ap, ◌∙◌, subst, arith}
use Rattle.std.specs.Prelude.{find, remove, IsSome, All}
use Rattle.std.proofs.lemmas.Bool.Decides.{nat_tests}
use Rattle.iova_range.specs.Frames.{Frames, join}
use Rattle.iova_model.specs.Clients.{begins_at, remove_at}
use Rattle.iova_tree.specs.Spans.{Span, range_of_span, span_of, windows_of, is_kind, with_span, with_replaced, IsRisingFrom, Holds}
use Rattle.iova_tree.specs.Space.{RiseApart, LieWithin, IsPartOf, IsLeftOf, IsLeftBut, AreTakenBut}
use Rattle.iova_tree.proofs.Spans.{rising-weaken, rising_with, with_span-cancel, replaced-with, holds_with, one_of}
use Rattle.iova_tree.proofs.Allocated.{of_kind-other, taken_kind, kind_taken, within_without, kind_rises, holds_kind}
use Rattle.iova_tree.proofs.Apart.{StandsAt, rise_within}

pub left_first : (old : List Span) (before : List Frames) → before ≡ windows_of old → IsLeftOf old before old
left_first old before same = record { windows_are = same; inserted = refl; within = λ from until h. h }

-- a range of some that rise apart is the one that is found where it begins
pub stands_own : (from until : ℕ) (xs : List Frames) (p : ℕ) (d : Frames) → RiseApart from xs until → p < length xs → StandsAt (slice_index_or xs p d).lo xs p
stands_own from until [] p d h lt = absurd (omega arith)
stands_own from until (x ∷ xs) zero d h lt =
    let test : begins_at x.lo x ≡ true = grind (arith, nat_tests) in
    record { within = lt; found = λ e. rw test refl; without = rw test refl }
stands_own from until (x ∷ xs) (suc p) d h lt =
    let rest = stands_own (x.lo + x.len) until xs p d h.2 (omega arith) in
    let start = (rise_within (x.lo + x.len) until xs p d h.2 (omega arith)).start in
    let some : 1 ≤ x.len = h.1 in
    let test : begins_at (slice_index_or xs p d).lo x ≡ false = grind (arith, nat_tests) in
    record {
      within = lt;
      found = λ e. rw test (rest.found e);
      without = rw test (ap (λ (ys : List Frames). x ∷ ys) rest.without);
    }

-- what is known of the window at place i
pub record IsAt (now : List Span) (windows : List Frames) (i : ℕ) (w : Frames) : Type 0 where
  pub found : find (begins_at w.lo) (windows_of now) ≡ Some w
  pub without : remove windows i ≡ remove_at w.lo (windows_of now)
  pub above_zero : 1 ≤ w.lo

pub is_at : (old now : List Span) (windows : List Frames) (i until : ℕ) (w : Frames) → IsLeftOf old windows now → LieWithin 1 old until → i < length windows → w ≡ slice_index_or windows i w → IsAt now windows i w
is_at old now windows i until w t within lt is =
    let rise : RiseApart 1 (windows_of now) until = kind_rises true 1 until now (t.within 1 until within) in
    let here : w ≡ slice_index_or (windows_of now) i w = rw t.windows_are at is in
    let lt' : i < length (windows_of now) = rw t.windows_are at lt in
    let s : StandsAt w.lo (windows_of now) i = subst (λ (x : Frames). StandsAt x.lo (windows_of now) i) (sym here) (stands_own 1 until (windows_of now) i w rise lt') in
    let start : 1 ≤ w.lo = subst (λ (x : Frames). 1 ≤ x.lo) (sym here) (rise_within 1 until (windows_of now) i w rise lt').start in
    record {
      found = s.found w ∙ ap (λ (x : Frames). Some x) (sym here);
      without = rw t.windows_are s.without;
      above_zero = start;
    }

some_frames : {v w : Frames} → Some v ≡ Some w → v ≡ w
some_frames {v} {w} e = cc

some_is : {o : Option Frames} {w : Frames} → o ≡ Some w → IsSome o
some_is e = rw e refl

at_held : (now : List Span) (windows : List Frames) (i : ℕ) (w : Frames) → IsAt now windows i w → Holds w.lo now
at_held now windows i w a = holds_kind true w.lo now (some_is a.found)

span_is : (x : Span) (w : Frames) → x.window ≡ true → x.lo < x.end → range_of_span x ≡ w → x ≡ span_of w true
span_is x w kind lt is =
    let e : x.lo + (x.end - x.lo) ≡ x.end = omega arith in
    rw (← is, e, ← kind) refl

-- the window at place i goes from the list alone
pub left_but : (old now : List Span) (windows : List Frames) (i until : ℕ) (w : Frames) → IsLeftOf old windows now → LieWithin 1 old until → IsAt now windows i w → IsLeftBut w old (remove windows i) now
left_but old now windows i until w t within a =
    let rise : IsRisingFrom 1 now = (t.within 1 until within).0 in
    let o = one_of 1 w.lo now rise (at_held now windows i w a) in
    let x = o.one in
    let rising : IsRisingFrom 1 (with_span x o.others) = rw o.is at rise in
    let there : IsSome (find (begins_at x.lo) (windows_of (with_span x o.others))) = subst (λ (l : List Span). IsSome (find (begins_at x.lo) (windows_of l))) o.is (subst (λ (lo : ℕ). IsSome (find (begins_at lo) (windows_of now))) (sym o.begins) (some_is a.found)) in
    let kind : x.window ≡ true = kind_taken true 1 x o.others rising there in
    let k = taken_kind true 1 x o.others kind rising in
    let found : find (begins_at w.lo) (windows_of now) ≡ Some (range_of_span x) = subst (λ (l : List Span). find (begins_at w.lo) (windows_of l) ≡ Some (range_of_span x)) (sym o.is) (subst (λ (lo : ℕ). find (begins_at lo) (windows_of (with_span x o.others)) ≡ Some (range_of_span x)) o.begins k.0) in
    let same : range_of_span x ≡ w = some_frames (sym found ∙ a.found) in
    let is : x ≡ span_of w true = span_is x w kind (rising_with 1 x o.others rising).1 same in
    let other : is_kind false x ≡ false = rw kind refl in
    record {
      rest = o.others;
      left = record {
        windows_are = a.without ∙ (subst (λ (l : List Span). remove_at w.lo (windows_of l) ≡ windows_of o.others) (sym o.is) (subst (λ (lo : ℕ). remove_at lo (windows_of (with_span x o.others)) ≡ windows_of o.others) o.begins k.1));
        inserted = sym (of_kind-other false x o.others other) ∙ (rw o.is at t.inserted);
        within = λ f u h. within_without f u x o.others (rw o.is at (t.within f u h));
      };
      is = rw (← is) o.is;
      within = t.within;
    }

-- the one that stayed is there
pub but_held : (k : Frames) (old now : List Span) (windows : List Frames) → IsLeftBut k old windows now → Holds k.lo now
but_held k old now windows t = rw t.is (holds_with (span_of k true) t.rest)

pub rises_but : (k : Frames) (old now : List Span) (windows : List Frames) (until : ℕ) → IsLeftBut k old windows now → LieWithin 1 old until → IsRisingFrom 0 now
rises_but k old now windows until t within = rising-weaken 0 1 now (omega arith) (t.within 1 until within).0

-- and once it is taken out, the others are left
pub left_once : (k : Frames) (old now next : List Span) (windows : List Frames) (until : ℕ) (x : Span) → IsLeftBut k old windows now → LieWithin 1 old until → now ≡ with_span x next → x.lo ≡ k.lo → IsLeftOf old windows next
left_once k old now next windows until x t within taken lo =
    let rising : IsRisingFrom 0 now = rising-weaken 0 1 now (omega arith) (t.within 1 until within).0 in
    let same : t.rest ≡ next = with_span-cancel (span_of k true) x t.rest next (rw t.is at rising) (sym t.is ∙ taken) lo in
    rw (← same) t.left

-- none of the windows has frame 0
pub above_zero : (old : List Span) (before : List Frames) (until : ℕ) → LieWithin 1 old until → before ≡ windows_of old → All (λ (w : Frames). 1 ≤ w.lo) before
above_zero old before until within same = rw same (λ k d lt. (rise_within 1 until (windows_of old) k d (kind_rises true 1 until old within) lt).start)

pub above_any : (kept : Option Frames) (old now : List Span) (windows : List Frames) (i until : ℕ) (w : Frames) → AreTakenBut kept old windows now → LieWithin 1 old until → i < length windows → w ≡ slice_index_or windows i w → 1 ≤ w.lo
above_any None old now windows i until w t within lt is = (is_at old now windows i until w t within lt is).above_zero
above_any (Some k) old now windows i until w t within lt is = (is_at old t.rest windows i until w t.left within lt is).above_zero

pub part_join : (a b : Frames) → IsPartOf b (join a b)
part_join a b = record { start = omega arith; end = omega arith }

-- with the union in its place
pub replaced_is : (k u : Frames) (old now : List Span) (windows : List Frames) (until : ℕ) → (t : IsLeftBut k old windows now) → LieWithin 1 old until → IsPartOf k u → IsRisingFrom 0 (with_span (span_of u true) t.rest)
    → with_replaced k.lo (span_of u true) now ≡ with_span (span_of u true) t.rest
replaced_is k u old now windows until t within part rises =
    let rising : IsRisingFrom 0 now = rising-weaken 0 1 now (omega arith) (t.within 1 until within).0 in
    rw t.is (replaced-with 0 0 (span_of k true) (span_of u true) t.rest (rw t.is at rising) rises part.start part.end)
