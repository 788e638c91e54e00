-- What a tree keeps through its calls, and what these make of its ranges.
use Rattle.std.proofs.Common.{◌≡◌, ℕ, ◌+◌, ◌-◌, ◌<◌, ◌≤◌, ◌||◌, Bool, true, false, not, cond, List, [], ◌∷◌, ◌++◌, length, Option, Some, refl, sym, ap, ◌∙◌, subst, arith}
use Rattle.std.specs.Prelude.{find, IsSome}
use Rattle.std.specs.List.{list_any}
use Rattle.std.proofs.lemmas.Bool.{and_parts, and_from}
use Rattle.iova_range.specs.Frames.{Frames, meets}
use Rattle.iova_range.specs.Bounds.{Extent}
use Rattle.iova_model.specs.Fit.{IsBest, is_covered, is_clear}
use Rattle.iova_model.specs.Clients.{insert_rising, remove_at, begins_at}
use Rattle.iova_model.specs.Next.{union, windows_with}
use Rattle.iova_model.proofs.Placing.{IsBest-same}
use Rattle.iova_tree.specs.Spans.{Span, range_of_span, all_of, windows_of, inserted_of, span_of, with_span, IsRisingFrom, Holds}
use Rattle.iova_tree.specs.Space.{IsTreeKept, IsInside, LieWithin, space_of, ranges_of, clear_of}
use Rattle.iova_tree.proofs.Spans.{rising-weaken, rising_with}
use Rattle.iova_tree.proofs.Apart.{LiesWithin, is_clear-append}
use Rattle.iova_tree.proofs.Allocated.{within_with, within_without, of_kind-with, of_kind-other, taken_kind, kind_taken, holds_kind, covered_kinds, kept_space}
use Rattle.iova_tree.proofs.Unions.{union_within, union_clear_others, union_clear}
use Rattle.iova_tree.proofs.Windows.{length-insert_rising}

pub frames_span : (r : Frames) (window : Bool) → range_of_span (span_of r window) ≡ r
frames_span r window = let e : r.lo + r.len - r.lo ≡ r.len = omega arith in rw e refl

-- One more.

with_within : (b : Extent) (l : List Span) (r : Frames) (window : Bool) → LieWithin b.start l (b.last + 1) → IsInside b r → is_clear r (windows_of l) ≡ true → is_clear r (inserted_of l) ≡ true → LieWithin b.start (with_span (span_of r window) l) (b.last + 1)
with_within b l r window h inside w i =
    let e = frames_span r window in
    within_with b.start (b.last + 1) (span_of r window) l h inside.start (omega (arith, inside.some)) inside.last (subst (λ f. is_clear f (windows_of l) ≡ true) (sym e) w) (subst (λ f. is_clear f (inserted_of l) ≡ true) (sym e) i)

-- a range that is clear of all is clear of the windows of the tree, and of the inserted ranges
parts_clear : (b : Extent) (l : List Span) (ws : List Frames) (r : Frames) → IsTreeKept b l ws → is_clear r (ws ++ inserted_of l) ≡ true → (is_clear r (windows_of l) ≡ true) × (is_clear r (inserted_of l) ≡ true)
parts_clear b l ws r h clear =
    let p = is_clear-append r ws (inserted_of l) clear in
    (rw h.windows at p.0, p.1)

pub with_rises : (b : Extent) (l : List Span) (ws : List Frames) (r : Frames) (window : Bool) → IsTreeKept b l ws → IsInside b r → is_clear r (ws ++ inserted_of l) ≡ true → LieWithin b.start (with_span (span_of r window) l) (b.last + 1)
with_rises b l ws r window h inside clear =
    let p = parts_clear b l ws r h clear in
    with_within b l r window h.within inside p.0 p.1

pub rises_from_zero : (b : Extent) (l : List Span) → LieWithin b.start l (b.last + 1) → IsRisingFrom 0 l
rises_from_zero b l h = rising-weaken 0 b.start l (omega arith) h.0

pub inserted_with : (b : Extent) (l : List Span) (ws : List Frames) (r : Frames) → IsTreeKept b l ws → inserted_of (with_span (span_of r false) l) ≡ insert_rising r (inserted_of l)
inserted_with b l ws r h = of_kind-with false b.start (span_of r false) l refl h.within.0 ∙ ap (λ f. insert_rising f (inserted_of l)) (frames_span r false)

pub kept_insert : (b : Extent) (l : List Span) (ws : List Frames) (r : Frames) → IsTreeKept b l ws → IsInside b r → is_clear r (ws ++ inserted_of l) ≡ true → IsTreeKept b (with_span (span_of r false) l) ws
kept_insert b l ws r h inside clear = record {
  bounds = h.bounds;
  within = with_rises b l ws r false h inside clear;
  windows = h.windows ∙ sym (of_kind-other true (span_of r false) l refl);
  few = h.few;
}

windows_with_span : (b : Extent) (l : List Span) (r : Frames) → LieWithin b.start l (b.last + 1) → windows_of (with_span (span_of r true) l) ≡ insert_rising r (windows_of l)
windows_with_span b l r h = of_kind-with true b.start (span_of r true) l refl h.0 ∙ ap (λ f. insert_rising f (windows_of l)) (frames_span r true)

-- one window more among those of the tree
kept_with_window : (b : Extent) (l : List Span) (ws : List Frames) (r : Frames) → IsTreeKept b l ws → IsInside b r → is_clear r (windows_of l) ≡ true → is_clear r (inserted_of l) ≡ true → length ws < 64 → IsTreeKept b (with_span (span_of r true) l) (insert_rising r ws)
kept_with_window b l ws r h inside w i few = record {
  bounds = h.bounds;
  within = with_within b l r true h.within inside w i;
  windows = ap (insert_rising r) h.windows ∙ sym (windows_with_span b l r h.within);
  few = rw (length-insert_rising r ws) (omega arith);
}

pub kept_window : (b : Extent) (l : List Span) (ws : List Frames) (r : Frames) → IsTreeKept b l ws → IsInside b r → is_clear r (ws ++ inserted_of l) ≡ true → length ws < 64 → IsTreeKept b (with_span (span_of r true) l) (insert_rising r ws)
kept_window b l ws r h inside clear few =
    let p = parts_clear b l ws r h clear in
    kept_with_window b l ws r h inside p.0 p.1 few

pub inserted_beside : (l : List Span) (r : Frames) → inserted_of (with_span (span_of r true) l) ≡ inserted_of l
inserted_beside l r = of_kind-other false (span_of r true) l refl

pub clear_windows : (ws xs : List Frames) (r : Frames) → is_clear r (ws ++ xs) ≡ true → is_clear r ws ≡ true
clear_windows ws xs r clear = (is_clear-append r ws xs clear).0

-- One less.

pub inserted_held : (lo : ℕ) (l : List Span) → IsSome (find (begins_at lo) (inserted_of l)) → Holds lo l
inserted_held lo l found = holds_kind false lo l found

-- what is known of the range that was inserted at lo, once it is taken out
pub record IsTakenOut (b : Extent) (lo : ℕ) (x : Span) (l rest : List Span) (ws : List Frames) : Type 0 where
  pub some : x.lo < x.end
  pub found : find (begins_at lo) (inserted_of l) ≡ Some (range_of_span x)
  pub without : inserted_of rest ≡ remove_at lo (inserted_of l)
  pub kept : IsTreeKept b rest ws

pub taken_out : (b : Extent) (lo : ℕ) (x : Span) (l rest : List Span) (ws : List Frames) → IsTreeKept b l ws → l ≡ with_span x rest → x.lo ≡ lo → IsSome (find (begins_at lo) (inserted_of l)) → IsTakenOut b lo x l rest ws
taken_out b lo x l rest ws h is begins found =
    let within : LieWithin b.start (with_span x rest) (b.last + 1) = rw is at h.within in
    let there : IsSome (find (begins_at x.lo) (inserted_of (with_span x rest))) = subst (λ (k : List Span). IsSome (find (begins_at x.lo) (inserted_of k))) is (subst (λ (n : ℕ). IsSome (find (begins_at n) (inserted_of l))) (sym begins) found) in
    let kind = kind_taken false b.start x rest within.0 there in
    let t = taken_kind false b.start x rest kind within.0 in
    let other : x.window ≡ false = not_window x.window kind in
    record {
      some = (rising_with b.start x rest within.0).1;
      found = subst (λ (k : List Span). find (begins_at lo) (inserted_of k) ≡ Some (range_of_span x)) (sym is) (subst (λ (n : ℕ). find (begins_at n) (inserted_of (with_span x rest)) ≡ Some (range_of_span x)) begins t.0);
      without = sym (subst (λ (k : List Span). remove_at lo (inserted_of k) ≡ inserted_of rest) (sym is) (subst (λ (n : ℕ). remove_at n (inserted_of (with_span x rest)) ≡ inserted_of rest) begins t.1));
      kept = record {
        bounds = h.bounds;
        within = within_without b.start (b.last + 1) x rest within;
        windows = h.windows ∙ (ap windows_of is ∙ of_kind-other true x rest other);
        few = h.few;
      };
    }
  where
    not_window : (w : Bool) → not w ≡ true → w ≡ false
    not_window true e = sym e
    not_window false e = refl

-- Windows that join.

-- what is known of the union of a range with the windows that it meets, once these are taken out
pub record IsUnion (b : Extent) (asked : Frames) (l rest : List Span) (ws others : List Frames) : Type 0 where
  pub inside : IsInside b (union asked ws)
  pub rises : LieWithin b.start (with_span (span_of (union asked ws) true) rest) (b.last + 1)
  pub clear : is_clear (union asked ws) others ≡ true
  pub kept : IsTreeKept b (with_span (span_of (union asked ws) true) rest) (windows_with asked ws)

pub union_kept : (b : Extent) (asked : Frames) (l rest : List Span) (ws others : List Frames) → IsTreeKept b l ws → IsInside b asked → list_any (meets asked) (inserted_of l) ≡ false → length (clear_of asked ws) < 64
    → LieWithin b.start rest (b.last + 1) → others ≡ clear_of asked ws → others ≡ windows_of rest → inserted_of rest ≡ inserted_of l → IsUnion b asked l rest ws others
union_kept b asked l rest ws others h inside clear few within is same inserted =
    let s = kept_space b l ws h in
    let top = b.last + 1 in
    let u = union asked ws in
    let own : LiesWithin b.start top asked = record { start = inside.start; some = inside.some; end = inside.last } in
    let lies = union_within b.start top asked ws own s.windows in
    let in_bounds : IsInside b u = record { some = lies.some; start = lies.start; last = lies.end } in
    let clear_others : is_clear u others ≡ true = rw is (union_clear_others b.start top asked ws inside.some s.windows) in
    let clear_inserted : is_clear u (inserted_of rest) ≡ true = rw inserted (union_clear b.start top asked ws (inserted_of l) inside.some s.inserted clear s.apart) in
    let k : IsTreeKept b rest others = record { bounds = h.bounds; within = within; windows = same; few = rw is (omega arith) } in
    let w : is_clear u (windows_of rest) ≡ true = rw same at clear_others in
    let whole : IsTreeKept b (with_span (span_of u true) rest) (insert_rising u others) = kept_with_window b rest others u k in_bounds w clear_inserted (rw is few) in
    record {
      inside = in_bounds;
      rises = with_within b rest u true within in_bounds w clear_inserted;
      clear = clear_others;
      kept = subst (λ (xs : List Frames). IsTreeKept b (with_span (span_of u true) rest) (insert_rising u xs)) is whole;
    }

-- The search.

pub best_kept : (b : Extent) (l : List Span) (ws : List Frames) (size limit : ℕ) (o : Option ℕ) → IsTreeKept b l ws → IsBest b (all_of l) size limit o → IsBest b (ranges_of (space_of b l ws)) size limit o
best_kept b l ws size limit o h best =
    IsBest-same b (all_of l) (ws ++ inserted_of l) size limit o (λ frame. rw h.windows (covered_kinds frame l)) best

pub covered_kept : (b : Extent) (l : List Span) (ws : List Frames) (frame : ℕ) → IsTreeKept b l ws → is_covered frame (ranges_of (space_of b l ws)) ≡ is_covered frame (all_of l)
covered_kept b l ws frame h = rw h.windows (covered_kinds frame l)

-- A window that joins none.

length_clear : (r : Frames) (ws : List Frames) → length (clear_of r ws) ≤ length ws
length_clear r [] = omega arith
length_clear r (w ∷ ws) = split (length_clear r ws) (not (meets r w))
  where
    split : length (clear_of r ws) ≤ length ws → (b : Bool) → length (cond b (w ∷ clear_of r ws) (clear_of r ws)) ≤ length (w ∷ ws)
    split le true = omega arith
    split le false = omega arith

-- where as many as there are have no frame in common with it, it meets none
pub record IsAlone (r : Frames) (ws : List Frames) : Type 0 where
  pub union : union r ws ≡ r
  pub others : clear_of r ws ≡ ws
  pub clear : is_clear r ws ≡ true

pub alone : (r : Frames) (ws : List Frames) → length ws ≤ length (clear_of r ws) → IsAlone r ws
alone r [] le = record { union = refl; others = refl; clear = refl }
alone r (w ∷ ws) le = split (meets r w) refl le (λ h. alone r ws h)
  where
    split : (b : Bool) → meets r w ≡ b → length (w ∷ ws) ≤ length (cond (not b) (w ∷ clear_of r ws) (clear_of r ws)) → (length ws ≤ length (clear_of r ws) → IsAlone r ws) → IsAlone r (w ∷ ws)
    split true e le rest = absurd (let n = length_clear r ws in omega arith)
    split false e le rest =
        let h = rest (omega arith) in
        record { union = rw e h.union; others = rw e (ap (λ (xs : List Frames). w ∷ xs) h.others); clear = rw e h.clear }

none_clear : (r : Frames) (xs : List Frames) → list_any (meets r) xs ≡ false → is_clear r xs ≡ true
none_clear r [] e = refl
none_clear r (x ∷ xs) e = split (meets r x) refl e (λ h. none_clear r xs h)
  where
    split : (b : Bool) → meets r x ≡ b → (b || list_any (meets r) xs) ≡ false → (list_any (meets r) xs ≡ false → is_clear r xs ≡ true) → is_clear r (x ∷ xs) ≡ true
    split true is e rest = absurd (cc e)
    split false is e rest = rw is (rest e)

clear_both : (r : Frames) (ws xs : List Frames) → is_clear r ws ≡ true → is_clear r xs ≡ true → is_clear r (ws ++ xs) ≡ true
clear_both r [] xs a b = b
clear_both r (w ∷ ws) xs a b =
    let p = and_parts (not (meets r w)) (is_clear r ws) a in
    and_from (not (meets r w)) (is_clear r (ws ++ xs)) p.0 (clear_both r ws xs p.1 b)

pub alone_free : (r : Frames) (ws xs : List Frames) → IsAlone r ws → list_any (meets r) xs ≡ false → is_clear r (ws ++ xs) ≡ true
alone_free r ws xs h none = clear_both r ws xs h.clear (none_clear r xs none)

pub alone_windows : (r : Frames) (ws : List Frames) → IsAlone r ws → windows_with r ws ≡ insert_rising r ws
alone_windows r ws h = ap (λ (u : Frames). insert_rising u (clear_of r ws)) h.union ∙ ap (insert_rising r) h.others
