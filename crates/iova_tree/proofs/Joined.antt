-- A window in the place of those that it joins.
use Rattle.std.proofs.Common.{◌≡◌, ◌+◌, ◌<◌, true, false, List, length, ◌∙◌}
use Rattle.std.specs.List.{list_any}
use Rattle.iova_range.specs.Frames.{Frames, meets}
use Rattle.iova_range.specs.Bounds.{Extent}
use Rattle.iova_model.specs.Fit.{is_clear}
use Rattle.iova_model.specs.Next.{union, windows_with}
use Rattle.iova_tree.specs.Spans.{Span, span_of, inserted_of, with_span, with_replaced, IsRisingFrom}
use Rattle.iova_tree.specs.Space.{IsTreeKept, IsInside, IsPartOf, IsLeftBut, clear_of}
use Rattle.iova_tree.proofs.Allocated.{within_lower}
use Rattle.iova_tree.proofs.Kept.{rises_from_zero, union_kept, inserted_beside}
use Rattle.iova_tree.proofs.Taking.{replaced_is}

-- what is known once u, the union of `asked` with the windows that it meets, stands in the place of the one that stayed
pub record IsJoined (b : Extent) (asked kept u : Frames) (l now : List Span) (ws others : List Frames) : Type 0 where
  pub inside : IsInside b u
  pub clear : is_clear u others ≡ true
  pub free : IsRisingFrom 0 (with_replaced kept.lo (span_of u true) now)
  pub whole : IsTreeKept b (with_replaced kept.lo (span_of u true) now) (windows_with asked ws)
  pub inserted : inserted_of (with_replaced kept.lo (span_of u true) now) ≡ inserted_of l

pub joined : (b : Extent) (asked kept u : Frames) (l now : List Span) (ws others : List Frames) → IsTreeKept b l ws → IsInside b asked → list_any (meets asked) (inserted_of l) ≡ false → length (clear_of asked ws) < 64
    → IsLeftBut kept l others now → IsPartOf kept u → others ≡ clear_of asked ws → u ≡ union asked ws → IsJoined b asked kept u l now ws others
joined b asked kept u l now ws others h inside clear few t part rest is =
    let k = union_kept b asked l t.rest ws others h inside clear few (t.left.within b.start (b.last + 1) h.within) rest t.left.windows_are t.left.inserted in
    let within = within_lower 1 b.start (b.last + 1) l h.bounds.bounds.above_zero h.within in
    let e : with_replaced kept.lo (span_of u true) now ≡ with_span (span_of u true) t.rest = replaced_is kept u l now others (b.last + 1) t within part (rw is (rises_from_zero b _ k.rises)) in
    record {
      inside = rw is k.inside;
      clear = rw is k.clear;
      free = rw (e, is) (rises_from_zero b _ k.rises);
      whole = rw (e, is) k.kept;
      inserted = rw e (inserted_beside t.rest u ∙ t.left.inserted);
    }
