-- The tree once a request has taken its place.
use Rattle.std.proofs.Common.{◌≡◌, ℕ, ◌+◌, min, List, Some, sym, ◌∙◌}
use Rattle.iova_range.specs.Frames.{Frames}
use Rattle.iova_range.specs.Bounds.{Extent}
use Rattle.iova_model.specs.Fit.{best}
use Rattle.iova_model.specs.Clients.{insert_rising}
use Rattle.iova_model.proofs.Placing.{best-from, best-place}
use Rattle.iova_tree.specs.declared.search.Wanted.{Wanted}
use Rattle.iova_tree.specs.Fit.{IsWanted, highest_free, taken}
use Rattle.iova_tree.specs.Spans.{Span, inserted_of, with_span}
use Rattle.iova_tree.specs.Space.{IsTreeKept, ranges_of, space_of}
use Rattle.iova_tree.proofs.Allocated.{kept_space}
use Rattle.iova_tree.proofs.Fits.{highest_free-best}
use Rattle.iova_tree.proofs.Kept.{best_kept, kept_insert, inserted_with}
use Rattle.iova_tree.proofs.Spaces.{space_some}

module _ (b : Extent) (l : List Span) (ws : List Frames) (w : Wanted) (limit : ℕ) (h : IsWanted w) (cap : w.cap ≡ min limit b.last + 1) (k : IsTreeKept b l ws) where
  pub found_best : highest_free w b.start l ≡ best b (ranges_of (space_of b l ws)) w.size limit
  found_best = best-from b (ranges_of (space_of b l ws)) w.size limit _ h.some (space_some _ (kept_space b l ws k)) (best_kept b l ws w.size limit _ k (highest_free-best b w limit l h cap k.within.0))

  pub record IsTaken (lo : ℕ) : Type 0 where
    pub kept : IsTreeKept b (with_span (taken w lo) l) ws
    pub inserted : inserted_of (with_span (taken w lo) l) ≡ insert_rising (record { lo = lo; len = w.size }) (inserted_of l)

  pub is_taken : (lo : ℕ) → highest_free w b.start l ≡ Some lo → IsTaken lo
  is_taken lo found =
      let place = best-place b (ranges_of (space_of b l ws)) w.size limit lo h.some (sym found ∙ found_best) in
      let r : Frames = record { lo = lo; len = w.size } in
      record {
        kept = kept_insert b l ws r k (record { some = h.some; start = place.start; last = place.last }) place.clear;
        inserted = inserted_with b l ws r k;
      }
