use Rattle.std.proofs.Common.{◌≡◌}
use Rattle.std.specs.Prelude.{drop}
use Rattle.std.specs.List.{list_any}
use Rattle.iova_model.specs.State.{list_holders}
use Rattle.iova_depot.specs.Stored.{lists_of}
use Rattle.iova_depot.proofs.Found.{has}
use Rattle.iova_depot.proofs.depot.Depot.has_frame.Given as goal

-- what is sought is in this magazine or after it, if it is there
abbrev pub invariant-loop-magazine : goal.invariant-loop-magazine
invariant-loop-magazine l =
    list_any (has l.frame) (list_holders l.order (drop l.magazine-index (lists_of l.magazine-items))) ≡ list_any (has l.frame) (list_holders l.order (lists_of l.magazine-items))
