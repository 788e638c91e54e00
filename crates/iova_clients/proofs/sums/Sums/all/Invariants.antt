use Rattle.std.proofs.Common.{◌≡◌, drop}
use Rattle.iova_model.specs.Effects.{add_totals}
use Rattle.iova_clients.specs.Sums.{added}
use Rattle.iova_clients.proofs.sums.Sums.all.Given as goal

-- what was added up, with the shares that are left, is all of them
abbrev pub invariant-loop-share : goal.invariant-loop-share
invariant-loop-share l =
    add_totals l.all (added (drop l.share-index l.share-items)) ≡ added l.share-items
