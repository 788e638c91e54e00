use Rattle.iova_model.specs.Effects.{frames_of}
use Rattle.iova_model.specs.State.{cached_holders}
use Rattle.iova_core.proofs.Drains.{IsEmptying}
use Rattle.iova_core.proofs.reclaim.empty.Given as goal

-- some ranges have left the caches, and are free
abbrev pub invariant-loop-order : goal.invariant-loop-order
invariant-loop-order l = IsEmptying l.fn.tree l.tree l.fn.caches l.caches

abbrev pub decreases-loop-order : goal.decreases-loop-order
decreases-loop-order l = frames_of (cached_holders l.caches.caches)
