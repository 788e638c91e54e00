use Rattle.std.proofs.Common.{length}
use Rattle.iova_core.specs.Reclaim.{IsDrained}
use Rattle.iova_core.proofs.reclaim.drain_flushed.Given as goal

-- so many entries have left the ring
abbrev pub invariant-loop-entry : goal.invariant-loop-entry
invariant-loop-entry l = IsDrained l.fn.tree l.tree l.fn.caches l.caches l.fn.ring l.ring l.w l.finish l.count

abbrev pub decreases-loop-entry : goal.decreases-loop-entry
decreases-loop-entry l = length l.ring
