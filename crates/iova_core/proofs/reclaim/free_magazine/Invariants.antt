use Rattle.std.proofs.Common.{take}
use Rattle.iova_model.specs.Caches.{of_order}
use Rattle.iova_core.specs.Reclaim.{Frees}
use Rattle.iova_core.proofs.reclaim.free_magazine.Given as goal

-- the ranges so far are free
abbrev pub invariant-loop-lo : goal.invariant-loop-lo
invariant-loop-lo l = Frees l.fn.tree l.tree (of_order l.order (take l.lo-index l.magazine.entries))
