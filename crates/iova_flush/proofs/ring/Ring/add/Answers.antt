use Rattle.std.proofs.Common.{arith}
use Rattle.iova_flush.proofs.RingSteps.{frames_bound}
use Rattle.iova_flush.proofs.ring.Ring.add.Goals as goal

pub overflow_add-self : goal.overflow_add-self
overflow_add-self c = omega (arith, frames_bound c.self.invariant)
