use Rattle.iova_flush.proofs.RingSteps.{frames_bound}
use Rattle.iova_flush.proofs.ring.Ring.frames.Goals as goal

pub returns-clause-bounded : goal.returns-clause-bounded
returns-clause-bounded c = frames_bound c.self.invariant
