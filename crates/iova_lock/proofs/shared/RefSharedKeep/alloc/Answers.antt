use Rattle.iova_lock.proofs.Storing.{step_unsaid}
use Rattle.iova_lock.proofs.shared.RefSharedKeep.alloc.Goals as goal

pub returns-clause-log : goal.returns-clause-log
returns-clause-log g c = step_unsaid _ _ _ _ c.alloc.ensures.log
