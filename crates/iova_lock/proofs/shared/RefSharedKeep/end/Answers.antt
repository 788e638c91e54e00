use Rattle.iova_lock.proofs.Storing.{reply_unsaid}
use Rattle.iova_lock.proofs.shared.RefSharedKeep.end.Goals as goal

pub returns-clause-log : goal.returns-clause-log
returns-clause-log g c = reply_unsaid _ _ _ _ c.end.ensures.log
