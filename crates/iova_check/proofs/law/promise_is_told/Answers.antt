use Rattle.iova_check.proofs.Kept.{promise_is_told}
use Rattle.iova_check.proofs.law.promise_is_told.Goals as goal

pub returns : goal.returns
returns c = promise_is_told
