use Rattle.iova_laws.proofs.PromiseLaws.{promises_are_kept}
use Rattle.iova_laws.proofs.promises.promises_are_kept.Goals as goal

pub returns : goal.returns
returns c = promises_are_kept
