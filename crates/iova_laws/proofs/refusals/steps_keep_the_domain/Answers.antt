use Rattle.iova_laws.proofs.RefusalState.{steps_keep_the_domain}
use Rattle.iova_laws.proofs.refusals.steps_keep_the_domain.Goals as goal

pub returns : goal.returns
returns c = steps_keep_the_domain
