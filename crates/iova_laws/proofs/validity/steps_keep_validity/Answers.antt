use Rattle.iova_laws.proofs.Valid.{steps_keep_validity}
use Rattle.iova_laws.proofs.validity.steps_keep_validity.Goals as goal

pub returns : goal.returns
returns c = steps_keep_validity
