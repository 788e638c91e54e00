use Rattle.iova_laws.proofs.Conserve.{steps_conserve}
use Rattle.iova_laws.proofs.places.steps_conserve.Goals as goal

pub returns : goal.returns
returns c = steps_conserve
