use Rattle.iova_laws.proofs.RefusalPoints.{points_only_refuse}
use Rattle.iova_laws.proofs.refusals.points_only_refuse.Goals as goal

pub returns : goal.returns
returns c = points_only_refuse
