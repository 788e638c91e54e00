use Rattle.iova_model.proofs.Placing.{best-is_best}
use Rattle.iova_laws.proofs.fitting.best_is_greatest.Goals as goal

pub returns : goal.returns
returns c = best-is_best
