use Rattle.iova_laws.proofs.LedgerSteps.{steps_move_ledgers}
use Rattle.iova_laws.proofs.ledgers.steps_move_ledgers.Goals as goal

pub returns : goal.returns
returns c = steps_move_ledgers
