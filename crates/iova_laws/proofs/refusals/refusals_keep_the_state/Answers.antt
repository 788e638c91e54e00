use Rattle.iova_laws.proofs.RefusalState.{refusals_keep_the_state}
use Rattle.iova_laws.proofs.refusals.refusals_keep_the_state.Goals as goal

pub returns : goal.returns
returns c = refusals_keep_the_state
