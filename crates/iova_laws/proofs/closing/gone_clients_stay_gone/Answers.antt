use Rattle.iova_laws.proofs.ClosingTranscripts.{gone_clients_stay_gone}
use Rattle.iova_laws.proofs.closing.gone_clients_stay_gone.Goals as goal

pub returns : goal.returns
returns c = gone_clients_stay_gone
