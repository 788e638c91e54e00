use Rattle.iova_laws.proofs.ClosingTranscripts.{clients_close_in_order}
use Rattle.iova_laws.proofs.closing.clients_close_in_order.Goals as goal

pub returns : goal.returns
returns c = clients_close_in_order
