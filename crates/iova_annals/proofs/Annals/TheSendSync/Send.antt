use denote.RattleType.{RattleType}
use denote.Param.Send.{IsSend}
use Rattle.iova_annals.proofs.Sent.{annals_send}
use Rattle.iova_annals.specs.contracts.Annals.{the_row}

pub send : (E : RattleType) → IsSend (the_row E)
send = annals_send
