use denote.RattleType.{RattleType}
use denote.Param.Send.{IsSend}
use Rattle.iova_annals.proofs.Sent.{hands_send}
use Rattle.iova_annals.specs.contracts.Hands.{the_row}

pub send : (E : RattleType) → IsSend (the_row E)
send = hands_send
