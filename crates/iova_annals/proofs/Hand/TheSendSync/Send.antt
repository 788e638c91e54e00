use denote.RattleType.{RattleType}
use denote.Param.Send.{IsSend}
use Rattle.iova_annals.proofs.Sent.{hand_send}
use Rattle.iova_annals.specs.contracts.Hand.{the_row}

pub send : (E : RattleType) → IsSend (the_row E)
send = hand_send
