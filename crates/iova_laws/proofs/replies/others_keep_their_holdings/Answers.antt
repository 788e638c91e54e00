use Rattle.iova_laws.proofs.ReplyLaws.{others_keep_their_holdings}
use Rattle.iova_laws.proofs.replies.others_keep_their_holdings.Goals as goal

pub returns : goal.returns
returns c = others_keep_their_holdings
