use Rattle.iova_session.proofs.ToldPairs.{none_in_front}
use Rattle.iova_session.proofs.together.asks_from.Goals as goal

pub returns-clause-none : goal.returns-clause-none
returns-clause-none c = λ zero. none_in_front c.args.requests.now _ _ zero c.asks_of.ensures.asks
