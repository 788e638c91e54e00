use Rattle.iova_laws.proofs.RequestAnswers.{requests_are_answered}
use Rattle.iova_laws.proofs.requests.requests_are_answered.Goals as goal

pub returns : goal.returns
returns c = requests_are_answered
