use Rattle.iova_laws.proofs.NumberSound.{oldest_flush_reaches}
use Rattle.iova_laws.proofs.numbers.oldest_flush_reaches.Goals as goal

pub returns : goal.returns
returns c = oldest_flush_reaches
