use Rattle.iova_sink.proofs.WholeTalks as whole
use Rattle.iova_sink.proofs.channel_sink.good_calls_are_answered.Goals as goal

pub returns : goal.returns
returns c = whole.good_calls_are_answered
