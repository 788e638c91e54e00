use Rattle.iova_trace.proofs.Replaying.{records}
use Rattle.iova_trace.proofs.recorded.records_replay.Goals as goal

pub returns : goal.returns
returns c = records c.points_only_refuse.ensures
