use Rattle.iova_trace.proofs.Replaying.{transcripts_replay}
use Rattle.iova_trace.proofs.recorded.transcripts_replay.Goals as goal

pub returns : goal.returns
returns c = transcripts_replay c.records_replay.ensures
