use Rattle.iova_laws.proofs.FlushTranscripts.{transcripts_are_flushed}
use Rattle.iova_laws.proofs.flushing.transcripts_are_flushed.Goals as goal

pub returns : goal.returns
returns c = transcripts_are_flushed
