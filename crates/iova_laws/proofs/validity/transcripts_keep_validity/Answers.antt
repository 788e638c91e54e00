use Rattle.iova_laws.proofs.Valid.{transcripts_keep_validity}
use Rattle.iova_laws.proofs.validity.transcripts_keep_validity.Goals as goal

pub returns : goal.returns
returns c = transcripts_keep_validity
