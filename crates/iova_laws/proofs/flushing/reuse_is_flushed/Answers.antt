use Rattle.iova_laws.proofs.FlushReuse.{reuse_is_flushed}
use Rattle.iova_laws.proofs.flushing.reuse_is_flushed.Goals as goal

pub returns : goal.returns
returns c = reuse_is_flushed
