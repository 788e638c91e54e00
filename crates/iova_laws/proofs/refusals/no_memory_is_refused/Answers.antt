use Rattle.iova_laws.proofs.RefusalMemory.{no_memory_is_refused}
use Rattle.iova_laws.proofs.refusals.no_memory_is_refused.Goals as goal

pub returns : goal.returns
returns c = no_memory_is_refused
