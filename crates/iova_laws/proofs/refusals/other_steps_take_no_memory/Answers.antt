use Rattle.iova_laws.proofs.RefusalMemory.{other_steps_take_no_memory}
use Rattle.iova_laws.proofs.refusals.other_steps_take_no_memory.Goals as goal

pub returns : goal.returns
returns c = other_steps_take_no_memory
