use Rattle.iova_check.proofs.FrameStages.{stages_are_told}
use Rattle.iova_check.proofs.law.stages_are_told.Goals as goal

pub returns : goal.returns
returns c = stages_are_told
