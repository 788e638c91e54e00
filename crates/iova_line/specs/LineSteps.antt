-- The steps that a line may say.
use Rattle.iova_model.specs.declared.step.Step.{Step}
use Rattle.iova_line.specs.Text.{NumbersFit}

-- a step that a line may say: its numbers are of 64 bits
pub record IsStep (s : Step) : Type 0 where
  pub fits : NumbersFit s
