use Rattle.std.proofs.Common.{◌∙◌, Some, sym, ap}
use Rattle.iova_line.proofs.StepSpellings.{same_step}
use Rattle.iova_line.proofs.line.read_step.Goals as goal

-- a step read in one pass is the one of that spelling
pub returns-in-Some-clause-read : goal.returns-in-Some-clause-read
returns-in-Some-clause-read c = λ s fits e. ap Some (same_step c.in-Some.step s c.in-Some.ensures.0 fits (sym c.in-Some.ensures.1 ∙ e))
