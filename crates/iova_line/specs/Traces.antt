-- A trace, and its text.
use Rattle.std.specs.Prelude.{ℕ, ◌+◌, ◌≤◌, List, ◌++◌, length, flat_map}
use Rattle.std.specs.List.{AllByRecursion}
use Rattle.iova_range.specs.declared.limits.TheConstants.{MAX_STEPS}
use Rattle.iova_text.specs.Lines.{whole_line}
use Rattle.iova_model.specs.declared.step.Step.{Step}
use Rattle.iova_line.specs.declared.trace.Trace.{Trace}
use Rattle.iova_line.specs.Text.{header_text, step_text, IsHeader}
use Rattle.iova_line.specs.LineSteps.{IsStep}

-- Traces

-- a header, and steps, not too many
pub record IsTrace (t : Trace) : Type 0 where
  pub header : IsHeader t.bounds t.workers
  pub steps : AllByRecursion IsStep t.steps
  pub few : length t.steps ≤ MAX_STEPS

abbrev pub step_line : Step → List ℕ
step_line s = whole_line (step_text s)

-- the header's line, and a line for each step
abbrev pub trace_text : Trace → List ℕ
trace_text t = whole_line (header_text t.bounds t.workers) ++ flat_map step_line t.steps
