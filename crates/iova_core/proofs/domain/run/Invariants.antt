use Rattle.std.proofs.Common.{take}
use Rattle.iova_model.specs.Transcript.{IsRun}
use Rattle.iova_core.proofs.domain.run.Given as goal

-- the steps so far were taken
abbrev pub invariant-loop-step : goal.invariant-loop-step
invariant-loop-step l = IsRun l.fn.domain l.domain (take l.step-index l.steps) l.fn.replies.items l.replies.items
