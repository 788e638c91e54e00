use Rattle.std.proofs.Common.{◌-◌, ◌≤◌}
use Rattle.iova_range.specs.declared.limits.TheConstants.{MAX_RUN}
use Rattle.iova_ask.proofs.Lined.{IsGathered}
use Rattle.iova_ask.proofs.front.run_in_front.Given as goal

abbrev pub invariant-loop-lines : goal.invariant-loop-lines
invariant-loop-lines l = IsGathered l.bytes l.rest l.len l.lines × (l.lines ≤ MAX_RUN)

abbrev pub decreases-loop-lines : goal.decreases-loop-lines
decreases-loop-lines l = MAX_RUN - l.lines
