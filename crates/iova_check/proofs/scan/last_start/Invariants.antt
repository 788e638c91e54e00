use Rattle.std.proofs.Common.{◌-◌, ◌≡◌, ◌≢◌, ℕ, ◌≤◌, ◌<◌, Some}
use Rattle.iova_check.specs.declared.finding.Kind.TheVariants.{Overlap}
use Rattle.iova_check.specs.Marks.{stage_at}
use Rattle.iova_check.specs.Findings.{since_of}
use Rattle.iova_check.proofs.scan.last_start.Given as goal

-- from this start on all frames before this one are mapped since the line, and the one before the start is not
abbrev pub invariant-loop-at : goal.invariant-loop-at
invariant-loop-at l = record {
  from : l.lo ≤ l.start;
  before : l.start ≤ l.at;
  within : l.at ≤ l.to;
  same : (f : ℕ) → l.start ≤ f → f < l.at → since_of Overlap (stage_at l.stages f) ≡ Some l.since;
  longest : l.lo < l.start → since_of Overlap (stage_at l.stages (l.start - 1)) ≢ Some l.since;
}

abbrev pub decreases-loop-at : goal.decreases-loop-at
decreases-loop-at l = l.to - l.at
