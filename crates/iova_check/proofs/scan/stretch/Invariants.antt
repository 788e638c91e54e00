use Rattle.std.proofs.Common.{◌-◌, ◌≡◌, ℕ, ◌≤◌, ◌<◌, Some}
use Rattle.iova_check.specs.Marks.{stage_at}
use Rattle.iova_check.specs.Findings.{since_of}
use Rattle.iova_check.proofs.scan.stretch.Given as goal

-- all frames before this one have the first one's stage
abbrev pub invariant-loop-at : goal.invariant-loop-at
invariant-loop-at l = record {
  after : l.lo < l.at;
  within : l.at ≤ l.to;
  same : (f : ℕ) → l.lo ≤ f → f < l.at → since_of l.kind (stage_at l.stages f) ≡ Some l.since;
}

abbrev pub decreases-loop-at : goal.decreases-loop-at
decreases-loop-at l = l.to - l.at
