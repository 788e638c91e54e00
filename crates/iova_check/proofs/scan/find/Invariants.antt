use Rattle.std.proofs.Common.{◌-◌, ◌≡◌, ℕ, ◌≤◌, ◌<◌, None}
use Rattle.iova_check.specs.Marks.{stage_at}
use Rattle.iova_check.specs.Findings.{since_of}
use Rattle.iova_check.proofs.scan.find.Given as goal

-- the frames before this one have no finding
abbrev pub invariant-loop-at : goal.invariant-loop-at
invariant-loop-at l = record {
  from : l.lo ≤ l.at;
  within : l.at ≤ l.to;
  none : (f : ℕ) → l.lo ≤ f → f < l.at → since_of l.kind (stage_at l.stages f) ≡ None;
}

abbrev pub decreases-loop-at : goal.decreases-loop-at
decreases-loop-at l = l.to - l.at
