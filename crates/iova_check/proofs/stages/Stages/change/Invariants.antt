use Rattle.std.proofs.Common.{◌-◌, ◌≡◌, ℕ, ◌≤◌, ◌<◌}
use Rattle.iova_check.specs.History.{with_change}
use Rattle.iova_check.specs.Marks.{stage_at}
use Rattle.iova_check.proofs.stages.Stages.change.Given as goal

-- the frames before this one have changed, and no others
abbrev pub invariant-loop-at : goal.invariant-loop-at
invariant-loop-at l = record {
  from : l.lo ≤ l.at;
  within : l.at ≤ l.to;
  inside : (f : ℕ) → l.lo ≤ f → f < l.at → stage_at l.self f ≡ with_change l.change (stage_at l.initial.self f);
  below : (f : ℕ) → f < l.lo → stage_at l.self f ≡ stage_at l.initial.self f;
  above : (f : ℕ) → l.at ≤ f → stage_at l.self f ≡ stage_at l.initial.self f;
}

abbrev pub decreases-loop-at : goal.decreases-loop-at
decreases-loop-at l = l.to - l.at
