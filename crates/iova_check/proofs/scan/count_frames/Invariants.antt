use Rattle.std.proofs.Common.{◌-◌, ◌≡◌, ◌≤◌}
use Rattle.std.specs.Prelude.{is_some}
use Rattle.iova_check.specs.Marks.{stage_at}
use Rattle.iova_check.specs.Findings.{since_of}
use Rattle.iova_check.specs.Counting.{count_below}
use Rattle.iova_check.proofs.scan.count_frames.Given as goal

-- the frames before this one have been counted
abbrev pub invariant-loop-at : goal.invariant-loop-at
invariant-loop-at l = record {
  is : l.count ≡ count_below (λ f. is_some (since_of l.kind (stage_at l.stages f))) l.at;
  few : l.count ≤ l.at;
}

abbrev pub decreases-loop-at : goal.decreases-loop-at
decreases-loop-at l = 18446744073709551615 - l.at
