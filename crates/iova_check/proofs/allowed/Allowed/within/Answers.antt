use Rattle.std.proofs.Common.{arith}
use Rattle.iova_check.specs.Marks.{stage_at}
use Rattle.iova_check.proofs.AllowedFrames.{nothing_allowed, within_allowed}
use Rattle.iova_check.proofs.allowed.Allowed.within.Goals as goal

pub returns-then-first-last : goal.returns-then-first-last
returns-then-first-last c = λ f _. nothing_allowed (stage_at c.new-stages.result) c.args.first c.args.last c.new-stages.ensures (omega arith) f

pub returns : goal.returns
returns c =
    let changed = c.in_ok-change.ensures in
    let to = c.saturating_add-to.result in
    within_allowed (stage_at c.new-stages.result) (stage_at c.change.new.self) c.args.first c.args.last to c.new-stages.ensures changed.inside changed.below changed.above
    (λ f top within. omega (arith, c.saturating_add-to.ensures)) (omega (arith, c.saturating_add-to.ensures))
