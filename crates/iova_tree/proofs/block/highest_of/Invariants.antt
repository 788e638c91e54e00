use Rattle.std.proofs.Common.{◌≡◌, ◌<◌, ◌≤◌, suc, length, take, drop}
use Rattle.iova_tree.specs.Spans.{room_between}
use Rattle.iova_tree.specs.Fit.{highest_after}
use Rattle.iova_tree.proofs.block.highest_of.Given as goal

-- what is sought lies below the range after this one, and what is known of the gaps above it
abbrev pub invariant-loop-at : goal.invariant-loop-at
invariant-loop-at l =
    (l.at < length l.spans)
    × (highest_after l.wanted l.from (take (suc l.at) l.spans) ≡ highest_after l.wanted l.from l.spans)
    × (room_between (drop l.at l.spans) ≤ l.above)

abbrev pub decreases-loop-at : goal.decreases-loop-at
decreases-loop-at l = l.at
