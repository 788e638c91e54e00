use Rattle.std.proofs.Common.{◌+◌, ◌<◌, length, drop}
use Rattle.iova_tree.specs.Branches.{AreAtMost}
use Rattle.iova_tree.proofs.branch.last_with_room.Given as goal

-- the greatest bound of those behind this one, which is less than what is sought
abbrev pub invariant-loop-at : goal.invariant-loop-at
invariant-loop-at g l = (l.at < length l.links) × AreAtMost l.above (drop (l.at + 1) l.links) × (l.above < l.size)

abbrev pub decreases-loop-at : goal.decreases-loop-at
decreases-loop-at g l = l.at
