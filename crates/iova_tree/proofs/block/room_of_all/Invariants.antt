use Rattle.std.proofs.Common.{◌≡◌, max, take}
use Rattle.iova_tree.specs.Spans.{room_after, end_after}
use Rattle.iova_tree.proofs.block.room_of_all.Given as goal

-- the most room so far, and where the last one ended
abbrev pub invariant-loop-span : goal.invariant-loop-span
invariant-loop-span l = (l.room ≡ max l.least (room_after l.from (take l.span-index l.spans))) × (l.end ≡ end_after l.from (take l.span-index l.spans))
