use Rattle.std.proofs.Common.{◌≤◌, arith}
use Rattle.iova_tree.specs.Spans.{room_between}
use Rattle.iova_tree.proofs.Blocks.{rising_front}
use Rattle.iova_tree.proofs.Branches.{room_after-first}
use Rattle.iova_tree.proofs.ranges.Ranges.room_from.Goals as goal

pub returns-then-is_empty : goal.returns-then-is_empty
returns-then-is_empty c =
    let none = c.is_empty.ensures.nothing c.if-is_empty.true in
    rw (← c.self.view_is, none) (omega arith)

pub room_with-requires-clause-apart : goal.room_with-requires-clause-apart
room_with-requires-clause-apart c =
    let rising = rw (← c.self.view_is) at c.requires.rising in
    rw c.first.ensures (rising_front c.self.inside.root c.args.start (c.is_empty.ensures.something c.if-is_empty.false) rising)

pub returns : goal.returns
returns c =
    let parts = room_after-first c.args.start c.self.inside.root (c.is_empty.ensures.something c.if-is_empty.false) in
    let e = rw c.first.ensures at c.room_with.ensures in
    let most : room_between c.self.inside.root ≤ c.self.inside.room = c.self.invariant in
    rw (← c.self.view_is) (omega (arith, parts, e, most))
