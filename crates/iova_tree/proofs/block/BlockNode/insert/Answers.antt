use Rattle.iova_tree.proofs.Spans.{rising-without}
use Rattle.iova_tree.proofs.block.BlockNode.insert.Goals as goal

pub place_of-at-requires : goal.place_of-at-requires
place_of-at-requires c = rw (c.deref.ensures.value, c.self.view_is) (rising-without 0 c.args.span _ c.requires.free)

pub room_with_one-known-requires-clause-rising : goal.room_with_one-known-requires-clause-rising
room_with_one-known-requires-clause-rising c = rw (c.deref-3.ensures.value, c.self.view_is) (rising-without 0 c.args.span _ c.requires.free)
