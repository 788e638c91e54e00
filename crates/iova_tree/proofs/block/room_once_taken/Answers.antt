use Rattle.std.proofs.Common.{◌≡◌, take, drop, arith, take-append-drop}
use Rattle.iova_tree.specs.Room.{room}
use Rattle.iova_tree.specs.Spans.{end_after}
use Rattle.iova_tree.proofs.Spans.{rising-front}
use Rattle.iova_tree.proofs.Blocks.{room_after-front, end_rises}
use Rattle.iova_tree.proofs.Hinted.{room_thirds}
use Rattle.iova_tree.proofs.block.room_once_taken.Goals as goal

pub end_below-end-requires : goal.end_below-end-requires
end_below-end-requires c = omega (arith, c.requires.within)

pub room_of-left-requires : goal.room_of-left-requires
room_of-left-requires c = rw c.end_below-end.ensures (end_rises c.args.from c.args.hint.at c.args.spans.now c.requires.some c.requires.rising)

pub returns-then-left-hint : goal.returns-then-left-hint
returns-then-left-hint c = omega (arith, c.room_of_all.ensures)

pub room_of_all-requires-2-clause-rising : goal.room_of_all-requires-2-clause-rising
room_of_all-requires-2-clause-rising c =
    let at = c.args.hint.at in
    rising-front c.args.from (take at c.args.spans.now) (drop at c.args.spans.now) (rw (take-append-drop at c.args.spans.now) c.requires.rising)

pub room_of_all-requires-2-clause-most : goal.room_of_all-requires-2-clause-most
room_of_all-requires-2-clause-most c = omega (arith, room_after-front c.args.from c.args.hint.at c.args.spans.now, c.requires.known)

pub returns : goal.returns
returns c =
    let left : c.room_of-left.result ≡ room (end_after c.args.from (take c.args.hint.at c.args.spans.now)) c.index-spans-hint-2.result.lo = rw (c.end_below-end.ensures, c.lo-2.ensures) at c.room_of-left.ensures.greatest in
    let parts = room_thirds c.args.from c.args.hint.at c.args.spans.now c.index-spans-hint-2.result (omega (arith, c.requires.within)) c.index-spans-hint-2.is in
    omega (arith, left, parts, c.room_of_all-2.ensures, c.if-left-hint.false, c.requires.hinted)
