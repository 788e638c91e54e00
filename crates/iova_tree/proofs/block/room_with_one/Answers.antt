use Rattle.std.proofs.Common.{◌-◌, arith}
use Rattle.iova_tree.proofs.Blocks.{some_end, inserted_last, inserted_most, inserted_low, inserted_high}
use Rattle.iova_tree.proofs.block.room_with_one.Goals as goal

pub room_with-requires-clause-apart : goal.room_with-requires-clause-apart
room_with-requires-clause-apart c =
    rw (c.end.ensures, c.lo.ensures) (inserted_low c.args.spans.now c.args.at c.args.span c.index-spans-0.result c.if-at-eq0.true (grind (arith, c.is_empty.ensures, c.if-is_empty.false)) c.index-spans-0.is c.requires.free)

pub room_with-requires-then-at-spans : goal.room_with-requires-then-at-spans
room_with-requires-then-at-spans c = record {
  some = rw c.end-then-at-spans.ensures (some_end 0 c.args.spans.now (c.args.at - 1) c.index-spans-at.result c.requires.rising (omega (arith, c.requires.within, c.if-at-eq0.false)) c.index-spans-at.is);
  apart = rw (c.end-then-at-spans.ensures, c.lo-then-at-spans.ensures) (inserted_high c.args.spans.now c.args.at c.args.span c.index-spans-at.result (omega (arith, c.if-at-eq0.false)) c.requires.within c.index-spans-at.is c.requires.free);
}

pub returns-then-at-spans-clause-room : goal.returns-then-at-spans-clause-room
returns-then-at-spans-clause-room c =
    let l = inserted_last c.args.spans.now c.args.at c.args.span c.index-spans-at.result (omega (arith, c.if-at-eq0.false)) c.if-at-spans.true c.index-spans-at.is in
    let r = rw (c.end-then-at-spans.ensures, c.lo-then-at-spans.ensures) at c.room_with-then-at-spans.ensures in
    omega (arith, l, r, c.requires.known)

pub returns-clause-room : goal.returns-clause-room
returns-clause-room c =
    let m = inserted_most c.args.spans.now c.args.at c.args.span (omega (arith, c.if-at-eq0.false)) (omega (arith, c.requires.within, c.if-at-spans.false)) c.requires.free in
    omega (arith, m, c.requires.known)
