use Rattle.std.proofs.Common.{◌≡◌, ◌+◌, suc, max, take, refl, arith}
use Rattle.std.proofs.lemmas.List.{take_all}
use Rattle.iova_tree.specs.Spans.{room_after}
use Rattle.iova_tree.proofs.Blocks.{room_after-next, end_after-next, room_after-front, rising_next, end_rises}
use Rattle.iova_tree.proofs.block.room_of_all.Goals.{in-Some+else-more-most, in_default}
use Rattle.iova_tree.proofs.block.room_of_all.Goals as goal

pub room_above-requires-clause-some : goal.room_above-requires-clause-some
room_above-requires-clause-some c = rw c.loop-span.invariant.1 (end_rises c.args.from c.loop-span.span-index c.args.spans.now c.requires.some c.requires.rising)

pub room_above-requires-clause-apart : goal.room_above-requires-clause-apart
room_above-requires-clause-apart c = rw (c.loop-span.invariant.1, c.lo.ensures) (rising_next c.args.from c.loop-span.span-index c.args.spans.now c.span-item.result c.requires.rising c.loop-span-test.true c.span-item.is)

pub returns-then-more-most : goal.returns-then-more-most
returns-then-more-most c =
    let n = room_after-next c.args.from c.loop-span.span-index c.args.spans.now c.span-item.result c.loop-span-test.true c.span-item.is in
    let f = room_after-front c.args.from (suc c.loop-span.span-index) c.args.spans.now in
    let a = rw (c.loop-span.invariant.1, c.lo.ensures) at (c.in-Some.ensures.above.0) in
    omega (arith, n, f, a, c.in-Some.ensures.above.1, c.loop-span.invariant.0, c.requires.most, c.if-more-most.true)

pub loop-span-preserved : goal.loop-span-preserved
loop-span-preserved c =
    let n = room_after-next c.args.from c.loop-span.span-index c.args.spans.now c.span-item.result c.loop-span-test.true c.span-item.is in
    let e = end_after-next c.args.from c.loop-span.span-index c.args.spans.now c.span-item.result c.loop-span-test.true c.span-item.is in
    let j : c.loop-span.span-index + 1 ≡ suc c.loop-span.span-index = omega arith in
    let room : c.match-room_above.room ≡ max c.args.least (room_after c.args.from (take (suc c.loop-span.span-index) c.args.spans.now)) = elim c.match-room_above.branch [
      | in-Some+else-more-most w ↦ (let a = rw (c.loop-span.invariant.1, c.lo.ensures) at w.in-Some.ensures.above in rw w.room-is (omega (arith, n, a.0, a.1, c.loop-span.invariant.0)))
      | in_default w ↦ (let a = rw (c.loop-span.invariant.1, c.lo.ensures) at w.in_default.ensures.most in rw w.room-is (omega (arith, n, a, c.loop-span.invariant.0)))
    ] in
    (rw j room, rw (j, c.end-end.ensures) (rw e refl))

pub returns-then-least-most : goal.returns-then-least-most
returns-then-least-most c = omega (arith, c.requires.most, c.if-least-most.true)

pub loop-span-init : goal.loop-span-init
loop-span-init c = (omega arith, refl)

pub returns : goal.returns
returns c =
    let all = take_all c.loop-span.span-index c.args.spans.now c.loop-span-test.false in
    rw all at c.loop-span.invariant.0
