use Rattle.std.proofs.Common.{◌≡◌, ◌+◌, ◌-◌, arith}
use Rattle.iova_tree.proofs.Bounds.{start_hinted, at_most_step, all_below}
use Rattle.iova_tree.proofs.branch.last_with_room.Goals as goal

pub loop-at-init : goal.loop-at-init
loop-at-init g c = (
  c.start-start.ensures.within,
  start_hinted c.args.hint c.start-start.result c.args.links.now c.args.size c.requires.bounded c.requires.hinted c.start-start.ensures.less c.start-start.ensures.known,
  c.start-start.ensures.less,
)

pub returns-then-room-size-clause-above : goal.returns-then-room-size-clause-above
returns-then-room-size-clause-above g c = all_below c.loop-at.above c.args.size _ c.loop-at.invariant.2 c.loop-at.invariant.1

pub returns-then-room-size-clause-hinted : goal.returns-then-room-size-clause-hinted
returns-then-room-size-clause-hinted g c = λ low. c.loop-at.invariant.1

pub loop-at-preserved : goal.loop-at-preserved
loop-at-preserved g c =
    let j : c.loop-at.at - 1 + 1 ≡ c.loop-at.at = omega (arith, c.loop-at-test.true) in
    let step = at_most_step c.loop-at.above c.loop-at.at c.args.links.now c.index-links-at.result c.loop-at.invariant.0 c.loop-at.invariant.1 in
    (omega (arith, c.loop-at.invariant.0), rw (j, c.max-above.ensures) step, omega (arith, c.max-above.ensures, c.loop-at.invariant.2, c.if-room-size.false))

pub returns-clause-above : goal.returns-clause-above
returns-clause-above g c =
    let none : c.loop-at.at ≡ 0 = omega (arith, c.loop-at-test.false) in
    rw none at (all_below c.loop-at.above c.args.size _ c.loop-at.invariant.2 c.loop-at.invariant.1)

pub returns-clause-hinted : goal.returns-clause-hinted
returns-clause-hinted g c =
    let none : c.loop-at.at ≡ 0 = omega (arith, c.loop-at-test.false) in
    λ low. rw none at c.loop-at.invariant.1
