use Rattle.std.proofs.Common.{◌^◌, ◌∙◌, arith}
use Rattle.iova_range.specs.Frames.{Frames}
use Rattle.iova_core.proofs.Reclaims.{has_low, has_inside}
use Rattle.iova_core.proofs.Drains.{emptying_none, emptying_has, emptying_next, emptying_done}
use Rattle.iova_core.proofs.reclaim.empty.Goals as goal

pub loop-order-init : goal.loop-order-init
loop-order-init c = emptying_none c.args.tree.now c.args.caches.now _ c.requires.backed

pub range_of-requires-clause-small : goal.range_of-requires-clause-small
range_of-requires-clause-small c =
    let r : Frames = record { lo = c.in-Some.lo; len = 2 ^ c.in-Some.order } in
    let has = emptying_has _ _ _ _ c.loop-order.invariant c.take_any.new.self r _ c.requires.backed c.in-Some.ensures.loses in
    let space = c.loop-order.invariant.exchange.space in
    let low = has_low c.loop-order.tree r space has in
    let inside = has_inside c.loop-order.tree r space has in
    omega (arith, low, inside.some)

pub free-requires-clause-space : goal.free-requires-clause-space
free-requires-clause-space c = c.loop-order.invariant.exchange.space

pub free-requires-clause-held : goal.free-requires-clause-held
free-requires-clause-held c =
    rw c.range_of.ensures (emptying_has _ _ _ _ c.loop-order.invariant c.take_any.new.self _ _ c.requires.backed c.in-Some.ensures.loses)

pub loop-order-smaller : goal.loop-order-smaller
loop-order-smaller c =
    let r : Frames = record { lo = c.in-Some.lo; len = 2 ^ c.in-Some.order } in
    let has = emptying_has _ _ _ _ c.loop-order.invariant c.take_any.new.self r _ c.requires.backed c.in-Some.ensures.loses in
    let inside = has_inside c.loop-order.tree r c.loop-order.invariant.exchange.space has in
    omega (arith, inside.some, c.in-Some.ensures.fewer)

pub loop-order-preserved : goal.loop-order-preserved
loop-order-preserved c =
    emptying_next _ _ _ _ c.loop-order.invariant c.free.new.tree c.take_any.new.self _ c.in-Some.ensures.same c.in-Some.ensures.emptied c.in-Some.ensures.loses c.in-Some.ensures.sound (rw c.range_of.ensures at c.free.ensures)

pub returns-clause-caches : goal.returns-clause-caches
returns-clause-caches c =
    let done = emptying_done _ _ _ _ c.loop-order.invariant c.take_any.new.self c.in_default.ensures.taken.0 c.in_default.ensures.taken.1 c.in_default.ensures.same in
    done.0 ∙ done.1

pub returns-clause-backed : goal.returns-clause-backed
returns-clause-backed c =
    let done = emptying_done _ _ _ _ c.loop-order.invariant c.take_any.new.self c.in_default.ensures.taken.0 c.in_default.ensures.taken.1 c.in_default.ensures.same in
    rw done.0 c.loop-order.invariant.exchange
