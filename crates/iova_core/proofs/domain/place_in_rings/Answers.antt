use Rattle.std.proofs.Common.{refl, sym, ap, ◌∙◌}
use Rattle.std.proofs.Math.ListN.{drop_of_length-le}
use Rattle.iova_model.specs.State.{ring_holders, place_in}
use Rattle.iova_core.proofs.Readers.{holder_in, ring_has, ring_not, found_in_ring}
use Rattle.iova_core.proofs.domain.place_in_rings.Goals as goal

pub loop-w-init : goal.loop-w-init
loop-w-init c = refl

pub returns-then-holds : goal.returns-then-holds
returns-then-holds c =
    let d = c.index-rings-w.result in
    let has = ap (ring_has c.args.frame) (sym c.index-rings-w.is) ∙ (sym c.holds.ensures ∙ c.if-holds.true) in
    sym (found_in_ring c.args.frame c.loop-w.w c.args.rings.now d c.loop-w-test.true c.loop-w.invariant has)

pub loop-w-preserved : goal.loop-w-preserved
loop-w-preserved c =
    let d = c.index-rings-w.result in
    let none = ap (ring_has c.args.frame) (sym c.index-rings-w.is) ∙ (sym c.holds.ensures ∙ c.if-holds.false) in
    ring_not c.args.frame c.loop-w.w c.args.rings.now d c.loop-w-test.true c.loop-w.invariant none

pub returns : goal.returns
returns c =
    let all = drop_of_length-le c.args.rings.now c.loop-w-test.false in
    sym (ap place_in c.loop-w.invariant ∙ ap (λ l. place_in (holder_in c.args.frame (ring_holders c.loop-w.w l))) all)
