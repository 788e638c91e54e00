use Rattle.std.proofs.Common.{◌<◌, length, sym, ◌∙◌, arith}
use Rattle.iova_depot.specs.Stored.{lists_of}
use Rattle.iova_depot.proofs.Found.{any-list_holders}
use Rattle.iova_depot.proofs.OfMagazines.{length-lists, list_at}
use Rattle.iova_depot.proofs.depot.Depot.has_frame.Goals as goal

pub returns-then-has_frame : goal.returns-then-has_frame
returns-then-has_frame c =
    let n = length-lists c.deref-magazine-items.result.now in
    let lt : c.loop-magazine.magazine-index < length (lists_of c.deref-magazine-items.result.now) = omega arith in
    let step = any-list_holders c.args.frame c.args.order c.loop-magazine.magazine-index _ _ _ lt (list_at _ _ _ c.loop-magazine-test.true c.magazine-item.is) c.has_frame.ensures in
    rw (← c.self.view_is, ← c.deref-magazine-items.ensures.value) (sym (rw c.if-has_frame.true at step) ∙ c.loop-magazine.invariant)

pub loop-magazine-preserved : goal.loop-magazine-preserved
loop-magazine-preserved c =
    let n = length-lists c.deref-magazine-items.result.now in
    let lt : c.loop-magazine.magazine-index < length (lists_of c.deref-magazine-items.result.now) = omega arith in
    let step = any-list_holders c.args.frame c.args.order c.loop-magazine.magazine-index _ _ _ lt (list_at _ _ _ c.loop-magazine-test.true c.magazine-item.is) c.has_frame.ensures in
    sym (rw c.if-has_frame.false at step) ∙ c.loop-magazine.invariant
