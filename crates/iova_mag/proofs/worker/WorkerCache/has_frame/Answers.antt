use Rattle.std.proofs.Common.{◌<◌, ◌∙◌, sym, arith}
use Rattle.iova_mag.proofs.Found.{any-pairs}
use Rattle.iova_mag.proofs.worker.WorkerCache.has_frame.Goals as goal

pub returns-then-has_frame : goal.returns-then-has_frame
returns-then-has_frame c = λ worker.
    let order : c.loop-order.order < 6 = omega arith in
    let step = any-pairs _ _ c.args.frame _ _ _ c.self.invariant order c.index.ensures c.has_frame.ensures worker in
    rw (← c.self.view_is) (sym (rw c.if-has_frame.true at step) ∙ c.loop-order.invariant worker)

pub loop-order-preserved : goal.loop-order-preserved
loop-order-preserved c = λ worker.
    let order : c.loop-order.order < 6 = omega arith in
    let step = any-pairs _ _ c.args.frame _ _ _ c.self.invariant order c.index.ensures c.has_frame.ensures worker in
    sym (rw c.if-has_frame.false at step) ∙ c.loop-order.invariant worker
