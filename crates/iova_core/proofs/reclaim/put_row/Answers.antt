use Rattle.std.proofs.Common.{arith}
use Rattle.iova_core.proofs.Reclaims.{has_low, backed_has}
use Rattle.iova_core.proofs.Drains.{row_none, row_backed, row_fits, row_next}
use Rattle.iova_core.proofs.reclaim.put_row.Goals as goal

pub loop-count-init : goal.loop-count-init
loop-count-init c = row_none _ _ _ _ _ _ c.requires.backed

pub new-requires-clause-fits : goal.new-requires-clause-fits
new-requires-clause-fits c =
    let one = row_backed _ _ _ _ _ _ _ _ _ (record { lo = 0; len = 0; count = 0 }) c.loop-count.invariant c.loop-count-test.true c.requires.backed in
    omega (arith, has_low c.loop-count.tree _ one.space (backed_has _ _ _ one))

pub put_back-requires-clause-worker : goal.put_back-requires-clause-worker
put_back-requires-clause-worker c = omega (arith, c.requires.worker, c.loop-count.invariant.drained.exchange.workers)

pub put_back-requires-clause-backed : goal.put_back-requires-clause-backed
put_back-requires-clause-backed c = rw c.new.ensures (row_backed _ _ _ _ _ _ _ _ _ (record { lo = 0; len = 0; count = 0 }) c.loop-count.invariant c.loop-count-test.true c.requires.backed)

pub overflow_add-frames : goal.overflow_add-frames
overflow_add-frames c =
    let fits = row_fits _ _ _ _ _ _ _ _ _ (record { lo = 0; len = 0; count = 0 }) c.loop-count.invariant c.loop-count-test.true c.requires.sized c.requires.room in
    omega (arith, fits)

pub loop-count-preserved : goal.loop-count-preserved
loop-count-preserved c =
    row_next _ _ _ _ _ _ _ _ _ (record { lo = 0; len = 0; count = 0 }) c.loop-count.invariant c.loop-count-test.true _ _ c.if-row-count.true (rw c.new.ensures at c.put_back.ensures.caches) (rw c.new.ensures at c.put_back.ensures.backed)

pub returns-else-row-count-clause-frames : goal.returns-else-row-count-clause-frames
returns-else-row-count-clause-frames c = c.loop-count.invariant.summed

pub returns-else-row-count-clause-drained : goal.returns-else-row-count-clause-drained
returns-else-row-count-clause-drained c = c.loop-count.invariant.drained

pub returns-after-loop-count-clause-within : goal.returns-after-loop-count-clause-within
returns-after-loop-count-clause-within c = c.loop-count.invariant.within

pub returns-after-loop-count-clause-frames : goal.returns-after-loop-count-clause-frames
returns-after-loop-count-clause-frames c = c.loop-count.invariant.summed

pub returns-after-loop-count-clause-drained : goal.returns-after-loop-count-clause-drained
returns-after-loop-count-clause-drained c = c.loop-count.invariant.drained
