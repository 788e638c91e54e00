use Rattle.std.proofs.Common.{refl}
use Rattle.iova_lock.proofs.Batches.{alloc_runs}
use Rattle.iova_lock.proofs.batch.run_alloc.Goals as goal

pub returns-in-Given-clause-runs : goal.returns-in-Given-clause-runs
returns-in-Given-clause-runs g c =
    let h = c.in-Given.ensures in
    let is = c.worker-worker.ensures.is in
    alloc_runs _ _ _ _ _ _ _ _ _ _ _ _ _ _ c.push_reserved.ensures.items refl h.seat (rw is at h.takes) (rw is at h.stores)

pub returns-in-Refused-clause-runs : goal.returns-in-Refused-clause-runs
returns-in-Refused-clause-runs g c =
    let h = c.in-Refused.ensures in
    let is = c.worker-worker.ensures.is in
    alloc_runs _ _ _ _ _ _ _ _ _ _ _ _ _ _ c.tell_refused.ensures.items refl h.seat (rw is at h.takes) (rw is at h.stores)
