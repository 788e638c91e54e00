use Rattle.iova_lock.proofs.Batches.{free_runs, free_stops}
use Rattle.iova_lock.proofs.batch.run_free.Goals as goal

pub returns-clause-runs : goal.returns-clause-runs
returns-clause-runs g c =
    let h = c.run_within-reply.ensures in
    λ yes. free_runs _ _ _ _ _ _ _ _ _ _ _ _ (c.tell_free.ensures.does yes) h.seat (rw c.worker-worker.ensures.is at h.runs)

pub returns-clause-runs_none : goal.returns-clause-runs_none
returns-clause-runs_none g c =
    let h = c.run_within-reply.ensures in
    let no = c.tell_free.ensures.stops in
    λ none. free_stops _ _ _ _ _ _ _ _ _ (no none).0 (rw c.worker-worker.ensures.is at h.runs)
