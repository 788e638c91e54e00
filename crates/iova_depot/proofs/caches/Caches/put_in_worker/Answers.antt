use Rattle.std.proofs.Common.{◌<◌, length}
use Rattle.iova_depot.proofs.Changes.{cached}
use Rattle.iova_depot.proofs.OfWorkers.{of_put, all_seen-put}
use Rattle.iova_depot.proofs.caches.Caches.put_in_worker.Goals as goal

pub invariant_of-self-2 : goal.invariant_of-self-2
invariant_of-self-2 c =
    let worker : c.args.w < length c.self.inside.workers.items = rw (← c.self.view_is) at c.requires.worker in
    of_put _ c.index_mut-worker.result.now.profile _ _ _ _ _ _ c.args.lo _ _ c.self.invariant worker c.requires.order c.index_mut-worker.ensures.value c.if-not-try_put.ensures.done c.if-not-try_put.ensures.sound

pub returns-clause-done : goal.returns-clause-done
returns-clause-done c =
    let worker : c.args.w < length c.self.inside.workers.items = rw (← c.self.view_is) at c.requires.worker in
    rw (← c.self.view_is) (all_seen-put _ _ _ _ _ _ _ _ _ _ c.self.invariant worker c.index_mut-worker.ensures.value c.if-not-try_put.ensures.done)

pub returns-clause-sound : goal.returns-clause-sound
returns-clause-sound c =
    let worker : c.args.w < length c.self.inside.workers.items = rw (← c.self.view_is) at c.requires.worker in
    cached _ _ _ _ _ (of_put _ c.index_mut-worker.result.now.profile _ _ _ _ _ _ c.args.lo _ _ c.self.invariant worker c.requires.order c.index_mut-worker.ensures.value c.if-not-try_put.ensures.done c.if-not-try_put.ensures.sound)
