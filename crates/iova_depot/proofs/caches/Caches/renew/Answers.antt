use Rattle.std.proofs.Common.{◌<◌, [], length}
use Rattle.iova_model.specs.Caches.{Cache}
use Rattle.iova_depot.proofs.Changes.{cached, all_seen-set_worker}
use Rattle.iova_depot.proofs.OfWorkers.{of_renew}
use Rattle.iova_depot.proofs.caches.Caches.renew.Goals as goal

pub invariant_of-self : goal.invariant_of-self
invariant_of-self c =
    let worker : c.args.w < length c.self.inside.workers.items = rw (← c.self.view_is) at c.requires.worker in
    of_renew _ _ _ _ _ _ _ _ _ c.self.invariant worker c.requires.order c.index_mut-worker.ensures.value c.renew.ensures.left c.renew.ensures.sound

pub returns-clause-left : goal.returns-clause-left
returns-clause-left c =
    let worker : c.args.w < length c.self.inside.workers.items = rw (← c.self.view_is) at c.requires.worker in
    rw (← c.self.view_is) (all_seen-set_worker (λ (cache : Cache). record { loaded = []; previous = cache.previous }) _ _ _ _ _ _ _ worker c.index_mut-worker.ensures.value c.renew.ensures.left)

pub returns-clause-sound : goal.returns-clause-sound
returns-clause-sound c =
    let worker : c.args.w < length c.self.inside.workers.items = rw (← c.self.view_is) at c.requires.worker in
    cached _ _ _ _ _ (of_renew _ _ _ _ _ _ _ _ _ c.self.invariant worker c.requires.order c.index_mut-worker.ensures.value c.renew.ensures.left c.renew.ensures.sound)
