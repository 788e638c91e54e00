use Rattle.std.proofs.Common.{◌<◌, length}
use Rattle.iova_depot.proofs.Changes.{cached}
use Rattle.iova_depot.proofs.OfWorkers.{of_load}
use Rattle.iova_depot.proofs.OfDepots.{of_pop, all_seen-reload}
use Rattle.iova_depot.proofs.caches.Caches.reload.Goals as goal

pub overflow_sub-self : goal.overflow_sub-self
overflow_sub-self c = (of_pop _ _ _ _ _ _ _ _ _ _ c.self.invariant c.requires.order c.index_mut-depot.ensures.value c.pop.ensures.left c.pop.ensures.sound c.in-Some.ensures.some.0 c.in-Some.ensures.some.1 c.len.ensures.is c.len.ensures.sound).fits

pub invariant_of-self-2 : goal.invariant_of-self-2
invariant_of-self-2 c =
    let worker : c.args.w < length c.self.inside.workers.items = rw (← c.self.view_is) at c.requires.worker in
    let popped = of_pop _ _ _ _ _ _ _ _ _ _ c.self.invariant c.requires.order c.index_mut-depot.ensures.value c.pop.ensures.left c.pop.ensures.sound c.in-Some.ensures.some.0 c.in-Some.ensures.some.1 c.len.ensures.is c.len.ensures.sound in
    rw c.min-self-inside.ensures (of_load _ _ _ _ _ _ _ _ _ _ popped.inside worker c.requires.order c.index_mut-worker.ensures.value c.load.ensures.loaded c.load.ensures.sound)

pub returns-clause-moved : goal.returns-clause-moved
returns-clause-moved c =
    let worker : c.args.w < length c.self.inside.workers.items = rw (← c.self.view_is) at c.requires.worker in
    rw (← c.self.view_is) (all_seen-reload _ _ _ _ _ _ _ _ _ _ _ _ c.self.invariant worker c.requires.order c.index_mut-depot.ensures.value c.pop.ensures.left c.in-Some.ensures.some.1 c.index_mut-worker.ensures.value c.load.ensures.loaded)

pub returns-clause-sound : goal.returns-clause-sound
returns-clause-sound c =
    let worker : c.args.w < length c.self.inside.workers.items = rw (← c.self.view_is) at c.requires.worker in
    let popped = of_pop _ _ _ _ _ _ _ _ _ _ c.self.invariant c.requires.order c.index_mut-depot.ensures.value c.pop.ensures.left c.pop.ensures.sound c.in-Some.ensures.some.0 c.in-Some.ensures.some.1 c.len.ensures.is c.len.ensures.sound in
    cached _ _ _ _ _ (of_load _ _ _ _ _ _ _ _ _ _ popped.inside worker c.requires.order c.index_mut-worker.ensures.value c.load.ensures.loaded c.load.ensures.sound)
