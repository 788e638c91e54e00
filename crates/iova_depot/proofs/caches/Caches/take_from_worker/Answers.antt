use Rattle.std.proofs.Common.{◌<◌, length, sym, ◌∙◌}
use Rattle.iova_depot.proofs.Changes.{cached}
use Rattle.iova_depot.proofs.Moves.{on_none, on_some}
use Rattle.iova_depot.proofs.OfWorkers.{of_take, none_in_worker, takes_from_worker}
use Rattle.iova_depot.proofs.caches.Caches.take_from_worker.Goals as goal

pub invariant_of-self : goal.invariant_of-self
invariant_of-self c =
    let worker : c.args.w < length c.self.inside.workers.items = rw (← c.self.view_is) at c.requires.worker in
    of_take _ _ _ _ _ _ _ _ _ c.self.invariant worker c.requires.order c.index_mut-worker.ensures.value c.take_newest.ensures.left c.take_newest.ensures.sound

pub returns-clause-none : goal.returns-clause-none
returns-clause-none c =
    let worker : c.args.w < length c.self.inside.workers.items = rw (← c.self.view_is) at c.requires.worker in
    on_none c.take_newest.result
    (λ was. rw (← c.self.view_is) (none_in_worker _ _ _ _ _ _ _ worker c.index_mut-worker.ensures.value c.take_newest.ensures.left (sym c.take_newest.ensures.value ∙ was)))

pub returns-clause-taken : goal.returns-clause-taken
returns-clause-taken c =
    let worker : c.args.w < length c.self.inside.workers.items = rw (← c.self.view_is) at c.requires.worker in
    on_some _ c.take_newest.result
    (λ lo was. rw (← c.self.view_is) (takes_from_worker _ _ _ _ lo _ _ worker c.index_mut-worker.ensures.value c.take_newest.ensures.left (sym c.take_newest.ensures.value ∙ was)))

pub returns-clause-sound : goal.returns-clause-sound
returns-clause-sound c =
    let worker : c.args.w < length c.self.inside.workers.items = rw (← c.self.view_is) at c.requires.worker in
    cached _ _ _ _ _ (of_take _ _ _ _ _ _ _ _ _ c.self.invariant worker c.requires.order c.index_mut-worker.ensures.value c.take_newest.ensures.left c.take_newest.ensures.sound)
