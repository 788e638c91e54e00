use Rattle.iova_depot.proofs.Changes.{cached}
use Rattle.iova_depot.proofs.OfDepots.{of_take, takes_from_depot}
use Rattle.iova_depot.proofs.caches.Caches.take_from_depot.Goals as goal

pub overflow_sub-self : goal.overflow_sub-self
overflow_sub-self c = (of_take _ _ _ _ _ _ _ _ _ c.self.invariant c.requires c.index_mut-depot.ensures.value c.in_ok-lo.ensures.same c.in_ok-lo.ensures.sound c.in_ok-lo.ensures.taken).fits

pub invariant_of-self-2 : goal.invariant_of-self-2
invariant_of-self-2 c = (of_take _ _ _ _ _ _ _ _ _ c.self.invariant c.requires c.index_mut-depot.ensures.value c.in_ok-lo.ensures.same c.in_ok-lo.ensures.sound c.in_ok-lo.ensures.taken).inside

pub returns-clause-taken : goal.returns-clause-taken
returns-clause-taken c = rw (← c.self.view_is) (takes_from_depot _ _ _ _ _ _ _ _ _ c.self.invariant c.requires c.index_mut-depot.ensures.value c.in_ok-lo.ensures.taken)

pub returns-clause-sound : goal.returns-clause-sound
returns-clause-sound c = cached _ _ _ _ _ (of_take _ _ _ _ _ _ _ _ _ c.self.invariant c.requires c.index_mut-depot.ensures.value c.in_ok-lo.ensures.same c.in_ok-lo.ensures.sound c.in_ok-lo.ensures.taken).inside
