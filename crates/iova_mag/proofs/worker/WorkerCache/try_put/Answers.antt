use Rattle.iova_mag.proofs.Pairs.{seen-put, sound-set, on_true}
use Rattle.iova_mag.proofs.worker.WorkerCache.try_put.Goals as goal

pub invariant_of-self : goal.invariant_of-self
invariant_of-self c = sound-set _ _ _ _ _ c.self.invariant c.requires.order c.index_mut-pair.ensures.value c.try_put.ensures.same c.try_put.ensures.sound

pub returns-clause-done : goal.returns-clause-done
returns-clause-done c =
    rw (← c.self.view_is)
    (on_true c.try_put.result (λ is. seen-put c.args.lo _ _ _ _ _ c.self.invariant c.requires.order c.index_mut-pair.ensures.value is) c.try_put.ensures.done)

pub returns-clause-sound : goal.returns-clause-sound
returns-clause-sound c = (sound-set _ _ _ _ _ c.self.invariant c.requires.order c.index_mut-pair.ensures.value c.try_put.ensures.same c.try_put.ensures.sound).sound
