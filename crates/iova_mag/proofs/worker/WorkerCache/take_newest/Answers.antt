use Rattle.std.proofs.Common.{ap}
use Rattle.iova_model.specs.Caches.{Cache}
use Rattle.iova_mag.specs.Workers.{Pair, without_newest}
use Rattle.iova_mag.proofs.Pairs.{cache_in, seen-set, sound-set}
use Rattle.iova_mag.proofs.worker.WorkerCache.take_newest.Goals as goal

pub invariant_of-self : goal.invariant_of-self
invariant_of-self c = sound-set _ _ _ _ _ c.self.invariant c.requires c.index_mut-pair.ensures.value (ap (λ (p : Pair). p.profile) c.take_newest.ensures.left) c.take_newest.ensures.sound

pub returns-clause-left : goal.returns-clause-left
returns-clause-left c = rw (← c.self.view_is) (seen-set (λ (cache : Cache). without_newest cache) _ _ _ _ _ c.self.invariant c.requires c.index_mut-pair.ensures.value (ap cache_in c.take_newest.ensures.left))

pub returns-clause-sound : goal.returns-clause-sound
returns-clause-sound c = (sound-set _ _ _ _ _ c.self.invariant c.requires c.index_mut-pair.ensures.value (ap (λ (p : Pair). p.profile) c.take_newest.ensures.left) c.take_newest.ensures.sound).sound
