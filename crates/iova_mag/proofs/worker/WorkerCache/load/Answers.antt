use Rattle.std.proofs.Common.{[], ap}
use Rattle.iova_model.specs.Caches.{Cache}
use Rattle.iova_mag.specs.Workers.{Pair}
use Rattle.iova_mag.proofs.Pairs.{cache_in, seen-set, sound-set}
use Rattle.iova_mag.proofs.worker.WorkerCache.load.Goals as goal

pub invariant_of-self : goal.invariant_of-self
invariant_of-self c = sound-set _ _ _ _ _ c.self.invariant c.requires.order c.index_mut-pair.ensures.value (ap (λ (p : Pair). p.profile) c.load.ensures.loaded) c.load.ensures.sound

pub returns-clause-loaded : goal.returns-clause-loaded
returns-clause-loaded c = rw (← c.self.view_is) (seen-set (λ (cache : Cache). record { loaded = c.args.magazine.entries; previous = [] }) _ _ _ _ _ c.self.invariant c.requires.order c.index_mut-pair.ensures.value (ap cache_in c.load.ensures.loaded))

pub returns-clause-sound : goal.returns-clause-sound
returns-clause-sound c = (sound-set _ _ _ _ _ c.self.invariant c.requires.order c.index_mut-pair.ensures.value (ap (λ (p : Pair). p.profile) c.load.ensures.loaded) c.load.ensures.sound).sound
