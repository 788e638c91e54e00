use Rattle.std.proofs.Common.{◌^◌, ap}
use Rattle.iova_model.specs.Caches.{Cache, get}
use Rattle.iova_mag.specs.Workers.{Pair, shelf_of, pair_of}
use Rattle.iova_mag.proofs.Pairs.{cache_in, seen-set, sound-set}
use Rattle.iova_mag.proofs.worker.WorkerCache.try_get.Goals as goal

pub invariant_of-self : goal.invariant_of-self
invariant_of-self c = sound-set _ _ _ _ _ c.self.invariant c.requires c.index_mut-pair.ensures.value (ap (λ (p : Pair). p.profile) c.try_get.ensures.left) c.try_get.ensures.sound

pub returns-clause-left : goal.returns-clause-left
returns-clause-left c = rw (← c.self.view_is) (seen-set (λ (cache : Cache). pair_of (get (shelf_of cache) c.args.limit (2 ^ c.args.order)).1) _ _ _ _ _ c.self.invariant c.requires c.index_mut-pair.ensures.value (ap cache_in c.try_get.ensures.left))

pub returns-clause-sound : goal.returns-clause-sound
returns-clause-sound c = (sound-set _ _ _ _ _ c.self.invariant c.requires c.index_mut-pair.ensures.value (ap (λ (p : Pair). p.profile) c.try_get.ensures.left) c.try_get.ensures.sound).sound
