use Rattle.std.proofs.Common.{ap}
use Rattle.iova_mag.specs.Magazines.{Magazine}
use Rattle.iova_depot.proofs.Shelves.{put_both_full}
use Rattle.iova_depot.proofs.caches.Caches.put_full.Goals as goal

pub returns-clause-left : goal.returns-clause-left
returns-clause-left c =
    put_both_full _ _ _ _ _ _ _ c.store-sent.result _ c.put_in_worker.result c.renew-magazine.ensures.sound c.requires.worker c.requires.order c.requires.full c.renew-magazine.ensures.left
    (ap (λ (m : Magazine). m.entries) c.renew-magazine.ensures.value) c.store-sent.ensures.full c.store-sent.ensures.room c.store-sent.ensures.stored c.put_in_worker.ensures.room.1 c.put_in_worker.ensures.done
