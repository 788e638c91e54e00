use Rattle.iova_depot.proofs.Shelves.{got_reloaded}
use Rattle.iova_depot.proofs.caches.Caches.reload_and_get.Goals as goal

pub returns-in-Hit-clause-left : goal.returns-in-Hit-clause-left
returns-in-Hit-clause-left c = got_reloaded _ _ _ _ _ _ c.reload.ensures.sound c.requires.worker c.requires.order c.requires.empty c.if-not-reload.ensures.moved c.try_get.ensures.left
