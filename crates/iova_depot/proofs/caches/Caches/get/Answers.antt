use Rattle.iova_depot.proofs.Shelves.{got_own, hit_is_not_empty, miss_is_not_empty}
use Rattle.iova_depot.proofs.caches.Caches.get.Goals as goal

pub returns-in-Hit-clause-left : goal.returns-in-Hit-clause-left
returns-in-Hit-clause-left c = got_own _ _ _ _ _ _ c.try_get.ensures.value (hit_is_not_empty _ _ c.in-Hit.is) c.try_get.ensures.left

pub returns-in-Miss-clause-left : goal.returns-in-Miss-clause-left
returns-in-Miss-clause-left c = got_own _ _ _ _ _ _ c.try_get.ensures.value (miss_is_not_empty _ c.in-Miss.is) c.try_get.ensures.left
