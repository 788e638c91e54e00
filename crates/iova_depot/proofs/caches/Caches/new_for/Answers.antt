use Rattle.iova_depot.proofs.Fresh.{fresh, all_seen-new}
use Rattle.iova_depot.proofs.caches.Caches.new_for.Goals as goal

pub invariant_of-result : goal.invariant_of-result
invariant_of-result c = fresh _ _ _ _ c.mag-mag.ensures.profile c.requires.some c.requires.few c.in_ok-workers.ensures.value c.in-Ok.ensures

pub returns-clause-value : goal.returns-clause-value
returns-clause-value c = all_seen-new _ _ _ _ c.in_ok-workers.ensures.value c.in-Ok.ensures
