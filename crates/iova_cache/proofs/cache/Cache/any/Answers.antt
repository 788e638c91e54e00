use Rattle.std.proofs.Common.{◌≡◌, ℕ, Some, find, refl, ap, ◌∙◌}
use Rattle.iova_model.specs.Clients.{begins_at}
use Rattle.iova_cache.proofs.cache.Cache.any.Goals as goal

pub returns-clause-gone : goal.returns-clause-gone
returns-clause-gone c =
    let head = c.in-Some.ensures.first in
    let at : find (begins_at c.lo.result) c.self.inside.held.ranges ≡ Some c.in-Some.range = ap (λ (n : ℕ). find (begins_at n) c.self.inside.held.ranges) c.lo.ensures ∙ head in
    let taken : c.take-taken.result ≡ Some c.in-Some.range = c.take-taken.ensures.value ∙ at in
    rw (← c.self.view_is) (record {
      found = head;
      held = rw taken at c.take-taken.ensures.taken;
      magazines = refl;
      ring = refl;
      client = record { worker = refl; client = refl; most = refl };
    })
