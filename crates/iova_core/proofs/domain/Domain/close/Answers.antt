use Rattle.std.proofs.Common.{◌∙◌}
use Rattle.iova_core.proofs.Outcomes.{looked_up, owner_is}
use Rattle.iova_core.proofs.Domains.{domain_marked, domain_registry}
use Rattle.iova_core.specs.Domain.{Parts}
use Rattle.iova_core.proofs.domain.Domain.close.Goals as goal
use Rattle.iova_core.proofs.domain.Domain.close.Goals.{in-Ok, in-Err}

pub invariant_of-self-2 : goal.invariant_of-self-2
invariant_of-self-2 c =
    let p : Parts = record { tree = c.self.inside.tree; clients = c.self.inside.clients; cached = c.self.inside.caches; rings = c.self.inside.rings.items; flushes = c.self.inside.flights; reserved = c.self.inside.reserved } in
    let same = c.in-Some.ensures.unchanged in
    let own = owner_is c.args.worker _ (looked_up c.args.worker _ _ c.in-Some.ensures.is) in
    elim c.match-mark_closing.branch [
      | in-Ok w ↦ domain_marked p c.mark_closing.new.self c.args.client own.0 c.self.invariant own.1.found (rw same at w.in-Ok.ensures.clients) (rw same at w.in-Ok.ensures.serial)
      | in-Err w ↦ domain_registry p c.mark_closing.new.self c.self.invariant (w.in-Err.ensures.unchanged ∙ same)
    ]
