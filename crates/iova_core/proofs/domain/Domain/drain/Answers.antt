use Rattle.std.proofs.Common.{◌≡◌, ◌<◌}
use Rattle.iova_core.specs.Domain.{Parts}
use Rattle.iova_core.proofs.Queues.{ring_is, ring_backed, domain_drained}
use Rattle.iova_core.proofs.domain.Domain.drain.Goals as goal

pub drain-count-requires-clause-backed : goal.drain-count-requires-clause-backed
drain-count-requires-clause-backed c =
    let p : Parts = record { tree = c.self.inside.tree; clients = c.self.inside.clients; cached = c.self.inside.caches; rings = c.self.inside.rings.items; flushes = c.self.inside.flights; reserved = c.self.inside.reserved } in
    let count : c.workers.result ≡ p.cached.workers = rw (← c.self.view_is) at c.workers.ensures.is in
    let below : c.args.ring < p.cached.workers = rw count at c.if-ring-workers.false in
    let ring = ring_is p c.args.ring c.index_mut-ring.result.now c.self.invariant below c.index_mut-ring.ensures.value in
    rw ring (ring_backed p c.args.ring c.self.invariant below)

pub invariant_of-self : goal.invariant_of-self
invariant_of-self c =
    let p : Parts = record { tree = c.self.inside.tree; clients = c.self.inside.clients; cached = c.self.inside.caches; rings = c.self.inside.rings.items; flushes = c.self.inside.flights; reserved = c.self.inside.reserved } in
    let count : c.workers.result ≡ p.cached.workers = rw (← c.self.view_is) at c.workers.ensures.is in
    let count' : c.workers-else-ring-workers.result ≡ p.cached.workers = rw (← c.self.view_is) at c.workers-else-ring-workers.ensures.is in
    let below : c.args.ring < p.cached.workers = rw count at c.if-ring-workers.false in
    let below' : c.args.by < p.cached.workers = rw count' at c.if-by-workers.false in
    let ring = ring_is p c.args.ring c.index_mut-ring.result.now c.self.invariant below c.index_mut-ring.ensures.value in
    let finish = c.finish-finish.ensures.is in
    domain_drained p c.drain-count.new.tree c.drain-count.new.caches c.drain-count.new.ring c.args.ring c.args.by c.self.invariant below below'
    (rw (finish, ring) at c.drain-count.ensures.ring) (rw (finish, ring) at c.drain-count.ensures.caches) (rw (finish, ring) at c.drain-count.ensures.backed)
