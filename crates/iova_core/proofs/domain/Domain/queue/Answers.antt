use Rattle.std.proofs.Common.{◌≡◌, ◌<◌, refl, sym, ap, ◌∙◌, arith}
use Rattle.iova_model.specs.declared.entry.Entry.{Entry}
use Rattle.iova_model.specs.Clients.{client_with}
use Rattle.iova_model.specs.Next.{Next}
use Rattle.iova_core.specs.Domain.{Parts}
use Rattle.iova_core.proofs.Holdings.{taken_from}
use Rattle.iova_core.proofs.Queues.{ring_is, ring_backed, held_few, held_low, held_back, queue_taken, domain_queued, kept_state, queue_full, domain_kept}
use Rattle.iova_core.proofs.domain.Domain.queue.Goals as goal

pub drain_unless-requires-clause-backed : goal.drain_unless-requires-clause-backed
drain_unless-requires-clause-backed c =
    let p : Parts = record { tree = c.self.inside.tree; clients = c.self.inside.clients; cached = c.self.inside.caches; rings = c.self.inside.rings.items; flushes = c.self.inside.flights; reserved = c.self.inside.reserved } in
    let below : c.args.worker < p.cached.workers = rw (← c.self.view_is) at c.requires in
    let ring = ring_is p c.args.worker c.index_mut-ring.result.now c.self.invariant below c.index_mut-ring.ensures.value in
    rw ring (ring_backed p c.args.worker c.self.invariant below)

pub add-requires-clause-bounded : goal.add-requires-clause-bounded
add-requires-clause-bounded c =
    let p : Parts = record { tree = c.self.inside.tree; clients = c.self.inside.clients; cached = c.self.inside.caches; rings = c.self.inside.rings.items; flushes = c.self.inside.flights; reserved = c.self.inside.reserved } in
    let below : c.args.worker < p.cached.workers = rw (← c.self.view_is) at c.requires in
    let take = taken_from c.args.lo (client_with c.args.client p.clients.clients) c.in-Ok.range c.in-Ok.ensures.value in
    let ring = ring_is p c.args.worker c.index_mut-ring.result.now c.self.invariant below c.index_mut-ring.ensures.value in
    let finish = c.finish-finish.ensures.is in
    let left = rw (finish, ring) at c.drain_unless.ensures.ring in
    let now = rw (finish, ring) at c.drain_unless.ensures.caches in
    let ex = rw (finish, ring) at c.drain_unless.ensures.backed in
    let few = held_few p c.drain_unless.new.tree c.drain_unless.new.caches c.drain_unless.new.ring c.args.worker c.args.client c.args.lo c.self.invariant below take.client c.in-Ok.range take.found take.held left now ex in
    omega (arith, c.len.ensures.is, few)

pub add-requires-in-Err-clause-client : goal.add-requires-in-Err-clause-client
add-requires-in-Err-clause-client c =
    let p : Parts = record { tree = c.self.inside.tree; clients = c.self.inside.clients; cached = c.self.inside.caches; rings = c.self.inside.rings.items; flushes = c.self.inside.flights; reserved = c.self.inside.reserved } in
    let below : c.args.worker < p.cached.workers = rw (← c.self.view_is) at c.requires in
    let take = taken_from c.args.lo (client_with c.args.client p.clients.clients) c.in-Ok.range c.in-Ok.ensures.value in
    let ring = ring_is p c.args.worker c.index_mut-ring.result.now c.self.invariant below c.index_mut-ring.ensures.value in
    let finish = c.finish-finish.ensures.is in
    let left = rw (finish, ring) at c.drain_unless.ensures.ring in
    let now = rw (finish, ring) at c.drain_unless.ensures.caches in
    let ex = rw (finish, ring) at c.drain_unless.ensures.backed in
    held_back p c.drain_unless.new.tree c.drain_unless.new.caches c.drain_unless.new.ring c.args.worker c.args.client c.args.lo c.self.invariant below take.client c.in-Ok.range take.found take.held left now ex c.take.new.self.clients c.in-Ok.ensures.clients

pub add-requires-in-Err-clause-sized : goal.add-requires-in-Err-clause-sized
add-requires-in-Err-clause-sized c =
    let p : Parts = record { tree = c.self.inside.tree; clients = c.self.inside.clients; cached = c.self.inside.caches; rings = c.self.inside.rings.items; flushes = c.self.inside.flights; reserved = c.self.inside.reserved } in
    let below : c.args.worker < p.cached.workers = rw (← c.self.view_is) at c.requires in
    let take = taken_from c.args.lo (client_with c.args.client p.clients.clients) c.in-Ok.range c.in-Ok.ensures.value in
    let ring = ring_is p c.args.worker c.index_mut-ring.result.now c.self.invariant below c.index_mut-ring.ensures.value in
    let finish = c.finish-finish.ensures.is in
    let left = rw (finish, ring) at c.drain_unless.ensures.ring in
    let now = rw (finish, ring) at c.drain_unless.ensures.caches in
    let ex = rw (finish, ring) at c.drain_unless.ensures.backed in
    held_few p c.drain_unless.new.tree c.drain_unless.new.caches c.drain_unless.new.ring c.args.worker c.args.client c.args.lo c.self.invariant below take.client c.in-Ok.range take.found take.held left now ex

pub add-requires-in-Err-clause-low : goal.add-requires-in-Err-clause-low
add-requires-in-Err-clause-low c =
    let p : Parts = record { tree = c.self.inside.tree; clients = c.self.inside.clients; cached = c.self.inside.caches; rings = c.self.inside.rings.items; flushes = c.self.inside.flights; reserved = c.self.inside.reserved } in
    let below : c.args.worker < p.cached.workers = rw (← c.self.view_is) at c.requires in
    let take = taken_from c.args.lo (client_with c.args.client p.clients.clients) c.in-Ok.range c.in-Ok.ensures.value in
    let ring = ring_is p c.args.worker c.index_mut-ring.result.now c.self.invariant below c.index_mut-ring.ensures.value in
    let finish = c.finish-finish.ensures.is in
    let left = rw (finish, ring) at c.drain_unless.ensures.ring in
    let now = rw (finish, ring) at c.drain_unless.ensures.caches in
    let ex = rw (finish, ring) at c.drain_unless.ensures.backed in
    held_low p c.drain_unless.new.tree c.drain_unless.new.caches c.drain_unless.new.ring c.args.worker c.args.client c.args.lo c.self.invariant below take.client c.in-Ok.range take.found take.held left now ex

pub invariant_of-self-in-Ok-add : goal.invariant_of-self-in-Ok-add
invariant_of-self-in-Ok-add c =
    let p : Parts = record { tree = c.self.inside.tree; clients = c.self.inside.clients; cached = c.self.inside.caches; rings = c.self.inside.rings.items; flushes = c.self.inside.flights; reserved = c.self.inside.reserved } in
    let below : c.args.worker < p.cached.workers = rw (← c.self.view_is) at c.requires in
    let take = taken_from c.args.lo (client_with c.args.client p.clients.clients) c.in-Ok.range c.in-Ok.ensures.value in
    let ring = ring_is p c.args.worker c.index_mut-ring.result.now c.self.invariant below c.index_mut-ring.ensures.value in
    let finish = c.finish-finish.ensures.is in
    let left = rw (finish, ring) at c.drain_unless.ensures.ring in
    let now = rw (finish, ring) at c.drain_unless.ensures.caches in
    let ex = rw (finish, ring) at c.drain_unless.ensures.backed in
    let made : Entry = record { lo = c.lo.result; len = c.len.result; count = c.start.result } in
    let entry : made ≡ record { lo = c.in-Ok.range.lo; len = c.in-Ok.range.len; count = p.flushes.start } = rw (c.lo.ensures, c.len.ensures.is, c.start.ensures.is) refl in
    domain_queued p c.drain_unless.new.tree c.drain_unless.new.caches c.drain_unless.new.ring c.args.worker c.args.client c.args.lo c.self.invariant below take.client c.in-Ok.range take.found take.held left now ex c.take.new.self c.in-Ok.ensures.clients c.in-Ok.ensures.serial _ entry c.add.new.self c.in-Ok-add.ensures.added c.in-Ok-add.ensures.room

pub returns-in-Ok-add-clause-state : goal.returns-in-Ok-add-clause-state
returns-in-Ok-add-clause-state c =
    let p : Parts = record { tree = c.self.inside.tree; clients = c.self.inside.clients; cached = c.self.inside.caches; rings = c.self.inside.rings.items; flushes = c.self.inside.flights; reserved = c.self.inside.reserved } in
    let below : c.args.worker < p.cached.workers = rw (← c.self.view_is) at c.requires in
    let take = taken_from c.args.lo (client_with c.args.client p.clients.clients) c.in-Ok.range c.in-Ok.ensures.value in
    let ring = ring_is p c.args.worker c.index_mut-ring.result.now c.self.invariant below c.index_mut-ring.ensures.value in
    let finish = c.finish-finish.ensures.is in
    let left = rw (finish, ring) at c.drain_unless.ensures.ring in
    let now = rw (finish, ring) at c.drain_unless.ensures.caches in
    let ex = rw (finish, ring) at c.drain_unless.ensures.backed in
    let made : Entry = record { lo = c.lo.result; len = c.len.result; count = c.start.result } in
    let entry : made ≡ record { lo = c.in-Ok.range.lo; len = c.in-Ok.range.len; count = p.flushes.start } = rw (c.lo.ensures, c.len.ensures.is, c.start.ensures.is) refl in
    rw (← c.self.view_is) (λ c' found'. sym (ap (λ (n : Next). n.state) (queue_taken p c.drain_unless.new.tree c.drain_unless.new.caches c.drain_unless.new.ring c.args.worker c.args.client c.args.lo c.self.invariant below take.client c.in-Ok.range take.found take.held left now ex c.take.new.self c.in-Ok.ensures.clients c.in-Ok.ensures.serial _ entry c.add.new.self c.in-Ok-add.ensures.added c.in-Ok-add.ensures.room c' found')))

pub invariant_of-self-in-Err : goal.invariant_of-self-in-Err
invariant_of-self-in-Err c =
    let p : Parts = record { tree = c.self.inside.tree; clients = c.self.inside.clients; cached = c.self.inside.caches; rings = c.self.inside.rings.items; flushes = c.self.inside.flights; reserved = c.self.inside.reserved } in
    let below : c.args.worker < p.cached.workers = rw (← c.self.view_is) at c.requires in
    let take = taken_from c.args.lo (client_with c.args.client p.clients.clients) c.in-Ok.range c.in-Ok.ensures.value in
    let ring = ring_is p c.args.worker c.index_mut-ring.result.now c.self.invariant below c.index_mut-ring.ensures.value in
    let finish = c.finish-finish.ensures.is in
    let left = rw (finish, ring) at c.drain_unless.ensures.ring in
    let now = rw (finish, ring) at c.drain_unless.ensures.caches in
    let ex = rw (finish, ring) at c.drain_unless.ensures.backed in
    let clients = rw c.in-Ok.ensures.clients at c.add-in-Err.ensures.clients in
    let serial = c.add-in-Err.ensures.serial ∙ c.in-Ok.ensures.serial in
    domain_kept p c.drain_unless.new.tree c.drain_unless.new.caches c.drain_unless.new.ring c.args.worker c.args.client c.args.lo c.self.invariant below take.client c.in-Ok.range take.found take.held left now ex c.add-in-Err.new.self clients serial c.add.new.self c.in-Err.ensures.unchanged (c.in-Err.ensures.full.0 refl)

pub returns-in-Err-clause-state : goal.returns-in-Err-clause-state
returns-in-Err-clause-state c =
    let p : Parts = record { tree = c.self.inside.tree; clients = c.self.inside.clients; cached = c.self.inside.caches; rings = c.self.inside.rings.items; flushes = c.self.inside.flights; reserved = c.self.inside.reserved } in
    let below : c.args.worker < p.cached.workers = rw (← c.self.view_is) at c.requires in
    let take = taken_from c.args.lo (client_with c.args.client p.clients.clients) c.in-Ok.range c.in-Ok.ensures.value in
    let ring = ring_is p c.args.worker c.index_mut-ring.result.now c.self.invariant below c.index_mut-ring.ensures.value in
    let finish = c.finish-finish.ensures.is in
    let left = rw (finish, ring) at c.drain_unless.ensures.ring in
    let now = rw (finish, ring) at c.drain_unless.ensures.caches in
    let ex = rw (finish, ring) at c.drain_unless.ensures.backed in
    let clients = rw c.in-Ok.ensures.clients at c.add-in-Err.ensures.clients in
    let serial = c.add-in-Err.ensures.serial ∙ c.in-Ok.ensures.serial in
    rw (← c.self.view_is) (λ c' found'. kept_state p c.drain_unless.new.tree c.drain_unless.new.caches c.drain_unless.new.ring c.args.worker c.args.client c.args.lo c.self.invariant below take.client c.in-Ok.range take.found take.held left now ex c.add-in-Err.new.self clients serial c.add.new.self c.in-Err.ensures.unchanged (c.in-Err.ensures.full.0 refl) ∙ sym (ap (λ (n : Next). n.state) (queue_full p c.drain_unless.new.tree c.drain_unless.new.caches c.drain_unless.new.ring c.args.worker c.args.client c.args.lo c.self.invariant below take.client c.in-Ok.range take.found take.held left now ex c.add-in-Err.new.self clients serial c.add.new.self c.in-Err.ensures.unchanged (c.in-Err.ensures.full.0 refl) c' found')))
