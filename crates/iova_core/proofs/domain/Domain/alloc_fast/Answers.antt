use Rattle.std.proofs.Common.{◌≡◌, ◌<◌, refl, sym, ap, ◌∙◌}
use Rattle.iova_model.specs.Next.{Next}
use Rattle.iova_model.specs.State.{State}
use Rattle.iova_clients.specs.Registry.{Registry}
use Rattle.iova_core.specs.Domain.{Parts, state_of}
use Rattle.iova_core.specs.declared.walk.Walked.TheVariants as found
use Rattle.iova_core.proofs.Outcomes.{refuses_ok, refuses_err, looked_up, looked_up_sac}
use Rattle.iova_core.proofs.Queues.{domain_backed}
use Rattle.iova_core.proofs.Allocs.{asked_from, starved_state, alloc_is, walked_state, domain_walked, found_low, found_new, given_state, domain_given}
use Rattle.iova_core.proofs.domain.Domain.alloc_fast.Goals as goal

pub walk-requires-clause-backed : goal.walk-requires-clause-backed
walk-requires-clause-backed c =
    let p : Parts = record { tree = c.self.inside.tree; clients = c.self.inside.clients; cached = c.self.inside.caches; rings = c.self.inside.rings.items; flushes = c.self.inside.flights; reserved = c.self.inside.reserved } in
    domain_backed p c.self.invariant

pub add-requires-clause-client : goal.add-requires-clause-client
add-requires-clause-client c =
    let p : Parts = record { tree = c.self.inside.tree; clients = c.self.inside.clients; cached = c.self.inside.caches; rings = c.self.inside.rings.items; flushes = c.self.inside.flights; reserved = c.self.inside.reserved } in
    let s = state_of p in
    let known : c.args.worker < p.cached.workers = rw (← c.self.view_is) at c.requires.worker in
    let same = c.in-Some.ensures.unchanged in
    let owner = looked_up c.args.worker _ c.in-Some.flags c.in-Some.ensures.is in
    let room = rw same at (refuses_ok _ c.room.result c.in-Ok.field-0 (record { refused = c.room.ensures.refused; accepted = c.room.ensures.accepted }) c.in-Ok.is) in
    let listed = rw same at c.room.ensures.clients in
    let kept = rw same at c.room.ensures.serial in
    let asked = asked_from s c.args.worker c.args.client c.args.frames known c.requires.some c.requires.bounded owner room in
    let mark : c.in-Some.flags.sac ≡ asked.0.sac = looked_up_sac c.args.worker _ c.in-Some.flags asked.0 c.in-Some.ensures.is asked.1.found in
    let comes = rw (mark, c.requires.size) at c.in-Placed.ensures.comes in
    let size = rw c.requires.size at c.in-Placed.ensures.size in
    found_new p c.self.invariant c.args.worker c.args.client c.args.frames c.args.limit asked.0 asked.1 c.walk.new.tree c.walk.new.caches (found.Placed c.in-Placed.range) comes c.in-Placed.ensures.point c.in-Placed.ensures.backed c.in-Placed.range refl c.room.new.self listed

pub add-requires-clause-low : goal.add-requires-clause-low
add-requires-clause-low c =
    let p : Parts = record { tree = c.self.inside.tree; clients = c.self.inside.clients; cached = c.self.inside.caches; rings = c.self.inside.rings.items; flushes = c.self.inside.flights; reserved = c.self.inside.reserved } in
    let s = state_of p in
    let known : c.args.worker < p.cached.workers = rw (← c.self.view_is) at c.requires.worker in
    let same = c.in-Some.ensures.unchanged in
    let owner = looked_up c.args.worker _ c.in-Some.flags c.in-Some.ensures.is in
    let room = rw same at (refuses_ok _ c.room.result c.in-Ok.field-0 (record { refused = c.room.ensures.refused; accepted = c.room.ensures.accepted }) c.in-Ok.is) in
    let listed = rw same at c.room.ensures.clients in
    let kept = rw same at c.room.ensures.serial in
    let asked = asked_from s c.args.worker c.args.client c.args.frames known c.requires.some c.requires.bounded owner room in
    let mark : c.in-Some.flags.sac ≡ asked.0.sac = looked_up_sac c.args.worker _ c.in-Some.flags asked.0 c.in-Some.ensures.is asked.1.found in
    let comes = rw (mark, c.requires.size) at c.in-Placed.ensures.comes in
    let size = rw c.requires.size at c.in-Placed.ensures.size in
    found_low p c.self.invariant c.args.worker c.args.client c.args.frames c.args.limit asked.0 asked.1 c.walk.new.tree c.walk.new.caches (found.Placed c.in-Placed.range) comes c.in-Placed.ensures.point c.in-Placed.ensures.backed c.in-Placed.range refl

pub invariant_of-self-in-Placed : goal.invariant_of-self-in-Placed
invariant_of-self-in-Placed c =
    let p : Parts = record { tree = c.self.inside.tree; clients = c.self.inside.clients; cached = c.self.inside.caches; rings = c.self.inside.rings.items; flushes = c.self.inside.flights; reserved = c.self.inside.reserved } in
    let s = state_of p in
    let known : c.args.worker < p.cached.workers = rw (← c.self.view_is) at c.requires.worker in
    let same = c.in-Some.ensures.unchanged in
    let owner = looked_up c.args.worker _ c.in-Some.flags c.in-Some.ensures.is in
    let room = rw same at (refuses_ok _ c.room.result c.in-Ok.field-0 (record { refused = c.room.ensures.refused; accepted = c.room.ensures.accepted }) c.in-Ok.is) in
    let listed = rw same at c.room.ensures.clients in
    let kept = rw same at c.room.ensures.serial in
    let asked = asked_from s c.args.worker c.args.client c.args.frames known c.requires.some c.requires.bounded owner room in
    let mark : c.in-Some.flags.sac ≡ asked.0.sac = looked_up_sac c.args.worker _ c.in-Some.flags asked.0 c.in-Some.ensures.is asked.1.found in
    let comes = rw (mark, c.requires.size) at c.in-Placed.ensures.comes in
    let size = rw c.requires.size at c.in-Placed.ensures.size in
    let clients = rw listed at c.add.ensures.clients in
    let serial = c.add.ensures.serial ∙ kept in
    domain_given p c.self.invariant c.args.worker c.args.client c.args.frames c.args.limit asked.0 asked.1 c.walk.new.tree c.walk.new.caches (found.Placed c.in-Placed.range) comes c.in-Placed.ensures.point c.in-Placed.ensures.backed c.in-Placed.range refl c.steps_keep_validity.ensures c.add.new.self clients (given_state p c.self.invariant c.args.worker c.args.client c.args.frames c.args.limit asked.0 asked.1 c.walk.new.tree c.walk.new.caches (found.Placed c.in-Placed.range) comes c.in-Placed.ensures.point c.in-Placed.ensures.backed c.in-Placed.range refl c.add.new.self clients serial size refl)

pub invariant_of-self-in-Nowhere : goal.invariant_of-self-in-Nowhere
invariant_of-self-in-Nowhere c =
    let p : Parts = record { tree = c.self.inside.tree; clients = c.self.inside.clients; cached = c.self.inside.caches; rings = c.self.inside.rings.items; flushes = c.self.inside.flights; reserved = c.self.inside.reserved } in
    let s = state_of p in
    let known : c.args.worker < p.cached.workers = rw (← c.self.view_is) at c.requires.worker in
    let same = c.in-Some.ensures.unchanged in
    let owner = looked_up c.args.worker _ c.in-Some.flags c.in-Some.ensures.is in
    let room = rw same at (refuses_ok _ c.room.result c.in-Ok.field-0 (record { refused = c.room.ensures.refused; accepted = c.room.ensures.accepted }) c.in-Ok.is) in
    let listed = rw same at c.room.ensures.clients in
    let kept = rw same at c.room.ensures.serial in
    let asked = asked_from s c.args.worker c.args.client c.args.frames known c.requires.some c.requires.bounded owner room in
    let mark : c.in-Some.flags.sac ≡ asked.0.sac = looked_up_sac c.args.worker _ c.in-Some.flags asked.0 c.in-Some.ensures.is asked.1.found in
    let comes = rw (mark, c.requires.size) at c.in-Nowhere.ensures.comes in
    domain_walked p c.self.invariant c.args.worker c.args.client c.args.frames c.args.limit asked.0 asked.1 c.walk.new.tree c.walk.new.caches found.Nowhere comes c.in-Nowhere.ensures.point c.in-Nowhere.ensures.backed c.steps_keep_validity.ensures c.room.new.self listed kept refl (ap (λ (n : Next). n.state) (alloc_is p c.self.invariant c.args.worker c.args.client c.args.frames c.args.limit asked.0 asked.1 c.walk.new.tree c.walk.new.caches found.Nowhere comes c.in-Nowhere.ensures.point c.in-Nowhere.ensures.backed) ∙ walked_state p c.self.invariant c.args.worker c.args.client c.args.frames c.args.limit asked.0 asked.1 c.walk.new.tree c.walk.new.caches found.Nowhere comes c.in-Nowhere.ensures.point c.in-Nowhere.ensures.backed c.room.new.self listed kept)

pub invariant_of-self-in-OutOfMemory : goal.invariant_of-self-in-OutOfMemory
invariant_of-self-in-OutOfMemory c =
    let p : Parts = record { tree = c.self.inside.tree; clients = c.self.inside.clients; cached = c.self.inside.caches; rings = c.self.inside.rings.items; flushes = c.self.inside.flights; reserved = c.self.inside.reserved } in
    let s = state_of p in
    let known : c.args.worker < p.cached.workers = rw (← c.self.view_is) at c.requires.worker in
    let same = c.in-Some.ensures.unchanged in
    let owner = looked_up c.args.worker _ c.in-Some.flags c.in-Some.ensures.is in
    let room = rw same at (refuses_ok _ c.room.result c.in-Ok.field-0 (record { refused = c.room.ensures.refused; accepted = c.room.ensures.accepted }) c.in-Ok.is) in
    let listed = rw same at c.room.ensures.clients in
    let kept = rw same at c.room.ensures.serial in
    let asked = asked_from s c.args.worker c.args.client c.args.frames known c.requires.some c.requires.bounded owner room in
    let mark : c.in-Some.flags.sac ≡ asked.0.sac = looked_up_sac c.args.worker _ c.in-Some.flags asked.0 c.in-Some.ensures.is asked.1.found in
    let comes = rw (mark, c.requires.size) at c.in-OutOfMemory.ensures.comes in
    domain_walked p c.self.invariant c.args.worker c.args.client c.args.frames c.args.limit asked.0 asked.1 c.walk.new.tree c.walk.new.caches (found.OutOfMemory c.in-OutOfMemory.point) comes c.in-OutOfMemory.ensures.point c.in-OutOfMemory.ensures.backed c.steps_keep_validity.ensures c.room.new.self listed kept refl (ap (λ (n : Next). n.state) (alloc_is p c.self.invariant c.args.worker c.args.client c.args.frames c.args.limit asked.0 asked.1 c.walk.new.tree c.walk.new.caches (found.OutOfMemory c.in-OutOfMemory.point) comes c.in-OutOfMemory.ensures.point c.in-OutOfMemory.ensures.backed) ∙ walked_state p c.self.invariant c.args.worker c.args.client c.args.frames c.args.limit asked.0 asked.1 c.walk.new.tree c.walk.new.caches (found.OutOfMemory c.in-OutOfMemory.point) comes c.in-OutOfMemory.ensures.point c.in-OutOfMemory.ensures.backed c.room.new.self listed kept)

pub returns-in-Placed-clause-state : goal.returns-in-Placed-clause-state
returns-in-Placed-clause-state c =
    let p : Parts = record { tree = c.self.inside.tree; clients = c.self.inside.clients; cached = c.self.inside.caches; rings = c.self.inside.rings.items; flushes = c.self.inside.flights; reserved = c.self.inside.reserved } in
    let s = state_of p in
    let known : c.args.worker < p.cached.workers = rw (← c.self.view_is) at c.requires.worker in
    let same = c.in-Some.ensures.unchanged in
    let owner = looked_up c.args.worker _ c.in-Some.flags c.in-Some.ensures.is in
    let room = rw same at (refuses_ok _ c.room.result c.in-Ok.field-0 (record { refused = c.room.ensures.refused; accepted = c.room.ensures.accepted }) c.in-Ok.is) in
    let listed = rw same at c.room.ensures.clients in
    let kept = rw same at c.room.ensures.serial in
    let asked = asked_from s c.args.worker c.args.client c.args.frames known c.requires.some c.requires.bounded owner room in
    let mark : c.in-Some.flags.sac ≡ asked.0.sac = looked_up_sac c.args.worker _ c.in-Some.flags asked.0 c.in-Some.ensures.is asked.1.found in
    let comes = rw (mark, c.requires.size) at c.in-Placed.ensures.comes in
    let size = rw c.requires.size at c.in-Placed.ensures.size in
    let clients = rw listed at c.add.ensures.clients in
    let serial = c.add.ensures.serial ∙ kept in
    rw (← c.self.view_is) (sym (given_state p c.self.invariant c.args.worker c.args.client c.args.frames c.args.limit asked.0 asked.1 c.walk.new.tree c.walk.new.caches (found.Placed c.in-Placed.range) comes c.in-Placed.ensures.point c.in-Placed.ensures.backed c.in-Placed.range refl c.add.new.self clients serial size refl))

pub returns-in-Nowhere-clause-state : goal.returns-in-Nowhere-clause-state
returns-in-Nowhere-clause-state c =
    let p : Parts = record { tree = c.self.inside.tree; clients = c.self.inside.clients; cached = c.self.inside.caches; rings = c.self.inside.rings.items; flushes = c.self.inside.flights; reserved = c.self.inside.reserved } in
    let s = state_of p in
    let known : c.args.worker < p.cached.workers = rw (← c.self.view_is) at c.requires.worker in
    let same = c.in-Some.ensures.unchanged in
    let owner = looked_up c.args.worker _ c.in-Some.flags c.in-Some.ensures.is in
    let room = rw same at (refuses_ok _ c.room.result c.in-Ok.field-0 (record { refused = c.room.ensures.refused; accepted = c.room.ensures.accepted }) c.in-Ok.is) in
    let listed = rw same at c.room.ensures.clients in
    let kept = rw same at c.room.ensures.serial in
    let asked = asked_from s c.args.worker c.args.client c.args.frames known c.requires.some c.requires.bounded owner room in
    let mark : c.in-Some.flags.sac ≡ asked.0.sac = looked_up_sac c.args.worker _ c.in-Some.flags asked.0 c.in-Some.ensures.is asked.1.found in
    let comes = rw (mark, c.requires.size) at c.in-Nowhere.ensures.comes in
    rw (← c.self.view_is, c.refused-in-Nowhere.ensures.point) (sym (ap (λ (n : Next). n.state) (alloc_is p c.self.invariant c.args.worker c.args.client c.args.frames c.args.limit asked.0 asked.1 c.walk.new.tree c.walk.new.caches found.Nowhere comes c.in-Nowhere.ensures.point c.in-Nowhere.ensures.backed) ∙ walked_state p c.self.invariant c.args.worker c.args.client c.args.frames c.args.limit asked.0 asked.1 c.walk.new.tree c.walk.new.caches found.Nowhere comes c.in-Nowhere.ensures.point c.in-Nowhere.ensures.backed c.room.new.self listed kept))

pub returns-in-OutOfMemory-clause-state : goal.returns-in-OutOfMemory-clause-state
returns-in-OutOfMemory-clause-state c =
    let p : Parts = record { tree = c.self.inside.tree; clients = c.self.inside.clients; cached = c.self.inside.caches; rings = c.self.inside.rings.items; flushes = c.self.inside.flights; reserved = c.self.inside.reserved } in
    let s = state_of p in
    let known : c.args.worker < p.cached.workers = rw (← c.self.view_is) at c.requires.worker in
    let same = c.in-Some.ensures.unchanged in
    let owner = looked_up c.args.worker _ c.in-Some.flags c.in-Some.ensures.is in
    let room = rw same at (refuses_ok _ c.room.result c.in-Ok.field-0 (record { refused = c.room.ensures.refused; accepted = c.room.ensures.accepted }) c.in-Ok.is) in
    let listed = rw same at c.room.ensures.clients in
    let kept = rw same at c.room.ensures.serial in
    let asked = asked_from s c.args.worker c.args.client c.args.frames known c.requires.some c.requires.bounded owner room in
    let mark : c.in-Some.flags.sac ≡ asked.0.sac = looked_up_sac c.args.worker _ c.in-Some.flags asked.0 c.in-Some.ensures.is asked.1.found in
    let comes = rw (mark, c.requires.size) at c.in-OutOfMemory.ensures.comes in
    rw (← c.self.view_is) (sym (ap (λ (n : Next). n.state) (alloc_is p c.self.invariant c.args.worker c.args.client c.args.frames c.args.limit asked.0 asked.1 c.walk.new.tree c.walk.new.caches (found.OutOfMemory c.in-OutOfMemory.point) comes c.in-OutOfMemory.ensures.point c.in-OutOfMemory.ensures.backed) ∙ walked_state p c.self.invariant c.args.worker c.args.client c.args.frames c.args.limit asked.0 asked.1 c.walk.new.tree c.walk.new.caches (found.OutOfMemory c.in-OutOfMemory.point) comes c.in-OutOfMemory.ensures.point c.in-OutOfMemory.ensures.backed c.room.new.self listed kept))

pub returns-in-Err-clause-state : goal.returns-in-Err-clause-state
returns-in-Err-clause-state c =
    let p : Parts = record { tree = c.self.inside.tree; clients = c.self.inside.clients; cached = c.self.inside.caches; rings = c.self.inside.rings.items; flushes = c.self.inside.flights; reserved = c.self.inside.reserved } in
    let s = state_of p in
    let known : c.args.worker < p.cached.workers = rw (← c.self.view_is) at c.requires.worker in
    let same = c.in-Some.ensures.unchanged in
    let owner = looked_up c.args.worker _ c.in-Some.flags c.in-Some.ensures.is in
    let why = refuses_err _ c.room.result c.in-Err.refusal (record { refused = c.room.ensures.refused; accepted = c.room.ensures.accepted }) c.in-Err.is in
    let why_before = rw same at why in
    let made : Registry → State = λ x. state_of (record p { clients = x }) in
    let none = starved_state s c.args.worker c.args.client c.args.frames c.args.limit c.refused_at.result.1 c.in-Err.refusal known c.requires.some c.requires.bounded owner why_before c.refused_at.ensures.memory in
    rw (← c.self.view_is) (ap made (c.in-Err.ensures.unchanged ∙ same) ∙ sym none)

pub returns-in-OutOfMemory-clause-reply : goal.returns-in-OutOfMemory-clause-reply
returns-in-OutOfMemory-clause-reply c =
    let p : Parts = record { tree = c.self.inside.tree; clients = c.self.inside.clients; cached = c.self.inside.caches; rings = c.self.inside.rings.items; flushes = c.self.inside.flights; reserved = c.self.inside.reserved } in
    let s = state_of p in
    let known : c.args.worker < p.cached.workers = rw (← c.self.view_is) at c.requires.worker in
    let same = c.in-Some.ensures.unchanged in
    let owner = looked_up c.args.worker _ c.in-Some.flags c.in-Some.ensures.is in
    let room = rw same at (refuses_ok _ c.room.result c.in-Ok.field-0 (record { refused = c.room.ensures.refused; accepted = c.room.ensures.accepted }) c.in-Ok.is) in
    let asked = asked_from s c.args.worker c.args.client c.args.frames known c.requires.some c.requires.bounded owner room in
    let mark : c.in-Some.flags.sac ≡ asked.0.sac = looked_up_sac c.args.worker _ c.in-Some.flags asked.0 c.in-Some.ensures.is asked.1.found in
    let comes = rw (mark, c.requires.size) at c.in-OutOfMemory.ensures.comes in
    rw (← c.self.view_is) (sym (ap (λ (n : Next). n.reply) (alloc_is p c.self.invariant c.args.worker c.args.client c.args.frames c.args.limit asked.0 asked.1 c.walk.new.tree c.walk.new.caches (found.OutOfMemory c.in-OutOfMemory.point) comes c.in-OutOfMemory.ensures.point c.in-OutOfMemory.ensures.backed)))
