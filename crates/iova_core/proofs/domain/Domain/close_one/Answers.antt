use Rattle.std.proofs.Common.{ℕ, ◌≡◌, List, Some, refl, sym, ap, ◌∙◌}
use Rattle.iova_model.specs.Clients.{Client, client_with, without_client, with_mark}
use Rattle.iova_model.specs.State.{State}
use Rattle.iova_model.specs.Next.{Next, with_clients}
use Rattle.iova_laws.proofs.Kept.{with_marked}
use Rattle.iova_core.specs.Domain.{Parts, state_of}
use Rattle.iova_core.proofs.Domains.{domain_forgotten}
use Rattle.iova_core.proofs.Closes.{marked_from, marked_found, marked_empty, closes_lowest, closes_last}
use Rattle.iova_core.proofs.domain.Domain.close_one.Goals as goal

pub forget-requires : goal.forget-requires
forget-requires c =
    let s = c.args.self.now in
    let m = marked_from s c.args.worker c.args.client c.in-Marked-default.field-0-0 (sym c.close.ensures.reply ∙ c.in-Marked-default.is-0) in
    let state : c.close.new.self ≡ with_marked s c.args.client = c.close.ensures.state ∙ m.state in
    let clients : c.self.inside.clients.clients ≡ (with_marked s c.args.client).clients = ap (λ (x : State). x.clients) (c.self.view_is ∙ state) in
    let found : client_with c.args.client c.self.inside.clients.clients ≡ Some (with_mark m.client) = ap (client_with c.args.client) clients ∙ marked_found s c.args.worker c.args.client m in
    let none = rw clients at c.in-None.ensures.is in
    rw found (record { closing = refl; empty = marked_empty s c.args.worker c.args.client m none })

pub invariant_of-self : goal.invariant_of-self
invariant_of-self c =
    let p : Parts = record { tree = c.self.inside.tree; clients = c.self.inside.clients; cached = c.self.inside.caches; rings = c.self.inside.rings.items; flushes = c.self.inside.flights; reserved = c.self.inside.reserved } in
    let s = c.args.self.now in
    let m = marked_from s c.args.worker c.args.client c.in-Marked-default.field-0-0 (sym c.close.ensures.reply ∙ c.in-Marked-default.is-0) in
    let state : c.close.new.self ≡ with_marked s c.args.client = c.close.ensures.state ∙ m.state in
    let clients : c.self.inside.clients.clients ≡ (with_marked s c.args.client).clients = ap (λ (x : State). x.clients) (c.self.view_is ∙ state) in
    let found : client_with c.args.client c.self.inside.clients.clients ≡ Some (with_mark m.client) = ap (client_with c.args.client) clients ∙ marked_found s c.args.worker c.args.client m in
    let none = rw clients at c.in-None.ensures.is in
    domain_forgotten p c.forget.new.self c.args.client (with_mark m.client) c.self.invariant found (marked_empty s c.args.worker c.args.client m none) c.forget.ensures.clients c.forget.ensures.serial

pub returns-in-Some-clause-reply : goal.returns-in-Some-clause-reply
returns-in-Some-clause-reply c =
    let s = c.args.self.now in
    let m = marked_from s c.args.worker c.args.client c.in-Marked-default.field-0-0 (sym c.close.ensures.reply ∙ c.in-Marked-default.is-0) in
    let state : c.close.new.self ≡ with_marked s c.args.client = c.close.ensures.state ∙ m.state in
    let clients : c.self.inside.clients.clients ≡ (with_marked s c.args.client).clients = ap (λ (x : State). x.clients) (c.self.view_is ∙ state) in
    let found : client_with c.args.client c.self.inside.clients.clients ≡ Some (with_mark m.client) = ap (client_with c.args.client) clients ∙ marked_found s c.args.worker c.args.client m in
    let some = rw clients at c.in-Some.ensures.is in
    let queued = rw (c.lo.ensures, state) at c.queue.ensures.reply (with_mark m.client) (marked_found s c.args.worker c.args.client m) in
    queued ∙ sym (ap (λ (n : Next). n.reply) (closes_lowest s c.args.worker c.args.client m c.in-Some.range some))

pub returns-in-Some-clause-state : goal.returns-in-Some-clause-state
returns-in-Some-clause-state c =
    let s = c.args.self.now in
    let m = marked_from s c.args.worker c.args.client c.in-Marked-default.field-0-0 (sym c.close.ensures.reply ∙ c.in-Marked-default.is-0) in
    let state : c.close.new.self ≡ with_marked s c.args.client = c.close.ensures.state ∙ m.state in
    let clients : c.self.inside.clients.clients ≡ (with_marked s c.args.client).clients = ap (λ (x : State). x.clients) (c.self.view_is ∙ state) in
    let found : client_with c.args.client c.self.inside.clients.clients ≡ Some (with_mark m.client) = ap (client_with c.args.client) clients ∙ marked_found s c.args.worker c.args.client m in
    let some = rw clients at c.in-Some.ensures.is in
    let queued = rw (c.lo.ensures, state) at c.queue.ensures.state (with_mark m.client) (marked_found s c.args.worker c.args.client m) in
    queued ∙ sym (ap (λ (n : Next). n.state) (closes_lowest s c.args.worker c.args.client m c.in-Some.range some))

pub returns-in-None-clause-reply : goal.returns-in-None-clause-reply
returns-in-None-clause-reply c =
    let s = c.args.self.now in
    let m = marked_from s c.args.worker c.args.client c.in-Marked-default.field-0-0 (sym c.close.ensures.reply ∙ c.in-Marked-default.is-0) in
    let state : c.close.new.self ≡ with_marked s c.args.client = c.close.ensures.state ∙ m.state in
    let clients : c.self.inside.clients.clients ≡ (with_marked s c.args.client).clients = ap (λ (x : State). x.clients) (c.self.view_is ∙ state) in
    let found : client_with c.args.client c.self.inside.clients.clients ≡ Some (with_mark m.client) = ap (client_with c.args.client) clients ∙ marked_found s c.args.worker c.args.client m in
    let none = rw clients at c.in-None.ensures.is in
    sym (ap (λ (n : Next). n.reply) (closes_last s c.args.worker c.args.client m none))

pub returns-in-None-clause-state : goal.returns-in-None-clause-state
returns-in-None-clause-state c =
    let p : Parts = record { tree = c.self.inside.tree; clients = c.self.inside.clients; cached = c.self.inside.caches; rings = c.self.inside.rings.items; flushes = c.self.inside.flights; reserved = c.self.inside.reserved } in
    let s = c.args.self.now in
    let m = marked_from s c.args.worker c.args.client c.in-Marked-default.field-0-0 (sym c.close.ensures.reply ∙ c.in-Marked-default.is-0) in
    let state : c.close.new.self ≡ with_marked s c.args.client = c.close.ensures.state ∙ m.state in
    let clients : c.self.inside.clients.clients ≡ (with_marked s c.args.client).clients = ap (λ (x : State). x.clients) (c.self.view_is ∙ state) in
    let found : client_with c.args.client c.self.inside.clients.clients ≡ Some (with_mark m.client) = ap (client_with c.args.client) clients ∙ marked_found s c.args.worker c.args.client m in
    let none = rw clients at c.in-None.ensures.is in
    let made : List Client → ℕ → State = λ cs n. let x = state_of p in record x { clients = cs; serial = n } in
    let after : State → State = λ x. with_clients x (without_client c.args.client x.clients) in
    ap (λ cs. made cs c.forget.new.self.serial) c.forget.ensures.clients
    ∙ (ap (λ n. made (without_client c.args.client c.self.inside.clients.clients) n) c.forget.ensures.serial
    ∙ (ap after (c.self.view_is ∙ state) ∙ sym (ap (λ (n : Next). n.state) (closes_last s c.args.worker c.args.client m none))))
