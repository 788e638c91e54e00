use Rattle.std.proofs.Common.{refl, ap, ◌∙◌, arith}
use Rattle.std.specs.Result.{result_ok}
use Rattle.std.specs.Map.{set_value}
use Rattle.std.proofs.lemmas.Result.{err_from_is_err_and, on_ok_weaker, on_err_weaker}
use Rattle.iova_range.specs.declared.refusal.Refusal.TheVariants.{NoClient}
use Rattle.iova_clients.specs.Registry.{is_serial}
use Rattle.iova_clients.specs.Accounts.{client_at}
use Rattle.iova_clients.proofs.Changed.{client_some, client_none, set_value_same, clients-set, spare_at, spare_same, lookup-set_same, lookup-set_other, found_mut, refused_at, none_mut}
use Rattle.iova_clients.proofs.clients.Clients.room.Goals as goal

pub returns-in_err-ledger-clause-refused : goal.returns-in_err-ledger-clause-refused
returns-in_err-ledger-clause-refused c =
    let p = err_from_is_err_and c.from_residual.result c.from_residual.ensures.1 in
    let at = refused_at c.get_mut.result c.ok_or.result c.in_err-ledger.field-0.0 NoClient c.ok_or.ensures.value c.in_err-ledger.was in
    let none = client_none c.args.id c.self.inside.ledgers (none_mut c.get_mut.result _ c.get_mut.ensures.value at.1) in
    rw (p.1, p.2, at.0, ← c.self.view_is, none) refl

pub returns-in_err-ledger-clause-accepted : goal.returns-in_err-ledger-clause-accepted
returns-in_err-ledger-clause-accepted c =
    let at = refused_at c.get_mut.result c.ok_or.result c.in_err-ledger.field-0.0 NoClient c.ok_or.ensures.value c.in_err-ledger.was in
    let none = client_none c.args.id c.self.inside.ledgers (none_mut c.get_mut.result _ c.get_mut.ensures.value at.1) in
    rw (← c.self.view_is, none) tt

pub invariant_of-self-2 : goal.invariant_of-self-2
invariant_of-self-2 c =
    let es = c.self.inside.ledgers in
    let a = c.in_ok-ledger.ledger.now in
    let found = found_mut c.get_mut.result c.in_ok-ledger.ledger _ c.get_mut.ensures.value (c.ok_or.ensures.ok_part ∙ ap (λ r. result_ok r) c.in_ok-ledger.was) in
    let same = clients-set c.args.id a c.room.new.self es found (ap (λ x. client_at (c.args.id, x)) c.room.ensures.kept) in
    let i = c.self.invariant in
    record {
      registry = record { clients = rw same i.registry.clients; low = rw same i.registry.low };
      sums = rw same i.sums;
    }

pub returns-clause-refused : goal.returns-clause-refused
returns-clause-refused c =
    let found = found_mut c.get_mut.result c.in_ok-ledger.ledger _ c.get_mut.ensures.value (c.ok_or.ensures.ok_part ∙ ap (λ r. result_ok r) c.in_ok-ledger.was) in
    rw (← c.self.view_is, client_some c.args.id c.self.inside.ledgers c.in_ok-ledger.ledger.now found) c.room.ensures.refused

pub returns-clause-accepted : goal.returns-clause-accepted
returns-clause-accepted c =
    let found = found_mut c.get_mut.result c.in_ok-ledger.ledger _ c.get_mut.ensures.value (c.ok_or.ensures.ok_part ∙ ap (λ r. result_ok r) c.in_ok-ledger.was) in
    rw (← c.self.view_is, client_some c.args.id c.self.inside.ledgers c.in_ok-ledger.ledger.now found) c.room.ensures.accepted

pub returns-clause-starved : goal.returns-clause-starved
returns-clause-starved c =
    let found = found_mut c.get_mut.result c.in_ok-ledger.ledger _ c.get_mut.ensures.value (c.ok_or.ensures.ok_part ∙ ap (λ r. result_ok r) c.in_ok-ledger.was) in
    rw (← c.self.view_is) (λ starved. spare_at c.args.id c.self.inside.ledgers c.in_ok-ledger.ledger.now found ∙ c.room.ensures.starved starved)

pub returns-clause-spare : goal.returns-clause-spare
returns-clause-spare c =
    let es = c.self.inside.ledgers in
    let id = c.args.id in
    let w = c.room.new.self in
    let found = found_mut c.get_mut.result c.in_ok-ledger.ledger _ c.get_mut.ensures.value (c.ok_or.ensures.ok_part ∙ ap (λ r. result_ok r) c.in_ok-ledger.was) in
    let new = spare_at id (set_value (is_serial id) es w) w (lookup-set_same id c.in_ok-ledger.ledger.now w es found) in
    on_ok_weaker c.room.result (λ room. omega arith) c.room.ensures.spare

pub returns-clause-grows : goal.returns-clause-grows
returns-clause-grows c =
    let es = c.self.inside.ledgers in
    let id = c.args.id in
    let w = c.room.new.self in
    let found = found_mut c.get_mut.result c.in_ok-ledger.ledger _ c.get_mut.ensures.value (c.ok_or.ensures.ok_part ∙ ap (λ r. result_ok r) c.in_ok-ledger.was) in
    let old = spare_at id es c.in_ok-ledger.ledger.now found in
    let new = spare_at id (set_value (is_serial id) es w) w (lookup-set_same id c.in_ok-ledger.ledger.now w es found) in
    rw (← c.self.view_is) (omega (arith, c.room.ensures.grows))

pub returns-clause-clients : goal.returns-clause-clients
returns-clause-clients c =
    let es = c.self.inside.ledgers in
    let a = c.in_ok-ledger.ledger.now in
    let found = found_mut c.get_mut.result c.in_ok-ledger.ledger _ c.get_mut.ensures.value (c.ok_or.ensures.ok_part ∙ ap (λ r. result_ok r) c.in_ok-ledger.was) in
    rw (← c.self.view_is) (clients-set c.args.id a c.room.new.self es found (ap (λ x. client_at (c.args.id, x)) c.room.ensures.kept))

pub returns-clause-others : goal.returns-clause-others
returns-clause-others c =
    let es = c.self.inside.ledgers in
    rw (← c.self.view_is) (λ other ne. spare_same other es (set_value (is_serial c.args.id) es c.room.new.self) (lookup-set_other c.args.id other c.room.new.self es ne))

pub returns-clause-unchanged : goal.returns-clause-unchanged
returns-clause-unchanged c =
    let es = c.self.inside.ledgers in
    let a = c.in_ok-ledger.ledger.now in
    let found = found_mut c.get_mut.result c.in_ok-ledger.ledger _ c.get_mut.ensures.value (c.ok_or.ensures.ok_part ∙ ap (λ r. result_ok r) c.in_ok-ledger.was) in
    on_err_weaker c.room.result
    (λ same. let kept = ap (λ x. set_value (is_serial c.args.id) es x) same ∙ set_value_same c.args.id a es found in rw kept c.self.view_is)
    c.room.ensures.unchanged
