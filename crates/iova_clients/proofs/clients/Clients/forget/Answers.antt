use Rattle.std.proofs.Common.{refl, ap, ◌∙◌}
use Rattle.std.specs.Map.{remove_entry}
use Rattle.iova_model.specs.Clients.{client_with}
use Rattle.iova_clients.specs.Registry.{is_serial, CanBeForgotten}
use Rattle.iova_clients.specs.Accounts.{clients_at}
use Rattle.iova_clients.proofs.Changed.{forgotten-at, lookup-remove_other, spare_same, spare_none, lookup_none, known_there}
use Rattle.iova_clients.proofs.Kept.{client_with-forgotten, IsRegistry-forgotten}
use Rattle.iova_clients.proofs.BooksLemmas.{sums_forgotten}
use Rattle.iova_clients.proofs.clients.Clients.forget.Goals as goal

pub invariant_of-self : goal.invariant_of-self
invariant_of-self c =
    let i = c.self.inside in
    let inv = c.self.invariant in
    let id = c.args.id in
    let clients = ap clients_at c.remove.ensures.left ∙ forgotten-at id i.ledgers in
    let there = known_there (client_with id (clients_at i.ledgers)) CanBeForgotten (rw (← c.self.view_is) at c.requires) in
    record {
      registry = IsRegistry-forgotten id _ _ inv.registry clients refl;
      sums = rw clients (sums_forgotten id there.0 (clients_at i.ledgers) i.sums there.1 there.2.empty inv.sums);
    }

pub returns-clause-clients : goal.returns-clause-clients
returns-clause-clients c = rw (← c.self.view_is) (ap clients_at c.remove.ensures.left ∙ forgotten-at c.args.id c.self.inside.ledgers)

pub returns-clause-spare : goal.returns-clause-spare
returns-clause-spare c =
    let i = c.self.inside in
    let id = c.args.id in
    let clients = ap clients_at c.remove.ensures.left ∙ forgotten-at id i.ledgers in
    let gone = client_with-forgotten 0 id (clients_at i.ledgers) i.serial c.self.invariant.registry.clients.serials in
    spare_none id c.remove.new.self (lookup_none id c.remove.new.self (ap (client_with id) clients ∙ gone))

pub returns-clause-others : goal.returns-clause-others
returns-clause-others c =
    let i = c.self.inside in
    rw (c.remove.ensures.left, ← c.self.view_is)
    (λ other ne. spare_same other i.ledgers (remove_entry (is_serial c.args.id) i.ledgers) (lookup-remove_other c.args.id other i.ledgers ne))
