use Rattle.std.proofs.Common.{◌≡◌, ◌-◌, refl, sym, ap, arith}
use Rattle.std.specs.Map.{set_value}
use Rattle.iova_model.specs.Clients.{with_holding}
use Rattle.iova_clients.specs.Registry.{is_serial, CanBeGiven, IsBelowTop}
use Rattle.iova_clients.specs.Accounts.{Account, client_at, clients_at}
use Rattle.iova_clients.specs.Sums.{with_share, with_one}
use Rattle.iova_clients.proofs.Changed.{client_some, changed-at, spare_at, spare_same, lookup-set_same, lookup-set_other, found_mut, client_known, mut_there}
use Rattle.iova_clients.proofs.Kept.{client_is, client_is_low, IsRegistry-changed, IsClient-given, all_inserted}
use Rattle.iova_clients.proofs.BooksLemmas.{sums_given, share_has_room}
use Rattle.iova_clients.proofs.clients.Clients.add.Goals as goal

pub unwrap-ledger-requires : goal.unwrap-ledger-requires
unwrap-ledger-requires c =
    mut_there (CanBeGiven c.args.range) c.args.id c.self.inside.ledgers c.get_mut.result c.get_mut.ensures.value (rw (← c.self.view_is) at c.requires.client)

pub add-requires-clause-spare : goal.add-requires-clause-spare
add-requires-clause-spare c =
    let es = c.self.inside.ledgers in
    let a = c.unwrap-ledger.result.now in
    let found = found_mut c.get_mut.result c.unwrap-ledger.result _ c.get_mut.ensures.value c.unwrap-ledger.ensures in
    let spare = rw (← c.self.view_is) at c.requires.spare in
    let e = spare_at c.args.id es a found in
    omega arith

pub add-requires-clause-new : goal.add-requires-clause-new
add-requires-clause-new c =
    let es = c.self.inside.ledgers in
    let found = found_mut c.get_mut.result c.unwrap-ledger.result _ c.get_mut.ensures.value c.unwrap-ledger.ensures in
    (client_known (CanBeGiven c.args.range) c.args.id es c.unwrap-ledger.result.now found (rw (← c.self.view_is) at c.requires.client)).new

pub add-requires-2-clause-worker : goal.add-requires-2-clause-worker
add-requires-2-clause-worker c =
    let es = c.self.inside.ledgers in
    let a = c.unwrap-ledger.result.now in
    let found = found_mut c.get_mut.result c.unwrap-ledger.result _ c.get_mut.ensures.value c.unwrap-ledger.ensures in
    rw (c.worker-worker.ensures, c.add.ensures) (client_is c.args.id es a _ refl c.self.invariant.registry found).worker

pub add-requires-2-clause-room : goal.add-requires-2-clause-room
add-requires-2-clause-room c =
    let es = c.self.inside.ledgers in
    let a = c.unwrap-ledger.result.now in
    let found = found_mut c.get_mut.result c.unwrap-ledger.result _ c.get_mut.ensures.value c.unwrap-ledger.ensures in
    let worker = (client_is c.args.id es a _ refl c.self.invariant.registry found).worker in
    rw (c.worker-worker.ensures, c.add.ensures) (share_has_room _ c.self.inside.sums a.worker c.self.invariant.registry c.self.invariant.sums worker)

pub invariant_of-self : goal.invariant_of-self
invariant_of-self c =
    let es = c.self.inside.ledgers in
    let id = c.args.id in
    let r = c.args.range in
    let a = c.unwrap-ledger.result.now in
    let w = c.add.new.self in
    let found = found_mut c.get_mut.result c.unwrap-ledger.result _ c.get_mut.ensures.value c.unwrap-ledger.ensures in
    let client = client_some id es a found in
    let can = client_known (CanBeGiven r) id es a found (rw (← c.self.view_is) at c.requires.client) in
    let is = client_is id es a _ refl c.self.invariant.registry found in
    let low = client_is_low id es a _ refl c.self.invariant.registry found in
    let clients = changed-at id (with_holding r) a w es found (ap (λ x. client_at (id, x)) (sym c.add.ensures)) in
    let shares : c.add-2.new.self.shares ≡ with_share a.worker (with_one r) c.self.inside.sums.shares =
    rw (c.worker-worker.ensures, c.add.ensures) at c.add-2.ensures in
    record {
      registry = IsRegistry-changed id (with_holding r) (client_at (id, a)) _ _ c.self.invariant.registry client refl
          (IsClient-given r (client_at (id, a)) is can.room can.new c.requires.sized) (all_inserted IsBelowTop r a.holdings c.requires.low low) clients refl;
      sums = rw clients (sums_given id r (client_at (id, a)) (clients_at es) c.self.inside.sums c.add-2.new.self client is.worker shares c.self.invariant.sums);
    }

pub returns-clause-clients : goal.returns-clause-clients
returns-clause-clients c =
    let es = c.self.inside.ledgers in
    let id = c.args.id in
    let a = c.unwrap-ledger.result.now in
    let found = found_mut c.get_mut.result c.unwrap-ledger.result _ c.get_mut.ensures.value c.unwrap-ledger.ensures in
    rw (← c.self.view_is) (changed-at id (with_holding c.args.range) a c.add.new.self es found (ap (λ x. client_at (id, x)) (sym c.add.ensures)))

pub returns-clause-spare : goal.returns-clause-spare
returns-clause-spare c =
    let es = c.self.inside.ledgers in
    let id = c.args.id in
    let a = c.unwrap-ledger.result.now in
    let w = c.add.new.self in
    let found = found_mut c.get_mut.result c.unwrap-ledger.result _ c.get_mut.ensures.value c.unwrap-ledger.ensures in
    let spare = rw (← c.self.view_is) at c.requires.spare in
    let old = spare_at id es a found in
    let new = spare_at id (set_value (is_serial id) es w) w (lookup-set_same id a w es found) in
    let less : w.spare ≡ a.spare - 1 = ap (λ (x : Account). x.spare) c.add.ensures in
    rw (← c.self.view_is) (omega arith)

pub returns-clause-others : goal.returns-clause-others
returns-clause-others c =
    let es = c.self.inside.ledgers in
    rw (← c.self.view_is) (λ other ne. spare_same other es (set_value (is_serial c.args.id) es c.add.new.self) (lookup-set_other c.args.id other c.add.new.self es ne))
