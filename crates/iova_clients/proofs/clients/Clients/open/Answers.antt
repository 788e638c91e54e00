use Rattle.std.proofs.Common.{◌≡◌, ◌+◌, ◌-◌, ◌^◌, ◌<◌, [], ◌∷◌, ◌++◌, length, refl, ap, ◌∙◌, arith}
use Rattle.std.proofs.lemmas.List.{length-map}
use Rattle.iova_model.specs.Clients.{new_client}
use Rattle.iova_clients.specs.Accounts.{Account, client_at, clients_at}
use Rattle.iova_clients.proofs.Changed.{clients_at_push, spare_push}
use Rattle.iova_clients.proofs.Kept.{serials_below, accounts_below, IsRegistry-opened}
use Rattle.iova_clients.proofs.BooksLemmas.{sums_push}
use Rattle.iova_clients.proofs.clients.Clients.open.Goals as goal

pub push-requires : goal.push-requires
push-requires c =
    let i = c.self.inside in
    accounts_below i.ledgers i.serial (serials_below 0 (clients_at i.ledgers) i.serial c.self.invariant.registry.clients.serials)

pub invariant_of-self-2 : goal.invariant_of-self-2
invariant_of-self-2 c =
    let i = c.self.inside in
    let inv = c.self.invariant in
    let id = i.serial + 1 in
    let pushed : c.push.new.self ≡ i.ledgers ++ (id, c.new.result) ∷ [] = c.in_ok-push.ensures.ok in
    let clients : clients_at c.push.new.self ≡ clients_at i.ledgers ++ new_client id c.args.worker c.args.sac ∷ [] =
    ap clients_at pushed ∙ (clients_at_push i.ledgers (id, c.new.result) ∙ ap (λ (a : Account). clients_at i.ledgers ++ client_at (id, a) ∷ []) c.new.ensures) in
    let room : length (clients_at i.ledgers) < 1024 = (let same = length-map i.ledgers client_at in omega (arith, c.len.ensures, c.if-len-ge-MAX_CLIENTS.false)) in
    let fresh : i.serial < 2 ^ 63 - 1 = omega (arith, c.if-self-eq-MAX_SERIAL.false, inv.registry.clients.worn) in
    record {
      registry = IsRegistry-opened c.args.worker c.args.sac _ _ inv.registry c.requires room fresh clients refl;
      sums = rw clients (sums_push (new_client id c.args.worker c.args.sac) (clients_at i.ledgers) i.sums refl inv.sums);
    }

pub returns-clause-spares : goal.returns-clause-spares
returns-clause-spares c =
    let i = c.self.inside in
    let id = i.serial + 1 in
    let pushed : c.push.new.self ≡ i.ledgers ++ (id, c.new.result) ∷ [] = c.in_ok-push.ensures.ok in
    rw (pushed, ← c.self.view_is) (λ q. spare_push q id c.new.result i.ledgers (ap (λ (a : Account). a.spare) c.new.ensures))
