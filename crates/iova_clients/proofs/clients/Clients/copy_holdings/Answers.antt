use Rattle.std.proofs.Common.{Some, option_copied, refl, sym, ap, ◌∙◌, arith}
use Rattle.iova_clients.proofs.Changed.{client_some, client_none}
use Rattle.iova_clients.proofs.Kept.{client_is}
use Rattle.iova_clients.proofs.clients.Clients.copy_holdings.Goals as goal

pub returns-in_err-ledger-clause-some : goal.returns-in_err-ledger-clause-some
returns-in_err-ledger-clause-some c =
    let none = client_none c.args.id c.self.inside.ledgers (sym c.get.ensures ∙ ap (λ o. option_copied o) c.in_err-ledger.was) in
    rw (← c.self.view_is, none) tt

pub copy_to-requires : goal.copy_to-requires
copy_to-requires c =
    let is = client_is c.args.id c.self.inside.ledgers c.in_ok-ledger.ledger.now _ refl c.self.invariant.registry (sym c.get.ensures ∙ ap (λ o. option_copied o) c.in_ok-ledger.was) in
    omega (arith, is.room, c.requires)

pub returns-clause-some : goal.returns-clause-some
returns-clause-some c =
    let some = client_some c.args.id c.self.inside.ledgers c.in_ok-ledger.ledger.now (sym c.get.ensures ∙ ap (λ o. option_copied o) c.in_ok-ledger.was) in
    rw (← c.self.view_is, some) (ap Some c.count.ensures, c.copy_to.ensures.front)

pub returns-clause-none : goal.returns-clause-none
returns-clause-none c =
    let some = client_some c.args.id c.self.inside.ledgers c.in_ok-ledger.ledger.now (sym c.get.ensures ∙ ap (λ o. option_copied o) c.in_ok-ledger.was) in
    rw (← c.self.view_is, some) tt

pub returns-clause-few : goal.returns-clause-few
returns-clause-few c =
    let is = client_is c.args.id c.self.inside.ledgers c.in_ok-ledger.ledger.now _ refl c.self.invariant.registry (sym c.get.ensures ∙ ap (λ o. option_copied o) c.in_ok-ledger.was) in
    omega (arith, is.room, c.count.ensures)
