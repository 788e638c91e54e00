use Rattle.std.proofs.Common.{◌≡◌, ◌≢◌, Ok, Err, option_copied, refl, sym, ap, ◌∙◌, arith}
use Rattle.std.specs.Prelude.{Result, OnOk, IsOkUnless, IsOk, MatchResult}
use Rattle.iova_range.specs.declared.refusal.Refusal.{Refusal}
use Rattle.iova_range.specs.declared.refusal.Refusal.TheVariants.{NoMemory}
use Rattle.iova_clients.proofs.Changed.{client_some, client_none}
use Rattle.iova_clients.proofs.Kept.{client_is}
use Rattle.iova_clients.proofs.clients.Clients.append_holdings.Goals as goal

either : (P : Type 0) (r : Result Unit Refusal) → OnOk r P → IsOkUnless r NoMemory → MatchResult r (λ u. P) (λ e. e ≡ NoMemory)
either P (Ok u) ok err = ok
either P (Err e) ok err = err

not_err : (r : Result Unit Refusal) → IsOk r → r ≢ Err NoMemory
not_err (Ok u) ok is = absurd cc
not_err (Err e) ok is = absurd cc

pub returns-in_default-clause-is : goal.returns-in_default-clause-is
returns-in_default-clause-is c =
    let none = client_none c.args.id c.self.inside.ledgers (sym c.get.ensures ∙ ap (λ o. option_copied o) c.in_default.is) in
    rw (← c.self.view_is, none) refl

pub returns-clause-is : goal.returns-clause-is
returns-clause-is c =
    let some = client_some c.args.id c.self.inside.ledgers c.in-Some.ledger.now (sym c.get.ensures ∙ ap (λ o. option_copied o) c.in-Some.is) in
    rw (← c.self.view_is, some) (either _ c.append_to.result c.append_to.ensures.ok c.append_to.ensures.refused)

pub returns-clause-room : goal.returns-clause-room
returns-clause-room c room =
    let is = client_is c.args.id c.self.inside.ledgers c.in-Some.ledger.now _ refl c.self.invariant.registry (sym c.get.ensures ∙ ap (λ o. option_copied o) c.in-Some.is) in
    not_err c.append_to.result (c.append_to.ensures.room (omega (arith, is.room, room)))
