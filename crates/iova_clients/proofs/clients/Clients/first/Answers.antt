use Rattle.std.proofs.Common.{option_and_then, option_copied, sym, ap, ◌∙◌}
use Rattle.iova_clients.specs.Registry.{lowest}
use Rattle.iova_clients.proofs.Changed.{client_some, client_none}
use Rattle.iova_clients.proofs.clients.Clients.first.Goals as goal

pub returns-in_err-get-clause-is : goal.returns-in_err-get-clause-is
returns-in_err-get-clause-is c =
    let none = client_none c.args.id c.self.inside.ledgers (sym c.get.ensures ∙ ap (λ o. option_copied o) c.in_err-get.was) in
    rw (c.from_residual.ensures, ← c.self.view_is) (sym (ap (λ o. option_and_then lowest o) none))

pub returns-clause-is : goal.returns-clause-is
returns-clause-is c =
    let some = client_some c.args.id c.self.inside.ledgers c.in_ok-get.field-0.now (sym c.get.ensures ∙ ap (λ o. option_copied o) c.in_ok-get.was) in
    rw (← c.self.view_is) (c.first.ensures ∙ sym (ap (λ o. option_and_then lowest o) some))
