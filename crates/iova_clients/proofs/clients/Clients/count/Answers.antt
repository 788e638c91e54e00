use Rattle.std.proofs.Common.{Some, length, option_map, option_copied, sym, ap, ◌∙◌}
use Rattle.iova_model.specs.Clients.{Client}
use Rattle.iova_clients.proofs.Changed.{client_some, client_none}
use Rattle.iova_clients.proofs.clients.Clients.count.Goals as goal

pub returns-in_err-get-clause-is : goal.returns-in_err-get-clause-is
returns-in_err-get-clause-is c =
    let none = client_none c.args.id c.self.inside.ledgers (sym c.get.ensures ∙ ap (λ o. option_copied o) c.in_err-get.was) in
    rw (c.from_residual.ensures, ← c.self.view_is) (sym (ap (option_map (λ (x : Client). length x.holdings)) none))

pub returns-clause-is : goal.returns-clause-is
returns-clause-is c =
    let some = client_some c.args.id c.self.inside.ledgers c.in_ok-get.field-0.now (sym c.get.ensures ∙ ap (λ o. option_copied o) c.in_ok-get.was) in
    rw (← c.self.view_is) (ap Some c.count.ensures ∙ sym (ap (option_map (λ (x : Client). length x.holdings)) some))
