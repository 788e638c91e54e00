use Rattle.std.proofs.Common.{◌∙◌}
use Rattle.iova_clients.proofs.Holding.{holder-at, holder_holds, holder_none}
use Rattle.iova_clients.specs.Accounts.{clients_at}
use Rattle.iova_clients.proofs.clients.Clients.holder.Goals as goal

pub returns-clause-is : goal.returns-clause-is
returns-clause-is c = rw (← c.self.view_is) (c.holder.ensures ∙ holder-at c.args.frame c.self.inside.ledgers)

pub returns-clause-holds : goal.returns-clause-holds
returns-clause-holds c =
    let is = c.holder.ensures ∙ holder-at c.args.frame c.self.inside.ledgers in
    rw (← c.self.view_is, is) (holder_holds c.args.frame (clients_at c.self.inside.ledgers))

pub returns-clause-none : goal.returns-clause-none
returns-clause-none c =
    let is = c.holder.ensures ∙ holder-at c.args.frame c.self.inside.ledgers in
    rw (← c.self.view_is, is) (holder_none c.args.frame (clients_at c.self.inside.ledgers))
