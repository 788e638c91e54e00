use Rattle.std.proofs.Common.{◌∙◌}
use Rattle.iova_clients.proofs.Holding.{newer-at}
use Rattle.iova_clients.proofs.clients.Clients.newer.Goals as goal

pub returns : goal.returns
returns c = rw (← c.self.view_is) (c.newer.ensures ∙ newer-at c.args.worker c.args.than c.self.inside.ledgers)
