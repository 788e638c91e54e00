use Rattle.std.proofs.Common.{sym, ◌∙◌}
use Rattle.slab.specs.Slab.{get}
use Rattle.iova_clients.proofs.Listed.{length-listed_accounts}
use Rattle.iova_clients.proofs.ledgers.Ledgers.len.Goals as goal

pub returns : goal.returns
returns c =
    let i = c.self.inside in
    rw (← c.self.view_is) (c.len.ensures.len ∙ sym (length-listed_accounts (get i.slab) i.keys.entries c.self.invariant.keyed))
