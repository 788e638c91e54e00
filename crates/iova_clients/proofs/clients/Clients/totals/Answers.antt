use Rattle.std.proofs.Common.{◌∙◌}
use Rattle.iova_clients.proofs.BooksLemmas.{shares_added, shares_have_room}
use Rattle.iova_clients.proofs.clients.Clients.totals.Goals as goal

pub all-requires : goal.all-requires
all-requires c =
    let i = c.self.invariant in
    shares_have_room _ c.self.inside.sums i.registry i.sums

pub returns : goal.returns
returns c =
    let i = c.self.invariant in
    rw (← c.self.view_is) (c.all.ensures ∙ shares_added _ c.self.inside.sums i.registry i.sums)
