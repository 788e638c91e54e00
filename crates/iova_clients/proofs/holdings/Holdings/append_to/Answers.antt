use Rattle.iova_clients.specs.Chains.{range_at}
use Rattle.iova_clients.proofs.Ordering.{length-ordered}
use Rattle.iova_clients.proofs.holdings.Holdings.append_to.Goals as goal

pub returns-clause-room : goal.returns-clause-room
returns-clause-room c =
    let h = c.self.inside in
    rw (← c.self.view_is, length-ordered (range_at h.cells.items) h.count) c.append.ensures.room
