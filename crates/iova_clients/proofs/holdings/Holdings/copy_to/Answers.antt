use Rattle.iova_clients.specs.Chains.{range_at}
use Rattle.iova_clients.proofs.Ordering.{length-ordered}
use Rattle.iova_clients.proofs.holdings.Holdings.copy_to.Goals as goal

pub copy_in_order-requires-clause-room : goal.copy_in_order-requires-clause-room
copy_in_order-requires-clause-room c =
    let h = c.self.inside in
    let room = rw (← c.self.view_is, length-ordered (range_at h.cells.items) h.count) at c.requires in room

pub returns-clause-front : goal.returns-clause-front
returns-clause-front c =
    let h = c.self.inside in
    rw (← c.self.view_is, length-ordered (range_at h.cells.items) h.count) (rw c.as_slice.ensures.value at c.copy_in_order.ensures.front)
