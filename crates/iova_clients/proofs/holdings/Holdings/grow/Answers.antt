use Rattle.std.proofs.Common.{arith}
use Rattle.iova_clients.specs.Chains.{range_at}
use Rattle.iova_clients.proofs.Ordering.{length-ordered, grown_ordered}
use Rattle.iova_clients.proofs.holdings.Holdings.grow.Goals as goal

pub returns-clause-spare : goal.returns-clause-spare
returns-clause-spare c =
    let h = c.self.inside in
    let full = rw (← c.self.view_is) at c.requires.full in
    let few = rw (← c.self.view_is) at c.requires.few in
    let long = length-ordered (range_at h.cells.items) h.count in
    omega (arith, full, few, long, c.self.invariant.within, h.cells.ok.0, c.in_ok-grow.ensures.count, c.min-more.ensures, c.max.ensures, c.len.ensures)

pub returns-clause-ranges : goal.returns-clause-ranges
returns-clause-ranges c =
    let h = c.self.inside in
    let kept = rw h.cells.ok.0 at c.grow.ensures.kept in
    rw (← c.self.view_is) (grown_ordered h.cells.items c.grow.new.cells.items h.count c.self.invariant.within kept)
