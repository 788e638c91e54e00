use Rattle.std.proofs.Common.{◌∙◌, sym}
use Rattle.iova_range.specs.Frames.{covers}
use Rattle.iova_clients.proofs.Ordering.{any_ordered}
use Rattle.iova_clients.proofs.holdings.Holdings.covers.Goals as goal

pub returns : goal.returns
returns c =
    let h = c.self.inside in
    rw (← c.self.view_is) (rw c.as_slice.ensures.value at c.is_any_covering.ensures ∙ sym (any_ordered (covers c.args.frame) h.cells.items h.count c.self.invariant.within))
