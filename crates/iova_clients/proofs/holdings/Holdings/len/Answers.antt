use Rattle.std.proofs.Common.{sym}
use Rattle.iova_clients.specs.Chains.{range_at}
use Rattle.iova_clients.proofs.Ordering.{length-ordered}
use Rattle.iova_clients.proofs.holdings.Holdings.len.Goals as goal

pub returns : goal.returns
returns c = rw (← c.self.view_is) (sym (length-ordered (range_at c.self.inside.cells.items) c.self.inside.count))
