use Rattle.std.proofs.Common.{◌≡◌, ◌++◌, Ok, Err, take}
use Rattle.std.specs.Prelude.{Result, OnOk, is_ok, if◌then◌else◌}
use Rattle.iova_clients.specs.Orders.{ordered, AppendsInAnyOrder}
use Rattle.iova_clients.proofs.Ordering.{ordered_permuted}
use Rattle.iova_clients.proofs.holdings.append.Goals as goal

pub returns-clause-ok : goal.returns-clause-ok
returns-clause-ok c = extended c.extend_from_slice.result c.extend_from_slice.ensures.items
  where
    extended : {E : Type 0} (r : Result Unit E)
        → c.extend_from_slice.new.self.items ≡ if is_ok r then c.args.list.now.items ++ take c.args.count c.args.cells.now else c.args.list.now.items
        → OnOk r (AppendsInAnyOrder (ordered c.args.cells.now c.args.count) c.args.list.now.items c.extend_from_slice.new.self.items)
    extended (Ok u) is = (take c.args.count c.args.cells.now, is, ordered_permuted c.args.cells.now c.args.count c.requires.within)
    extended (Err e) is = tt
