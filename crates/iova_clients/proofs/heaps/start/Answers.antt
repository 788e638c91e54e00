use Rattle.std.proofs.Common.{length-take-le, ◌∙◌}
use Rattle.iova_clients.proofs.Heaping.{reordered}
use Rattle.iova_clients.proofs.heaps.start.Goals as goal

pub returns-clause-apart : goal.returns-clause-apart
returns-clause-apart c =
    let cells = c.args.cells.now in
    (reordered cells c.make_heap.new.cells c.args.count c.requires.within c.requires.apart c.make_heap.ensures.permutation (c.make_heap.ensures.len ∙ length-take-le c.args.count cells c.requires.within)).apart

pub returns-clause-same : goal.returns-clause-same
returns-clause-same c =
    let cells = c.args.cells.now in
    (reordered cells c.make_heap.new.cells c.args.count c.requires.within c.requires.apart c.make_heap.ensures.permutation (c.make_heap.ensures.len ∙ length-take-le c.args.count cells c.requires.within)).same
