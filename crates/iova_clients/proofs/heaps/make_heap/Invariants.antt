use Rattle.std.proofs.Common.{◌≡◌, ◌≤◌, length}
use Rattle.std.specs.List.Sorted.{IsPermutation}
use Rattle.iova_clients.specs.Heaps.{IsHeapFrom}
use Rattle.iova_clients.proofs.heaps.make_heap.Given as goal

abbrev pub invariant-loop-from : goal.invariant-loop-from
invariant-loop-from l =
    (l.from ≤ length l.cells) × (length l.cells ≡ length l.fn.cells) × IsPermutation l.fn.cells l.cells × IsHeapFrom l.from (length l.cells) l.cells

abbrev pub decreases-loop-from : goal.decreases-loop-from
decreases-loop-from l = l.from
