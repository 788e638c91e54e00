use Rattle.std.proofs.Common.{arith, ◌∙◌}
use Rattle.std.proofs.lemmas.List.Sorted.{IsPermutation-trans}
use Rattle.iova_clients.proofs.heaps.make_heap.Goals as goal

pub loop-from-preserved : goal.loop-from-preserved
loop-from-preserved c =
    let i = c.loop-from.invariant in
    let s = c.sift_down.ensures in
    (rw s.len (omega (arith, i.0)), s.len ∙ i.1, IsPermutation-trans _ c.loop-from.cells c.sift_down.new.cells i.2 s.permutation, s.heap)
