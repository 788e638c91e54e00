use Rattle.std.proofs.Common.{◌≡◌, vec_capacity}
use Rattle.std.specs.Prelude.{IfSome, IfNone}
use Rattle.iova_tree.specs.Space.{IsPartOf, AreTakenBut}
use Rattle.iova_tree.proofs.Absorbing.{Absorbs}
use Rattle.iova_tree.proofs.window.absorb.Given as goal

abbrev pub invariant-loop-i : goal.invariant-loop-i
invariant-loop-i l = record {
  absorbs : Absorbs l.window l.fn.windows.items l.i l.all l.windows.items;
  left : AreTakenBut l.kept l.fn.ranges l.windows.items l.ranges;
  part : IfSome l.kept (λ kept. IsPartOf kept l.all);
  none : IfNone l.kept (l.windows.items ≡ l.fn.windows.items);
  room : vec_capacity l.windows ≡ vec_capacity l.fn.windows;
}

abbrev pub decreases-loop-i : goal.decreases-loop-i
decreases-loop-i l = l.i
