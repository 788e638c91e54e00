use Rattle.std.proofs.Common.{◌≡◌, ◌≤◌, length, take, filter}
use Rattle.iova_range.specs.Frames.{Frames}
use Rattle.iova_regions.specs.Windows.{lies_below}
use Rattle.iova_regions.proofs.windows.below.Given as goal

abbrev pub invariant-loop-window : goal.invariant-loop-window
invariant-loop-window l = record {
  value : l.found ≡ filter (λ (w : Frames). lies_below w l.range) (take l.window-index l.windows);
  room : length l.found ≤ l.window-index;
}
