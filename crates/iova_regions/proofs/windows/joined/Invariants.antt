use Rattle.std.proofs.Common.{◌≡◌, ◌≤◌, take, filter, fold}
use Rattle.iova_range.specs.Frames.{meets, join}
use Rattle.iova_regions.proofs.windows.joined.Given as goal

abbrev pub invariant-loop-window : goal.invariant-loop-window
invariant-loop-window l = record {
  value : l.joined ≡ fold join l.range (filter (meets l.range) (take l.window-index l.windows));
  low : 1 ≤ l.joined.lo;
}
