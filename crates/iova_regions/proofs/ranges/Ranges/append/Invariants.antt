use Rattle.std.proofs.Common.{◌≡◌, ◌++◌, take}
use Rattle.iova_regions.proofs.ranges.Ranges.append.Given as goal

abbrev pub invariant-loop-range : goal.invariant-loop-range
invariant-loop-range l = l.self ≡ l.initial.self ++ take l.range-index l.ranges
