use Rattle.std.proofs.Common.{◌≡◌}
use Rattle.std.specs.Prelude.{map, take, drop}
use Rattle.iova_c.specs.Lists.{listed_range}
use Rattle.iova_c.proofs.lists.put_ranges.Given as goal

abbrev pub invariant-loop-i : goal.invariant-loop-i
invariant-loop-i l = (take l.i l.list ≡ map listed_range (take l.i l.ranges)) × (drop l.i l.list ≡ drop l.i l.initial.list)
