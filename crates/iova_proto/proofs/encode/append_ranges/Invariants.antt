use Rattle.std.proofs.Common.{◌≡◌, ◌≤◌, ◌++◌, take, vec_capacity}
use Rattle.std.specs.Prelude.{flat_map}
use Rattle.iova_proto.specs.Answers.{range_line}
use Rattle.iova_proto.proofs.encode.append_ranges.Given as goal

-- the lines of the ranges so far
abbrev pub invariant-loop-range : goal.invariant-loop-range
invariant-loop-range l = record {
  items : l.out.items ≡ l.initial.out.items ++ flat_map range_line (take l.range-index l.ranges);
  room : vec_capacity l.initial.out ≤ vec_capacity l.out;
}
