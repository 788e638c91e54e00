use Rattle.std.proofs.Common.{arith, rules}
use Rattle.std.specs.Prelude.{nat_lt}
use Rattle.std.proofs.lemmas.List.Sorted.{IsPartitionPoint-from_clause, IsPartitionedBy-ltb}
use Rattle.std.proofs.lemmas.Bool.Decides.{nat_tests}
use Rattle.iova_range.specs.Frames.{Frames}
use Rattle.iova_tree.proofs.position.position_of.Goals as goal

pub returns-clause-below : goal.returns-clause-below
returns-clause-below c k d lt =
    let parted = IsPartitionedBy-ltb (λ (r : Frames). r.lo) c.args.ranges.now c.args.lo c.requires in
    let point = IsPartitionPoint-from_clause (λ (r : Frames). nat_lt r.lo c.args.lo) c.args.ranges.now c.partition_point.result c.partition_point.ensures.partitioned parted (λ a r q called. search rules) in
    let test = point.0 k d (omega arith) lt in
    grind (arith, nat_tests)

pub returns-clause-above : goal.returns-clause-above
returns-clause-above c k d le lt =
    let parted = IsPartitionedBy-ltb (λ (r : Frames). r.lo) c.args.ranges.now c.args.lo c.requires in
    let point = IsPartitionPoint-from_clause (λ (r : Frames). nat_lt r.lo c.args.lo) c.args.ranges.now c.partition_point.result c.partition_point.ensures.partitioned parted (λ a r q called. search rules) in
    let test = point.1 k d le lt in
    grind (arith, nat_tests)
