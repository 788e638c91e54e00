use Rattle.std.proofs.Common.{ℕ, ◌<◌, ◌≤◌, length, slice_index_or, arith, rules}
use Rattle.std.specs.Prelude.{nat_lt}
use Rattle.std.proofs.lemmas.List.Sorted.{IsPartitionPoint-from_clause, IsPartitionedBy-ltb}
use Rattle.std.proofs.lemmas.Bool.Decides.{nat_tests}
use Rattle.iova_tree.specs.Spans.{Span}
use Rattle.iova_tree.proofs.Blocks.{rising_sorted, with_span-at, stands_after}
use Rattle.iova_tree.proofs.block.place_of.Goals as goal

below : (c : goal.After-partition_point) (k : ℕ) (d : Span) → k < c.partition_point.result → (slice_index_or c.args.spans.now k d).lo < c.args.lo
below c k d lt =
    let parted = IsPartitionedBy-ltb (λ (x : Span). x.lo) c.args.spans.now c.args.lo (rising_sorted 0 _ c.requires) in
    let point = IsPartitionPoint-from_clause (λ (x : Span). nat_lt x.lo c.args.lo) c.args.spans.now c.partition_point.result c.partition_point.ensures.partitioned parted (λ a r q called. search rules) in
    let test = point.0 k d (omega arith) lt in
    grind (arith, nat_tests)

above : (c : goal.After-partition_point) (k : ℕ) (d : Span) → c.partition_point.result ≤ k → k < length c.args.spans.now → c.args.lo ≤ (slice_index_or c.args.spans.now k d).lo
above c k d le lt =
    let parted = IsPartitionedBy-ltb (λ (x : Span). x.lo) c.args.spans.now c.args.lo (rising_sorted 0 _ c.requires) in
    let point = IsPartitionPoint-from_clause (λ (x : Span). nat_lt x.lo c.args.lo) c.args.spans.now c.partition_point.result c.partition_point.ensures.partitioned parted (λ a r q called. search rules) in
    let test = point.1 k d le lt in
    grind (arith, nat_tests)

pub returns-clause-comes_in : goal.returns-clause-comes_in
returns-clause-comes_in c x is free = with_span-at 0 x c.args.spans.now c.partition_point.result free c.partition_point.ensures.bound (λ k d lt. rw is (below c k d lt)) (λ k d le lt. rw is (above c k d le lt))

pub returns-clause-stands : goal.returns-clause-stands
returns-clause-stands c held = stands_after 0 c.args.lo c.args.spans.now c.partition_point.result c.requires held c.partition_point.ensures.bound (below c) (above c)
