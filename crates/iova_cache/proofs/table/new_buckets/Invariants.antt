use Rattle.std.proofs.Common.{◌≡◌, ◌≤◌, [], replicate}
use Rattle.std.specs.Prelude.{vec_capacity}
use Rattle.iova_cache.proofs.table.new_buckets.Given as goal

-- as many buckets, and room for the others
abbrev pub invariant-loop : goal.invariant-loop
invariant-loop l = (l.buckets.items ≡ replicate l.counter []) × (l.count ≤ vec_capacity l.buckets)
