use Rattle.std.proofs.Common.{◌≡◌, ◌≤◌, replicate}
use Rattle.std.specs.Prelude.{vec_capacity}
use Rattle.iova_cache.proofs.table.no_strays.Given as goal

-- as many buckets, and room for the others
abbrev pub invariant-loop : goal.invariant-loop
invariant-loop l = (l.strays.items ≡ replicate l.counter 0) × (l.count ≤ vec_capacity l.strays)
