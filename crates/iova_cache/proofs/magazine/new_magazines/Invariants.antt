use Rattle.std.proofs.Common.{◌≡◌, ◌≤◌, [], replicate}
use Rattle.std.specs.Prelude.{vec_capacity}
use Rattle.iova_cache.proofs.magazine.new_magazines.Given as goal

-- as many magazines, and room for the others
abbrev pub invariant-loop : goal.invariant-loop
invariant-loop l = (l.magazines.items ≡ replicate l.counter []) × (6 ≤ vec_capacity l.magazines)
