use Rattle.std.proofs.Common.{◌≡◌, ◌≤◌, [], replicate}
use Rattle.std.specs.Prelude.{vec_capacity}
use Rattle.iova_core.proofs.domain.new_rings.Given as goal

-- as many rings, and room for the others
abbrev pub invariant-loop : goal.invariant-loop
invariant-loop l = (l.rings.items ≡ replicate l.counter []) × (l.workers ≤ vec_capacity l.rings)
