use Rattle.std.proofs.Common.{◌≡◌, ◌≤◌, replicate}
use Rattle.std.specs.Prelude.{vec_capacity}
use Rattle.iova_cache.specs.Waiting.{no_entry}
use Rattle.iova_cache.proofs.ring.new_slots.Given as goal

-- as many slots, and room for the others
abbrev pub invariant-loop : goal.invariant-loop
invariant-loop l = (l.slots.items ≡ replicate l.counter no_entry) × (256 ≤ vec_capacity l.slots)
