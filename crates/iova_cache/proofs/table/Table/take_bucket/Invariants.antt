use Rattle.std.proofs.Common.{◌≡◌, ◌+◌, ℕ, sum_by, take}
use Rattle.iova_range.specs.Frames.{Frames}
use Rattle.iova_cache.proofs.table.Table.take_bucket.Given as goal

-- what the ranges so far weigh has come in
abbrev pub invariant-loop-place : goal.invariant-loop-place
invariant-loop-place l =
    ((weigh : Frames → ℕ) → sum_by weigh l.self.ranges ≡ sum_by weigh l.initial.self.ranges + sum_by weigh (take l.place l.bucket))
    × (l.self.capacity ≡ l.initial.self.capacity)
