use Rattle.std.proofs.Common.{◌≡◌, ◌+◌, ℕ, sum_by, take}
use Rattle.iova_range.specs.Frames.{Frames}
use Rattle.iova_cache.specs.Held.{all_ranges}
use Rattle.iova_cache.proofs.table.Table.take_all.Given as goal

-- what the buckets so far weigh has come in
abbrev pub invariant-loop-place : goal.invariant-loop-place
invariant-loop-place l =
    ((weigh : Frames → ℕ) → sum_by weigh l.self.ranges ≡ sum_by weigh l.initial.self.ranges + sum_by weigh (all_ranges (take l.place l.buckets)))
    × (l.self.capacity ≡ l.initial.self.capacity)
