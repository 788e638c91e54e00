use Rattle.std.proofs.Common.{◌≡◌, [], take}
use Rattle.iova_cache.specs.Held.{all_ranges}
use Rattle.iova_cache.proofs.table.Table.any.Given as goal

abbrev pub invariant-loop-place : goal.invariant-loop-place
invariant-loop-place l = all_ranges (take l.place l.self-inside.buckets.items) ≡ []
