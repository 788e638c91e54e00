use Rattle.std.proofs.Common.{◌≡◌, ◌*◌, length, take}
use Rattle.iova_cache.specs.Held.{all_ranges}
use Rattle.iova_cache.proofs.table.roomy.Given as goal

abbrev pub invariant-loop-place : goal.invariant-loop-place
invariant-loop-place l = length (all_ranges (take l.place l.buckets)) ≡ 7 * l.place
