use Rattle.std.proofs.Common.{◌≡◌, find, take, None}
use Rattle.iova_model.specs.Clients.{begins_at}
use Rattle.iova_cache.specs.Held.{all_ranges}
use Rattle.iova_cache.proofs.table.seek.Given as goal

abbrev pub invariant-loop-place : goal.invariant-loop-place
invariant-loop-place l = find (begins_at l.lo) (all_ranges (take l.place l.buckets)) ≡ None
