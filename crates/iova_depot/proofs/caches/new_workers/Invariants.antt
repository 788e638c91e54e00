use Rattle.std.proofs.Common.{◌≡◌, replicate}
use Rattle.iova_mag.specs.Workers.{new_worker}
use Rattle.iova_depot.proofs.caches.new_workers.Given as goal

abbrev pub invariant-loop : goal.invariant-loop
invariant-loop l = l.workers.items ≡ replicate l.counter (new_worker l.profile)
