use Rattle.std.proofs.Common.{◌≡◌, replicate, []}
use Rattle.iova_depot.proofs.caches.new_depots.Given as goal

abbrev pub invariant-loop : goal.invariant-loop
invariant-loop l = l.depots.items ≡ replicate l.counter (record { profile = l.profile; lists = [] })
