use Rattle.std.proofs.Common.{◌≡◌, replicate}
use Rattle.iova_mag.specs.Workers.{new_pair}
use Rattle.iova_mag.proofs.worker.new_pairs.Given as goal

abbrev pub invariant-loop : goal.invariant-loop
invariant-loop l = l.pairs.items ≡ replicate l.counter (new_pair l.profile)
