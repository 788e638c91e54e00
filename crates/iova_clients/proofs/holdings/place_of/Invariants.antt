use Rattle.std.proofs.Common.{◌≢◌, ◌<◌, ℕ}
use Rattle.iova_clients.specs.Chains.{range_at}
use Rattle.iova_clients.proofs.holdings.place_of.Given as goal

abbrev pub invariant-loop-place : goal.invariant-loop-place
invariant-loop-place l = (k : ℕ) → k < l.place → (range_at l.cells k).lo ≢ l.lo
