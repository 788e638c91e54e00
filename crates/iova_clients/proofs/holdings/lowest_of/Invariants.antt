use Rattle.std.proofs.Common.{◌<◌, ◌≤◌, ℕ}
use Rattle.iova_clients.specs.Chains.{range_at}
use Rattle.iova_clients.proofs.holdings.lowest_of.Given as goal

abbrev pub invariant-loop-place : goal.invariant-loop-place
invariant-loop-place l = (l.low < l.count) × ((k : ℕ) → k < l.place → (range_at l.cells l.low).lo ≤ (range_at l.cells k).lo)
