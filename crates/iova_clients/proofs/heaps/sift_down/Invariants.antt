use Rattle.std.proofs.Common.{◌≡◌, ◌≢◌, ◌<◌, ◌≤◌, ◌-◌, ℕ, length}
use Rattle.std.specs.List.Sorted.{IsPermutation}
use Rattle.iova_clients.specs.Chains.{range_at}
use Rattle.iova_clients.specs.Heaps.{IsBelow}
use Rattle.iova_clients.proofs.heaps.sift_down.Given as goal

-- only the range at the place may begin above one below it, but the one above it doesn't
abbrev pub invariant-loop-place : goal.invariant-loop-place
invariant-loop-place l =
    (l.from ≤ l.place) × (l.place < length l.cells) × (length l.cells ≡ l.count) × IsPermutation l.fn.cells l.cells
    × ((over place : ℕ) → l.from ≤ over → over ≢ l.place → IsBelow over place → place < length l.cells → (range_at l.cells over).lo ≤ (range_at l.cells place).lo)
    × ((over place : ℕ) → l.from ≤ over → IsBelow over l.place → IsBelow l.place place → place < length l.cells → (range_at l.cells over).lo ≤ (range_at l.cells place).lo)

abbrev pub decreases-loop-place : goal.decreases-loop-place
decreases-loop-place l = l.count - l.place
