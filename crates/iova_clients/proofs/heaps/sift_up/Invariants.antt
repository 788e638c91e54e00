use Rattle.std.proofs.Common.{◌≡◌, ◌≢◌, ◌<◌, ◌≤◌, ℕ, length}
use Rattle.std.specs.List.Sorted.{IsPermutation}
use Rattle.iova_clients.specs.Chains.{range_at}
use Rattle.iova_clients.specs.Heaps.{IsBelow}
use Rattle.iova_clients.proofs.heaps.sift_up.Given as goal

-- only the range at the place may begin below the one above it, but those below it don't
abbrev pub invariant-loop-place : goal.invariant-loop-place
invariant-loop-place l =
    (l.place < length l.cells) × (length l.cells ≡ length l.fn.cells) × IsPermutation l.fn.cells l.cells
    × ((over place : ℕ) → place ≢ l.place → IsBelow over place → place < length l.cells → (range_at l.cells over).lo ≤ (range_at l.cells place).lo)
    × ((over place : ℕ) → IsBelow over l.place → IsBelow l.place place → place < length l.cells → (range_at l.cells over).lo ≤ (range_at l.cells place).lo)

abbrev pub decreases-loop-place : goal.decreases-loop-place
decreases-loop-place l = l.place
