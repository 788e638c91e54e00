-- Ranges as a heap, from which the lowest is taken.
use Rattle.std.specs.Prelude.{ℕ, ◌≡◌, ◌+◌, ◌<◌, ◌≤◌, ◌⊎◌, List, length}
use Rattle.iova_range.specs.Frames.{Frames}
use Rattle.iova_clients.specs.Chains.{range_at}

-- two places are right below each place
abbrev pub IsBelow : ℕ → ℕ → Type 0
IsBelow over place = (place ≡ over + over + 1) ⊎ (place ≡ over + over + 2)

-- of the first so many ranges none begins above one right below it, where its place is this one or
-- a later one
abbrev pub IsHeapFrom : ℕ → ℕ → List Frames → Type 0
IsHeapFrom from count cells =
    (over place : ℕ) → from ≤ over → IsBelow over place → place < count
    → (range_at cells over).lo ≤ (range_at cells place).lo

abbrev pub IsHeap : List Frames → Type 0
IsHeap cells = IsHeapFrom 0 (length cells) cells
