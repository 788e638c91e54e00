-- Ranges in no order, put in order.
use Rattle.std.specs.Prelude.{ℕ, suc, zero, ◌≡◌, ◌<◌, List, [], ◌++◌}
use Rattle.std.specs.List.Sorted.{IsPermutation}
use Rattle.iova_range.specs.Frames.{Frames}
use Rattle.iova_model.specs.Clients.{insert_rising}
use Rattle.iova_clients.specs.Chains.{range_at}

-- so many ranges, rising by first frame
abbrev pub ordered_by : (ℕ → Frames) → ℕ → List Frames
ordered_by f zero = []
ordered_by f (suc count) = insert_rising (f count) (ordered_by f count)

-- the first so many of these cells, rising by first frame
abbrev pub ordered : List Frames → ℕ → List Frames
ordered cells count = ordered_by (range_at cells) count

-- of so many ranges no two begin at one frame
abbrev pub BeginApart : (ℕ → Frames) → ℕ → Type 0
BeginApart f count = (i j : ℕ) → i < count → j < count → (f i).lo ≡ (f j).lo → i ≡ j

-- these come behind a list, in any order
abbrev pub AppendsInAnyOrder : List Frames → List Frames → List Frames → Type 0
AppendsInAnyOrder ranges before after =
    (more : List Frames) × (after ≡ before ++ more) × IsPermutation ranges more
