-- What holds of the fields of `Holdings`.
use Rattle.std.specs.Prelude.{ℕ, ◌≡◌, ◌+◌, ◌≤◌, Bool, true, false, List, length}
use Rattle.iova_range.specs.Frames.{Frames}
use Rattle.iova_range.specs.declared.limits.TheConstants.{MAX_HOLDINGS}
use Rattle.iova_clients.specs.Chains.{range_at, AreLinks}
use Rattle.iova_clients.specs.Heaps.{IsHeapFrom}
use Rattle.iova_clients.specs.Orders.{BeginApart}

-- all ranges are in their chains, or all but the newest
pub record AreLinked (cells : List Frames) (links : List ℕ) (linked count : ℕ) : Type 0 where
  pub some : linked ≤ count
  pub most : count ≤ linked + 1
  pub chains : AreLinks cells linked links

-- the first so many of the cells are ranges, which are found through their chains, and once the
-- client is closing are a heap
pub record IsBlock (cells : List Frames) (links : List ℕ) (chained count : ℕ) (closing : Bool)
    : Type 0 where
  pub within : count ≤ length cells
  pub few : length cells ≤ MAX_HOLDINGS
  pub apart : BeginApart (range_at cells) count
  pub linked : closing ≡ false → AreLinked cells links chained count
  pub heap : closing ≡ true → IsHeapFrom 0 count cells
