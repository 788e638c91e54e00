-- What holds of a ring, and when its oldest entry has to wait.
use Rattle.std.specs.Prelude.{ℕ, ◌≡◌, ◌≤◌, List, [], ◌∷◌, length}
use Rattle.std.specs.List.{sum_by, AllByRecursion}
use Rattle.iova_model.specs.declared.entry.Entry.{Entry}
use Rattle.iova_model.specs.Valid.{IsRequestSizedEntry}
use Rattle.iova_range.specs.declared.limits.TheConstants.{MAX_ENTRIES}
use Rattle.iova_flush.specs.declared.ring.TheConstants.{NO_ENTRY}

-- the frames of all entries
abbrev pub frame_count : List Entry → ℕ
frame_count entries = sum_by (λ e. e.len) entries

-- there is no entry, or the count of the oldest isn't below finish
abbrev pub OldestWaits : ℕ → List Entry → Type 0
OldestWaits finish [] = Unit {0}
OldestWaits finish (e ∷ es) = finish ≤ e.count

-- the count of the oldest entry, where there is one
abbrev pub oldest_count : List Entry → ℕ
oldest_count [] = NO_ENTRY
oldest_count (e ∷ es) = e.count

-- A ring with room for so many entries, with the number of its frames and the count of its oldest
-- entry kept beside them.
pub record IsRingKept (slots frames oldest : ℕ) (entries : List Entry) : Type 0 where
  pub capacity : slots ≡ MAX_ENTRIES
  pub room : length entries ≤ MAX_ENTRIES
  pub sized : AllByRecursion IsRequestSizedEntry entries
  pub counted : frames ≡ frame_count entries
  pub first : oldest ≡ oldest_count entries
