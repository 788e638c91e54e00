-- The ring of a cache.
use Rattle.std.specs.Prelude.{ℕ, ◌≡◌, ◌+◌, ◌%◌, ◌^◌, ◌<◌, ◌≤◌, zero, suc, List, [], ◌∷◌, length, slice_index_or}
use Rattle.std.specs.List.{AllByRecursion}
use Rattle.iova_range.specs.declared.limits.TheConstants.{MAX_ENTRIES, ORDERS}
use Rattle.iova_model.specs.declared.entry.Entry.{Entry}
use Rattle.iova_cache.specs.declared.ring.TheConstants.{SLOTS}

-- an entry that some magazine takes
pub record IsCachedEntry (e : Entry) : Type 0 where
  pub low : e.lo < 2 ^ 40
  pub order : ℕ
  pub below : order < ORDERS
  pub size : e.len ≡ 2 ^ order

abbrev pub no_entry : Entry
no_entry = record { lo = 0; len = 0; count = 0 }

-- so many entries of some slots, from this one on; behind the last slot comes the first
abbrev pub window : List Entry → ℕ → ℕ → List Entry
window slots head zero = []
window slots head (suc n) =
    slice_index_or slots (head % SLOTS) no_entry ∷ window slots (head + 1) n

pub record IsRing (slots : List Entry) (head count : ℕ) : Type 0 where
  pub room : length slots ≡ SLOTS
  pub begins : head < SLOTS
  pub few : count ≤ MAX_ENTRIES
  pub cached : AllByRecursion IsCachedEntry (window slots head count)
