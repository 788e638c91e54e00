-- How a range is found by its first frame: through its chain.
use Rattle.std.specs.Prelude.{ℕ, ◌≡◌, ◌≢◌, ◌+◌, ◌-◌, ◌*◌, ◌/◌, ◌%◌, ◌^◌, ◌<◌, ◌≤◌, ◌⊎◌, List, length, bit_and, slice_index, slice_index_or}
use Rattle.iova_range.specs.Frames.{Frames}
use Rattle.iova_clients.specs.declared.chains.TheConstants.{SPREAD}

-- the range at this place
abbrev pub range_at : List Frames → ℕ → Frames
range_at cells place = slice_index_or cells place (record { lo = 0; len = 0 })

-- the chain of a range that begins there, the last chain being this one
abbrev pub chain_of : ℕ → ℕ → ℕ
chain_of last lo = bit_and (lo * SPREAD % 2 ^ 64 / 2 ^ 32) last

-- the chain of the range at this place, where there are as many chains as cells
abbrev pub chain_at : List Frames → ℕ → ℕ
chain_at cells place = chain_of (length cells - 1) (range_at cells place).lo

-- One more than the last place below `bound` that is in the chain, and 0 where none is
pub record IsLast (chains : ℕ → ℕ) (chain bound link : ℕ) : Type 0 where
  pub within : link ≤ bound
  pub here : 0 < link → chains (link - 1) ≡ chain
  pub none : (k : ℕ) → link ≤ k → k < bound → chains k ≢ chain

-- The links begin with one for each place, and behind these one for each chain. That of a place
-- says which place of its chain comes next below it, that of a chain which is its last.
abbrev pub IsEntry : (ℕ → ℕ) → ℕ → ℕ → ℕ → ℕ → ℕ → Type 0
IsEntry chains size count entry chain bound =
    ((entry < count) × (chain ≡ chains entry) × (bound ≡ entry))
    ⊎ ((entry ≡ size + chain) × (chain < size) × (bound ≡ count))

pub record AreChains (chains : ℕ → ℕ) (size count : ℕ) (links : List ℕ) : Type 0 where
  pub long : length links ≡ size + size
  pub each : (entry chain bound : ℕ) → IsEntry chains size count entry chain bound
      → IsLast chains chain bound (slice_index links entry)

-- the links of so many ranges, the first of these cells
abbrev pub AreLinks : List Frames → ℕ → List ℕ → Type 0
AreLinks cells count links = AreChains (chain_at cells) (length cells) count links

-- the entry of this chain that leads to the place, or would where the place isn't in the chain
abbrev pub LeadsTo : List Frames → ℕ → List ℕ → ℕ → ℕ → ℕ → Type 0
LeadsTo cells count links chain place entry =
    (bound : ℕ) × IsEntry (chain_at cells) (length cells) count entry chain bound
    × (place < bound) × (slice_index links entry ≤ place + 1)

-- the entry leads to the range that begins there, and where none does to nothing
pub record IsEntryOf (cells : List Frames) (count : ℕ) (links : List ℕ) (lo entry : ℕ)
    : Type 0 where
  pub bound : ℕ
  pub own : IsEntry (chain_at cells) (length cells) count entry (chain_of (length cells - 1) lo)
      bound
  pub found : 0 < slice_index links entry → (range_at cells (slice_index links entry - 1)).lo ≡ lo
  pub none : slice_index links entry ≡ 0 → (k : ℕ) → k < count → (range_at cells k).lo ≢ lo

-- the entry leads to a range
abbrev pub IsEntryAt : List Frames → ℕ → List ℕ → ℕ → Type 0
IsEntryAt cells count links entry =
    (chain bound : ℕ) × IsEntry (chain_at cells) (length cells) count entry chain bound
    × (0 < slice_index links entry)
