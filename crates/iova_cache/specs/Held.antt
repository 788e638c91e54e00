-- What a user of a cache holds.
use Rattle.std.specs.Prelude.{ℕ, ◌≡◌, ◌+◌, ◌*◌, ◌/◌, ◌%◌, ◌^◌, ◌<◌, ◌≤◌, ◌==◌, nat_lt, List, [], ◌∷◌, ◌++◌, length, map, take, get_or, sum_by, if◌then◌else◌}
use Rattle.std.specs.List.{All}
use Rattle.iova_range.specs.declared.limits.TheConstants.{MAX_FRAMES}
use Rattle.iova_range.specs.Frames.{Frames}
use Rattle.iova_cache.specs.declared.table.TheConstants.{SPREAD, SHIFT, FIRST_BITS, LAST_BITS, SHARE, SPARE}

-- the range of a word: its first frame is below 2^40, and its length stands above
abbrev pub word_range : ℕ → Frames
word_range w = record { lo = w % 2 ^ 40; len = w / 2 ^ 40 }

-- the range of a word has a frame at least, and no more than a request may have
abbrev pub IsWord : ℕ → Type 0
IsWord w = (2 ^ 40 ≤ w) × (w / 2 ^ 40 ≤ MAX_FRAMES)

-- the ranges of the first so many words, of as many as there is room for
abbrev pub word_ranges : List ℕ → ℕ → List Frames
word_ranges words count = map word_range (take count words)

pub record AreWords (words : List ℕ) (count room : ℕ) : Type 0 where
  pub slots : length words ≡ room
  pub within : count ≤ room
  pub fit : All IsWord (take count words)

-- a range that a table takes in
pub record CanBeHeld (r : Frames) : Type 0 where
  pub low : r.lo < 2 ^ 40
  pub some : 1 ≤ r.len
  pub bounded : r.len ≤ MAX_FRAMES

-- Some ranges in any order have got one more: whatever ranges weigh, they weigh that one more.
abbrev pub Gains : Frames → List Frames → List Frames → Type 0
Gains r old new = (weigh : Frames → ℕ) → sum_by weigh new ≡ weigh r + sum_by weigh old

-- What a `Table` is seen as: what is held, in the order in which a range is looked for, and how
-- many ranges come in without more memory
pub record Held : Type 0 where
  pub ranges : List Frames
  pub capacity : ℕ

-- the ranges of all buckets
abbrev pub all_ranges : List (List Frames) → List Frames
all_ranges [] = []
all_ranges (b ∷ bs) = b ++ all_ranges bs

-- the bucket of a range that begins there, of 2^bits
abbrev pub home_of : ℕ → ℕ → ℕ
home_of bits lo = lo * SPREAD % 2 ^ 64 / 2 ^ SHIFT % 2 ^ bits

-- A range is looked for from its home on, and behind the last bucket from the first one on. So of
-- the ranges of a bucket come first those whose home is that one or one before it, and those last
-- whose home is one behind it.
abbrev pub onward : (ℕ → ℕ) → ℕ → List Frames → List Frames
onward home place [] = []
onward home place (r ∷ rs) =
    if nat_lt place (home r.lo) then onward home place rs else r ∷ onward home place rs

abbrev pub around : (ℕ → ℕ) → ℕ → List Frames → List Frames
around home place [] = []
around home place (r ∷ rs) =
    if nat_lt place (home r.lo) then r ∷ around home place rs else around home place rs

abbrev pub all_onward : (ℕ → ℕ) → ℕ → List (List Frames) → List Frames
all_onward home place [] = []
all_onward home place (b ∷ bs) = onward home place b ++ all_onward home (place + 1) bs

abbrev pub all_around : (ℕ → ℕ) → ℕ → List (List Frames) → List Frames
all_around home place [] = []
all_around home place (b ∷ bs) = around home place b ++ all_around home (place + 1) bs

abbrev pub in_order : (ℕ → ℕ) → List (List Frames) → List Frames
in_order home bs = all_onward home 0 bs ++ all_around home 0 bs

-- how many ranges have this home
abbrev pub of_home : (ℕ → ℕ) → ℕ → List Frames → ℕ
of_home home place rs = sum_by (λ r. if home r.lo == place then 1 else 0) rs

-- how many ranges have each bucket for their home, and are in another one
abbrev pub AreStrays : (ℕ → ℕ) → List (List Frames) → List ℕ → Type 0
AreStrays home buckets strays =
    (place : ℕ) → place < length buckets
    → get_or strays place 0 + of_home home place (get_or buckets place [])
    ≡ of_home home place (all_ranges buckets)

-- whether a range counts as a stray of this home, which stands in the bucket at that place and has
-- the home there
abbrev pub stray_at : ℕ → ℕ → ℕ → ℕ
stray_at home place k = if place == home then 0 else if k == home then 1 else 0

-- There is room for six ranges a bucket, but for some, wherever they are.
pub record IsTable (buckets : List (List Frames)) (strays : List ℕ) (bits room : ℕ)
    : Type 0 where
  pub least : FIRST_BITS ≤ bits
  pub most : bits ≤ LAST_BITS
  pub count : length buckets ≡ 2 ^ bits
  pub slots : length strays ≡ length buckets
  pub away : AreStrays (home_of bits) buckets strays
  pub fills : SPARE + room + length (all_ranges buckets) ≡ SHARE * length buckets
