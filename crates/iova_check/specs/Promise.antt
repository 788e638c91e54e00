-- The promise of a log in words that need no state: lines, their order, and the frames that they
-- name.
use Rattle.std.specs.Prelude.{ℕ, ◌≡◌, ◌<◌, ◌↔◌, ◌⊎◌, ◌==◌, ◌&&◌, Bool, true, false, List, [], ◌∷◌, if◌then◌else◌}
use Rattle.iova_range.specs.Frames.{covers}
use Rattle.iova_check.specs.declared.event.Event.{Event}
use Rattle.iova_check.specs.declared.event.Event.TheVariants as event
use Rattle.iova_check.specs.declared.stage.Stage.{Stage}
use Rattle.iova_check.specs.declared.stage.Stage.TheVariants as stage
use Rattle.iova_check.specs.History.{next_line, has, stage_of}

-- Lines

-- there is a line of this number, and what it says passes
abbrev pub is_line : (Event → Bool) → List Event → ℕ → Bool
is_line passes [] n = false
is_line passes (e ∷ past) n = if n == next_line past then passes e else is_line passes past n

-- the line maps the frame
abbrev pub maps : ℕ → Event → Bool
maps f (event.Map r) = covers f r
maps f (event.Unmap r) = false
maps f (event.Use r) = false
maps f (event.Begin number range) = false
maps f (event.End number ok) = false
maps f (event.Flush range) = false
maps f (event.Other what) = false

-- the line unmaps the frame
abbrev pub unmaps : ℕ → Event → Bool
unmaps f (event.Map r) = false
unmaps f (event.Unmap r) = covers f r
unmaps f (event.Use r) = false
unmaps f (event.Begin number range) = false
unmaps f (event.End number ok) = false
unmaps f (event.Flush range) = false
unmaps f (event.Other what) = false

-- a flush of this number begins, which has the frame
abbrev pub begins : ℕ → ℕ → Event → Bool
begins number f (event.Map r) = false
begins number f (event.Unmap r) = false
begins number f (event.Use r) = false
begins number f (event.Begin begun range) = begun == number && has f range
begins number f (event.End ended ok) = false
begins number f (event.Flush range) = false
begins number f (event.Other what) = false

-- a flush of this number ends well
abbrev pub ends_well : ℕ → Event → Bool
ends_well number (event.Map r) = false
ends_well number (event.Unmap r) = false
ends_well number (event.Use r) = false
ends_well number (event.Begin begun range) = false
ends_well number (event.End ended true) = ended == number
ends_well number (event.End ended false) = false
ends_well number (event.Flush range) = false
ends_well number (event.Other what) = false

-- a flush of this number begins or ends
abbrev pub is_of : ℕ → Event → Bool
is_of number (event.Map r) = false
is_of number (event.Unmap r) = false
is_of number (event.Use r) = false
is_of number (event.Begin begun range) = begun == number
is_of number (event.End ended ok) = ended == number
is_of number (event.Flush range) = false
is_of number (event.Other what) = false

-- the line is a whole flush, which has the frame
abbrev pub flushes : ℕ → Event → Bool
flushes f (event.Map r) = false
flushes f (event.Unmap r) = false
flushes f (event.Use r) = false
flushes f (event.Begin number range) = false
flushes f (event.End number ok) = false
flushes f (event.Flush range) = has f range
flushes f (event.Other what) = false

abbrev pub IsLine : (Event → Bool) → List Event → ℕ → Type 0
IsLine passes past n = is_line passes past n ≡ true

-- no line after line n passes
abbrev pub NoneAfter : (Event → Bool) → List Event → ℕ → Type 0
NoneAfter passes past n = (m : ℕ) → n < m → is_line passes past m ≡ false

-- no line between the two passes
abbrev pub NoneBetween : (Event → Bool) → List Event → ℕ → ℕ → Type 0
NoneBetween passes past n to = (m : ℕ) → n < m → m < to → is_line passes past m ≡ false

-- What has to hold of a frame

-- a flush that has the frame began at line `begun` and ended well at line `ended`, as by two
-- lines of its number
pub record IsLongFlush (past : List Event) (f begun ended : ℕ) : Type 0 where
  pub number : ℕ
  pub starts : IsLine (begins number f) past begun
  pub ends : IsLine (ends_well number) past ended
  pub in_order : begun < ended
  pub alone : NoneBetween (is_of number) past begun ended

-- a flush that one line tells: it begins and ends there
pub record IsShortFlush (past : List Event) (f begun ended : ℕ) : Type 0 where
  pub line : IsLine (flushes f) past ended
  pub in_one_line : begun ≡ ended

abbrev pub IsFlush : List Event → ℕ → ℕ → ℕ → Type 0
IsFlush past f begun ended = IsLongFlush past f begun ended ⊎ IsShortFlush past f begun ended

-- line n unmaps the frame while it is mapped: a line before it maps it, and none between unmaps it
pub record TakesBack (past : List Event) (f n : ℕ) : Type 0 where
  pub mapped_at : ℕ
  pub mapped : IsLine (maps f) past mapped_at
  pub before : mapped_at < n
  pub kept : NoneBetween (unmaps f) past mapped_at n
  pub unmapped : IsLine (unmaps f) past n

-- The frame may be given out after these lines: since each line that mapped it one has unmapped it;
-- and since each line that unmapped it while it was mapped, where none has mapped it again, a flush
-- that has it began and ended well.
pub record MayBeGiven (past : List Event) (f : ℕ) : Type 0 where
  pub unmapped : (n : ℕ) → IsLine (maps f) past n → (m : ℕ) × (n < m) × IsLine (unmaps f) past m
  pub flushed : (n : ℕ) → TakesBack past f n → NoneAfter (maps f) past n
      → (begun : ℕ) × (ended : ℕ) × (n < begun) × IsFlush past f begun ended

-- The stages in these words

-- line n was the last to map the frame, and none since has unmapped it
pub record IsMappedSince (past : List Event) (f n : ℕ) : Type 0 where
  pub mapped : IsLine (maps f) past n
  pub last : NoneAfter (maps f) past n
  pub kept : NoneAfter (unmaps f) past n

-- line n unmapped the frame while it was mapped; since then no line has mapped it, and no flush
-- that has it began and ended well
pub record IsStaleSince (past : List Event) (f n : ℕ) : Type 0 where
  pub takes_back : TakesBack past f n
  pub last : NoneAfter (maps f) past n
  pub unflushed : (begun ended : ℕ) → n < begun → ¬ IsFlush past f begun ended

abbrev pub IsStage : List Event → ℕ → Stage → Type 0
IsStage past f stage.Free = MayBeGiven past f
IsStage past f (stage.Mapped since) = IsMappedSince past f since
IsStage past f (stage.Stale since) = IsStaleSince past f since

-- After any lines each frame is at one stage, and this one is it.
pub record HasOneStage (past : List Event) (f : ℕ) : Type 0 where
  pub is : IsStage past f (stage_of past f)
  pub only : (s : Stage) → IsStage past f s → s ≡ stage_of past f

abbrev pub StagesAreTold : Type 0
StagesAreTold = (past : List Event) (f : ℕ) → HasOneStage past f

-- The promise of a log

-- the lines before line n
abbrev pub lines_before : List Event → ℕ → List Event
lines_before [] n = []
lines_before (e ∷ past) n = if n == next_line past then past else lines_before past n

-- The promise at line n, which maps the frame: between each line before it that maps the frame and
-- line n one unmaps it; and between each line before it that unmaps the frame while it is mapped
-- and line n, where that is the next line that maps it, a flush that has the frame began and ended
-- well.
pub record IsKeptAt (log : List Event) (f n : ℕ) : Type 0 where
  pub unmapped : (m : ℕ) → m < n → IsLine (maps f) log m
      → (k : ℕ) × (m < k) × (k < n) × IsLine (unmaps f) log k
  pub flushed : (m : ℕ) → m < n → TakesBack log f m → NoneBetween (maps f) log m n
      → (begun : ℕ) × (ended : ℕ) × (m < begun) × (ended < n) × IsFlush log f begun ended

-- At each line that maps a frame the promise is kept exactly where the frame was free before it.
abbrev pub PromiseIsTold : Type 0
PromiseIsTold =
    (log : List Event) (f n : ℕ) → IsLine (maps f) log n → IsKeptAt log f n
    ↔ (stage_of (lines_before log n) f ≡ stage.Free)
