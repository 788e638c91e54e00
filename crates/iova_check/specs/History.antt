-- What became of each frame, by the lines of a log. A list of lines has the newest one
-- first.
use Rattle.std.specs.Prelude.{ℕ, ◌+◌, ◌<◌, ◌≤◌, ◌^◌, ◌==◌, Bool, true, false, nat_lt, List, [], ◌∷◌, length, Option, Some, None, if◌then◌else◌}
use Rattle.iova_range.specs.Frames.{Frames, covers}
use Rattle.iova_check.specs.declared.event.Event.{Event}
use Rattle.iova_check.specs.declared.event.Event.TheVariants as event
use Rattle.iova_check.specs.declared.stage.Stage.{Stage}
use Rattle.iova_check.specs.declared.stage.Stage.TheVariants as stage
use Rattle.iova_check.specs.declared.stage.OpenFlush.{OpenFlush}
use Rattle.iova_check.specs.declared.stage.Change.{Change}
use Rattle.iova_check.specs.declared.stage.Change.TheVariants as change

-- the number of the line that comes next: the first one is line 1
abbrev pub next_line : List Event → ℕ
next_line past = length past + 1

-- a frame at least, and the frame behind the last one is one that a number of 64 bits can name
pub record IsRange (r : Frames) : Type 0 where
  pub some : 1 ≤ r.len
  pub fits : r.lo + r.len < 2 ^ 64

abbrev pub IsScope : Option Frames → Type 0
IsScope None = Unit {0}
IsScope (Some r) = IsRange r

-- the frames that the event names are such
abbrev pub IsInReach : Event → Type 0
IsInReach (event.Map r) = IsRange r
IsInReach (event.Unmap r) = IsRange r
IsInReach (event.Use r) = IsRange r
IsInReach (event.Begin number range) = IsScope range
IsInReach (event.End number ok) = Unit {0}
IsInReach (event.Flush range) = IsScope range
IsInReach (event.Other what) = Unit {0}

-- the frame is one of a flush's
abbrev pub has : ℕ → Option Frames → Bool
has f None = true
has f (Some r) = covers f r

-- Flushes in flight

-- the flush of this number that is in flight after line `line`, where `was` was before
abbrev pub flight_after : ℕ → Event → ℕ → Option OpenFlush → Option OpenFlush
flight_after line (event.Map r) number was = was
flight_after line (event.Unmap r) number was = was
flight_after line (event.Use r) number was = was
flight_after line (event.Begin begun range) number was =
    if begun == number then Some (record { line = line; range = range }) else was
flight_after line (event.End ended ok) number was = if ended == number then None else was
flight_after line (event.Flush range) number was = was
flight_after line (event.Other what) number was = was

abbrev pub flight_of : List Event → ℕ → Option OpenFlush
flight_of [] number = None
flight_of (e ∷ past) number = flight_after (next_line past) e number (flight_of past number)

-- Frames

-- what is mapped is stale since the line that unmaps it; what is stale is free once a flush that
-- began after that line ended well
abbrev pub with_change : Change → Stage → Stage
with_change (change.Mapped line) s = stage.Mapped line
with_change (change.Unmapped line) stage.Free = stage.Free
with_change (change.Unmapped line) (stage.Mapped since) = stage.Stale line
with_change (change.Unmapped line) (stage.Stale since) = stage.Stale since
with_change (change.Flushed begun) stage.Free = stage.Free
with_change (change.Flushed begun) (stage.Mapped since) = stage.Mapped since
with_change (change.Flushed begun) (stage.Stale since) =
    if nat_lt since begun then stage.Free else stage.Stale since

-- a flush ended well
abbrev pub flushed_by : Option OpenFlush → ℕ → Stage → Stage
flushed_by None f was = was
flushed_by (Some flight) f was =
    if has f flight.range then with_change (change.Flushed flight.line) was else was

-- the stage of the frame after line `line`, which is `e`, where `was` was before, and these flushes
-- were in flight
abbrev pub stage_after : ℕ → (ℕ → Option OpenFlush) → Event → ℕ → Stage → Stage
stage_after line flights (event.Map r) f was =
    if covers f r then with_change (change.Mapped line) was else was
stage_after line flights (event.Unmap r) f was =
    if covers f r then with_change (change.Unmapped line) was else was
stage_after line flights (event.Use r) f was = was
stage_after line flights (event.Begin number range) f was = was
stage_after line flights (event.End number true) f was = flushed_by (flights number) f was
stage_after line flights (event.End number false) f was = was
stage_after line flights (event.Flush range) f was =
    flushed_by (Some (record { line = line; range = range })) f was
stage_after line flights (event.Other what) f was = was

abbrev pub stage_of : List Event → ℕ → Stage
stage_of [] f = stage.Free
stage_of (e ∷ past) f = stage_after (next_line past) (flight_of past) e f (stage_of past f)
