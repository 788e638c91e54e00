-- What a tracker knows after some lines.
use Rattle.std.specs.Prelude.{ℕ, ◌≡◌, ◌-◌, ◌≤◌, ◌^◌, List}
use Rattle.std.specs.Ordering.{nat_cmp}
use Rattle.std.specs.BTreeMap.{get}
use Rattle.iova_check.specs.declared.event.Event.{Event}
use Rattle.iova_check.specs.declared.stage.Stage.TheVariants as stage
use Rattle.iova_check.specs.declared.tracker.Tracker.{Tracker}
use Rattle.iova_check.specs.History.{next_line, flight_of, stage_of}
use Rattle.iova_check.specs.Marks.{stage_at}

-- the number of the next line, the flushes in flight, and the stages of all frames; no line can
-- name frame 2^64 - 1
pub record Follows (past : List Event) (t : Tracker) : Type 0 where
  pub line : t.line ≡ next_line past
  pub flights : (number : ℕ) → get nat_cmp t.flights number ≡ flight_of past number
  pub stages : (f : ℕ) → stage_at t.stages f ≡ stage_of past f
  pub top : (f : ℕ) → 2 ^ 64 - 1 ≤ f → stage_at t.stages f ≡ stage.Free
