-- A tree has what somebody has.
use Rattle.std.specs.Prelude.{ℕ, ◌≡◌, List, sum_by}
use Rattle.iova_range.specs.Frames.{Frames}
use Rattle.iova_model.specs.State.{State, held_ranges}

-- Some ranges are those that somebody has in a state, windows among them: whatever ranges weigh,
-- they weigh as much.
abbrev pub IsTied : List Frames → State → Type 0
IsTied ranges s = (weigh : Frames → ℕ) → sum_by weigh ranges ≡ sum_by weigh (held_ranges s)
