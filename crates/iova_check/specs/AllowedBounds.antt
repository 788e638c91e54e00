-- The frames that may be mapped.
use Rattle.std.specs.Prelude.{ℕ, List, unwrap_or}
use Rattle.iova_range.specs.Frames.{Frames}
use Rattle.iova_check.specs.declared.allowed.LogBounds.{LogBounds}

-- those from the first to the last one that are in none of the windows: none at all where the first
-- is above the last
pub record AllowedBounds : Type 0 where
  pub first : ℕ
  pub last : ℕ
  pub windows : List Frames

-- what is asked for, from and to these frames where nothing else is
abbrev pub bounds_asked : LogBounds → ℕ → ℕ → AllowedBounds
bounds_asked asked first last =
    record {
      first = unwrap_or asked.first first;
      last = unwrap_or asked.last last;
      windows = asked.windows.now;
    }
