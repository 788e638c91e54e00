-- What is known of the frames that may be mapped.
use Rattle.std.specs.Prelude.{ℕ, ◌≡◌, ◌-◌, ◌<◌, ◌^◌, [], ◌∷◌, ◌++◌}
use Rattle.iova_range.specs.Frames.{Frames}
use Rattle.iova_check.specs.declared.allowed.Allowed.{Allowed}
use Rattle.iova_check.specs.declared.finding.Kind.TheVariants as kind
use Rattle.iova_check.specs.AllowedBounds.{AllowedBounds}
use Rattle.iova_check.specs.Findings.{since_of, told_outside}
use Rattle.iova_check.specs.Marks.{stage_at}

-- of each frame that a line can name, whether it is out of these bounds: the frames that may be
-- mapped are kept as mapped ones
abbrev pub Allows : Allowed → AllowedBounds → Type 0
Allows allowed bounds =
    (f : ℕ) → f < 2 ^ 64 - 1 → since_of kind.Unmapped (stage_at allowed.stages f)
    ≡ told_outside bounds f

-- the bounds with a window more
abbrev pub with_window : AllowedBounds → Frames → AllowedBounds
with_window b w = record { first = b.first; last = b.last; windows = b.windows ++ w ∷ [] }
