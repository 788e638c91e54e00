-- The windows that an option names.
use Rattle.std.specs.Prelude.{ℕ, ◌≡◌, ◌+◌, ◌-◌, List, [], ◌∷◌, Option, Some, None}
use Rattle.clap.specs.Words.{Row, Text, all_of}
use Rattle.iova_range.specs.Frames.{Frames}
use Rattle.iova_regions.specs.Regions.{with_part}
use Rattle.iova_regions.specs.Span.{IsSpan, span_text}
use Rattle.iova_regions.specs.Windows.{part}

-- the text is that of two frames; those from the one to the other, as far as they are within the
-- bounds, are inserted
pub record InsertsSpan (start last : ℕ) (text : Text) (old new : List Frames) : Type 0 where
  pub from : ℕ
  pub to : ℕ
  pub is : IsSpan from to
  pub spelled : text ≡ span_text from to
  pub windows : new ≡ with_part (part (record { lo = from; len = to + 1 - from }) start last) old

-- the windows of these texts, one after another
abbrev pub InsertsSpans : ℕ → ℕ → List Text → List Frames → List Frames → Type 0
InsertsSpans start last [] old new = new ≡ old
InsertsSpans start last (text ∷ texts) old new =
    (mid : List Frames) × InsertsSpan start last text old mid
    × InsertsSpans start last texts mid new

-- no window where the option isn't there
abbrev pub AreWindowsOf : ℕ → ℕ → Option (List Text) → List Frames → Type 0
AreWindowsOf start last None windows = windows ≡ []
AreWindowsOf start last (Some texts) windows = InsertsSpans start last texts [] windows

-- the windows that the option names, in the order in which they stand
abbrev pub HasSpans : List Row → Text → ℕ → ℕ → List Frames → Type 0
HasSpans rows id start last windows = AreWindowsOf start last (all_of id rows) windows
