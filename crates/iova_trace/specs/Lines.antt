-- What stands in the bytes of a trace: its lines, the header first, and the first bad one.
use Rattle.std.specs.Prelude.{ℕ, ◌≡◌, ◌≢◌, ◌+◌, ◌<◌, ◌⊎◌, List, [], ◌++◌, length, Option, Some, None}
use Rattle.iova_range.specs.Bounds.{Extent}
use Rattle.iova_range.specs.declared.limits.TheConstants.{MAX_STEPS}
use Rattle.iova_text.specs.Lines.{HasNoLf, IsOverlong, BeginsOdd}
use Rattle.iova_model.specs.declared.step.Step.{Step}
use Rattle.iova_line.specs.declared.trace.Trace.{Trace}
use Rattle.iova_line.specs.Text.{header_text, step_text, IsHeader}
use Rattle.iova_line.specs.LineSteps.{IsStep}
use Rattle.iova_line.specs.Traces.{IsTrace, trace_text}

-- these bytes are the text of the trace with this header and these steps
pub record IsWritten (bytes : List ℕ) (bounds : Extent) (workers : ℕ)
    (steps : List Step) : Type 0 where
  pub good : IsTrace (record { bounds = bounds; workers = workers; steps = steps })
  pub whole : bytes ≡ trace_text (record { bounds = bounds; workers = workers; steps = steps })

-- The good lines at the front of some bytes: none, or the header and some steps, which are a trace
-- themselves.

abbrev pub AreFirstLines : Option Trace → Type 0
AreFirstLines None = Unit {0}
AreFirstLines (Some t) = IsTrace t

abbrev pub first_lines_text : Option Trace → List ℕ
first_lines_text None = []
first_lines_text (Some t) = trace_text t

abbrev pub count_steps : Option Trace → ℕ
count_steps None = 0
count_steps (Some t) = length t.steps

-- the number of the line after them, the header being line 1
abbrev pub next_line_number : Option Trace → ℕ
next_line_number None = 1
next_line_number (Some t) = length t.steps + 2

-- this line, which is without its LF, may stand after them
abbrev pub MayFollow : Option Trace → List ℕ → Type 0
MayFollow None line =
    (bounds : Extent) × (workers : ℕ) × IsHeader bounds workers
    × (line ≡ header_text bounds workers)
MayFollow (Some t) line =
    (length t.steps < MAX_STEPS) × (s : Step) × IsStep s × (line ≡ step_text s)

-- the bytes are these lines and a rest
pub record BeginsWithLines (bytes : List ℕ) (lines : Option Trace) (rest : List ℕ) : Type 0 where
  pub good : AreFirstLines lines
  pub whole : bytes ≡ first_lines_text lines ++ rest

-- The first bad line

-- the rest begins with a line that may not stand there
abbrev pub IsOther : Option Trace → List ℕ → Type 0
IsOther lines rest = BeginsOdd (λ line. ¬ MayFollow lines line) rest

-- the rest begins with a line that may not stand there, or with one that is too long
abbrev pub IsBad : Option Trace → List ℕ → Type 0
IsBad lines rest = IsOther lines rest ⊎ IsOverlong rest

-- where the bytes end here, they end in a line without its LF, or have no header
abbrev pub IsCutOff : Option Trace → List ℕ → Type 0
IsCutOff None rest = HasNoLf rest
IsCutOff (Some t) rest = HasNoLf rest × (rest ≢ [])

-- As the whole text of a trace the bytes are refused, and this is the number of the first bad line.
-- One that is too long is bad in one of these ways too, since no line of a trace is as long.
pub record IsRefused (bytes : List ℕ) (number : ℕ) : Type 0 where
  pub lines : Option Trace
  pub rest : List ℕ
  pub begins : BeginsWithLines bytes lines rest
  pub number_is : number ≡ next_line_number lines
  pub bad : IsOther lines rest ⊎ IsCutOff lines rest
