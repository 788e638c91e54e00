-- What was recorded, written as a trace.
use Rattle.std.specs.Prelude.{ℕ, ◌≡◌, ◌≤◌, List, ◌++◌, length, map, flat_map}
use Rattle.std.specs.List.{AllByRecursion}
use Rattle.iova_range.specs.Bounds.{Extent}
use Rattle.iova_range.specs.declared.limits.TheConstants.{MAX_STEPS}
use Rattle.iova_model.specs.State.{new_domain}
use Rattle.iova_model.specs.Transcript.{Pair, IsTranscript}
use Rattle.iova_line.specs.declared.trace.Trace.{Trace}
use Rattle.iova_line.specs.Text.{IsHeader}
use Rattle.iova_line.specs.LineSteps.{IsStep}
use Rattle.iova_line.specs.Traces.{IsTrace, step_line, trace_text}

-- the trace of a new domain's steps
abbrev pub trace_of : Extent → ℕ → List Pair → Trace
trace_of bounds workers pairs =
    record { bounds = bounds; workers = workers; steps = map (λ p. p.step) pairs }

-- a line for each pair's step
abbrev pub steps_text : List Pair → List ℕ
steps_text pairs = flat_map step_line (map (λ p. p.step) pairs)

-- each of their steps is one that a line may say
abbrev pub AreSteps : List Pair → Type 0
AreSteps pairs = AllByRecursion IsStep (map (λ p. p.step) pairs)

-- the text of these pairs' steps in a new domain was appended, so many they are, and lines may say
-- them
abbrev pub IsTranscriptOf : Extent → ℕ → List Pair → List ℕ → List ℕ → ℕ → Type 0
IsTranscriptOf bounds workers pairs old new n =
    (new ≡ old ++ trace_text (trace_of bounds workers pairs)) × (n ≡ length pairs) × AreSteps pairs

-- The text of these pairs was appended, which are a transcript from a new domain with these bounds
-- and workers. Where its steps are no more than a trace may have, it is a trace.
pub record HasRecorded (bounds : Extent) (workers : ℕ) (pairs : List Pair) (old new : List ℕ)
    (n : ℕ) : Type 0 where
  pub header : IsHeader bounds workers
  pub transcript : IsTranscript (new_domain bounds workers) pairs
  pub text : IsTranscriptOf bounds workers pairs old new n
  pub trace : n ≤ MAX_STEPS → IsTrace (trace_of bounds workers pairs)
