-- Lines that are sent together.
use Rattle.std.specs.Prelude.{ℕ, ◌≡◌, ◌≤◌, ◌+◌, ◌⊎◌, Bool, true, false, List, [], ◌++◌, length, Option, Result, Ok, Err, MatchBool}
use Rattle.std.specs.Io.KnownBytes.{Appends}
use Rattle.iova_range.specs.declared.limits.TheConstants.{MAX_RUN}
use Rattle.iova_text.specs.Lines.{IsUnended, IsOverlong, whole_line}
use Rattle.iova_text.specs.Writing.{AppendsFront}
use Rattle.iova_ask.specs.Asking.{AreLines, AreLinesAnd, AreOpen, EndByBye, BeginWith, IsLine, Passes, lines_text}
use Rattle.iova_ask.specs.Answers.{AreWholeAnswers}
use Rattle.iova_ask.specs.declared.front.LineRun.{LineRun}
use Rattle.iova_ask.specs.declared.fault.AskFault.{AskFault}
use Rattle.iova_ask.specs.declared.fault.AskFault.TheVariants as fault

-- no whole line stands at the front
abbrev pub IsStuck : List ℕ → Type 0
IsStuck rest = IsUnended rest ⊎ IsOverlong rest

-- the lines of a run, and what stands after them
pub record IsRunOfLines (bytes : List ℕ) (run : LineRun) : Type 0 where
  pub lines : List (List ℕ)
  pub rest : List ℕ
  pub whole : bytes ≡ lines_text lines ++ rest
  pub len : run.len ≡ length (lines_text lines)
  pub count : run.lines ≡ length lines
  pub few : run.lines ≤ MAX_RUN
  pub byes : MatchBool run.is_last (EndByBye lines) (AreOpen lines)
  pub stuck : run.lines ≡ 0 → IsStuck rest

-- What was sent of the bytes that were read, where `sent` lines had been sent, and the answer.
abbrev pub SendsRun : List ℕ → List ℕ → ℕ → ℕ → Option (List ℕ) → Option (List ℕ)
    → Result Bool AskFault → Type 0
SendsRun old new before now sent filled (Ok true) =
    (ls : List (List ℕ)) × EndByBye ls × BeginWith old ls × Appends sent filled (lines_text ls)
    × (now ≡ before + length ls)
SendsRun old new before now sent filled (Ok false) =
    (ls : List (List ℕ)) × AreLinesAnd old new ls × IsUnended new
    × Appends sent filled (lines_text ls) × (now ≡ before + length ls)
SendsRun old new before now sent filled (Err fault.Read) =
    (ls : List (List ℕ)) × (rest : List ℕ) × AreLinesAnd old rest ls × IsOverlong rest
    × Appends sent filled (lines_text ls)
SendsRun old new before now sent filled (Err other) =
    (ls : List (List ℕ)) × AreLines ls × BeginWith old ls
    × AppendsFront sent filled (lines_text ls)

-- What was sent of the rest of an input without an LF, where `before` lines had been sent, and the
-- answer.
abbrev pub Rests : List ℕ → ℕ → Option (List ℕ) → Option (List ℕ) → Result ℕ AskFault → Type 0
Rests rest before sent filled (Ok n) = ((rest ≡ []) × (n ≡ before) × Appends sent filled [])
    ⊎ (IsLine rest × (n ≡ before + 1) × Appends sent filled (whole_line rest))
Rests rest before sent filled (Err fault.Read) = ⊥
Rests rest before sent filled (Err other) =
    IsLine rest × AppendsFront sent filled (whole_line rest)

-- So many answers were copied, line by line as they came.
pub record Copies (n : ℕ) (left after out filled : Option (List ℕ))
    (kept now_kept : List ℕ) : Type 0 where
  pub ls : List (List ℕ)
  pub answers : AreWholeAnswers n ls
  pub passes : Passes left after out filled kept now_kept (lines_text ls)

-- as many as the count of lines that were sent has grown by
abbrev pub CopiesMore : ℕ → ℕ → Option (List ℕ) → Option (List ℕ) → Option (List ℕ)
    → Option (List ℕ) → List ℕ → List ℕ → Type 0
CopiesMore before now left after out filled kept now_kept =
    (n : ℕ) × (now ≡ before + n) × Copies n left after out filled kept now_kept
