-- The text of findings: a line for each.
use Rattle.std.specs.Prelude.{ℕ, ◌≡◌, ◌+◌, List, [], ◌∷◌, ◌++◌, Option, Some, None, flat_map, codes, decimal}
use Rattle.iova_check.specs.declared.event.Event.{Event}
use Rattle.iova_check.specs.declared.finding.Kind.{Kind}
use Rattle.iova_check.specs.declared.finding.Kind.TheVariants as kind
use Rattle.iova_check.specs.declared.finding.Run.{Run}
use Rattle.iova_check.specs.declared.finding.Finding.{Finding}
use Rattle.iova_check.specs.declared.finding.Finding.TheVariants as finding
use Rattle.iova_check.specs.AllowedBounds.{AllowedBounds}
use Rattle.iova_check.specs.History.{next_line, flight_of, stage_of}
use Rattle.iova_check.specs.Counting.{how_many}
use Rattle.iova_check.specs.Findings.{AreFindings, TellsBreaks}

abbrev pub kind_name : Kind → List ℕ
kind_name kind.Outside = codes "outside"
kind_name kind.Overlap = codes "overlap"
kind_name kind.Reused = codes "reused"
kind_name kind.Cut = codes "cut"
kind_name kind.Unmapped = codes "unmapped"
kind_name kind.Stale = codes "stale"
kind_name kind.Wild = codes "wild"

abbrev pub since_text : Option ℕ → List ℕ
since_text None = []
since_text (Some line) = codes " since " ++ decimal line

-- the first frame, how many, and the line since which, where there is one
abbrev pub run_text : Run → List ℕ
run_text run = 32 ∷ (decimal run.lo ++ 32 ∷ (decimal run.len ++ since_text run.since))

abbrev pub about : Finding → List ℕ
about (finding.Frames kind run) = kind_name kind ++ run_text run
about (finding.Flush number) = codes "flush " ++ decimal number

-- the line of a finding at line `line`
abbrev pub finding_text : ℕ → Finding → List ℕ
finding_text line f = codes "line " ++ (decimal line ++ (codes ": " ++ (about f ++ 10 ∷ [])))

abbrev pub found_text : ℕ → Option Finding → List ℕ
found_text line None = []
found_text line (Some f) = finding_text line f

abbrev pub findings_text : ℕ → List (Option Finding) → List ℕ
findings_text line fs = flat_map (found_text line) fs

-- The text of the findings of lines, and how many that are: of those before, and then of
-- the newest one.
pub record IsToldNext (bounds : AllowedBounds) (past : List Event) (e : Event) (before text : List ℕ)
    (n found : ℕ) : Type 0 where
  pub findings : List (Option Finding)
  pub are : AreFindings bounds (stage_of past) (flight_of past) e findings
  pub breaks : TellsBreaks past e findings
  pub whole : text ≡ before ++ findings_text (next_line past) findings
  pub count : found ≡ n + how_many findings

abbrev pub IsTold : AllowedBounds → List Event → List ℕ → ℕ → Type 0
IsTold bounds [] text found = (text ≡ []) × (found ≡ 0)
IsTold bounds (e ∷ past) text found =
    (before : List ℕ) × (n : ℕ) × IsTold bounds past before n
    × IsToldNext bounds past e before text n found
