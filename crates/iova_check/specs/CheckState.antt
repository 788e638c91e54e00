-- What a check keeps between two reads.
use Rattle.std.specs.Prelude.{ℕ, ◌≡◌, ◌⊎◌, ◌≤◌, Bool, true, false, length, List, [], ◌∷◌, ◌++◌, Option, Some, None, Result, Ok, Err}
use Rattle.iova_check.specs.declared.allowed.LogBounds.{LogBounds}
use Rattle.iova_check.specs.declared.checker.Checker.{Checker}
use Rattle.iova_check.specs.declared.fault.CheckFault.{CheckFault}
use Rattle.iova_check.specs.declared.fault.CheckFault.TheVariants as fault
use Rattle.iova_check.specs.declared.run.CheckState.{CheckState}
use Rattle.iova_check.specs.declared.source.Form.{Form}
use Rattle.iova_check.specs.declared.source.Form.TheVariants as form
use Rattle.iova_check.specs.declared.source.Source.{Source}
use Rattle.iova_range.specs.declared.limits.TheConstants.{MAX_TRACE_LINE, WIDE_TOP}
use Rattle.iova_text.specs.Lines.{HasNoLf, IsUnended}
use Rattle.iova_check.specs.AllowedBounds.{bounds_asked}
use Rattle.iova_check.specs.Checking.{HasChecked}
use Rattle.iova_check.specs.Logs.{LogLines, BeginsWithLines}
use Rattle.iova_check.specs.Runs.{IsChecked, IsDone, StopsAtBad, StopsAtCut, BreaksOff}

-- the front of a line is kept: all of it, or as much as the longest line has of which something is
-- read
pub record IsFront (kept line : List ℕ) : Type 0 where
  pub dropped : List ℕ
  pub whole : line ≡ kept ++ dropped
  pub one : HasNoLf line
  pub all_or_long : (dropped ≡ []) ⊎ (MAX_TRACE_LINE ≤ length kept)

-- this is kept of a line
abbrev pub IsKeptOf : Form → List ℕ → List ℕ → Type 0
IsKeptOf form.Log kept line = line ≡ kept
IsKeptOf (form.Trace domain) kept line = IsFront kept line

-- this is kept of what has come of a line
abbrev pub IsRestOf : Form → List ℕ → List ℕ → Type 0
IsRestOf form.Log kept rest = (rest ≡ kept) × IsUnended kept
IsRestOf (form.Trace domain) kept rest = IsFront kept rest

-- a trace has no header
abbrev pub IsOpen : Form → Option Checker → Type 0
IsOpen form.Log checker = Unit {0}
IsOpen (form.Trace domain) None = ⊥
IsOpen (form.Trace domain) (Some c) = Unit {0}

-- what is known before the first line
abbrev pub IsBegun : Form → LogBounds → Option Checker → Type 0
IsBegun form.Log asked checker = checker ≡ None
IsBegun (form.Trace domain) asked None = ⊥
IsBegun (form.Trace domain) asked (Some c) = HasChecked (bounds_asked asked 0 WIDE_TOP) [] c []

-- What was taken is good lines and the front of one. What was written and the kept findings are the
-- text of their findings.
pub record HasTaken (source : Source) (taken written : List ℕ) (p : CheckState) : Type 0 where
  pub lines : Option LogLines
  pub text : List ℕ
  pub rest : List ℕ
  pub begins : BeginsWithLines source taken lines rest
  pub kept : IsRestOf source.form p.line.items rest
  pub opened : IsOpen source.form p.checker
  pub checked : IsChecked lines p.checker text
  pub gathered : text ≡ written ++ p.findings.items

-- the number of the line that comes next
abbrev pub number_at : Option Checker → ℕ
number_at None = 1
number_at (Some c) = c.tracker.line

-- from wherever it stood, it takes these bytes and writes these
abbrev pub Goes : Source → CheckState → List ℕ → List ℕ → CheckState → Type 0
Goes source old bytes more new =
    (taken written : List ℕ) → HasTaken source taken written old
    → HasTaken source (taken ++ bytes) (written ++ more) new

-- what a fault says of all bytes taken and written, but for those of reading
abbrev pub EndsCheck : Source → List ℕ → List ℕ → CheckFault → Type 0
EndsCheck source taken written (fault.BadLog number) = StopsAtBad source taken written number
EndsCheck source taken written fault.NoMemory = BreaksOff source taken written
EndsCheck source taken written fault.ReadFault = ⊥
EndsCheck source taken written fault.WriteFault = BreaksOff source taken written

-- from wherever it stood, it ends with this fault among these bytes, after writing these
abbrev pub Stops : Source → CheckState → List ℕ → List ℕ → CheckFault → Type 0
Stops source old bytes more e =
    (taken written : List ℕ) → HasTaken source taken written old
    → EndsCheck source (taken ++ bytes) (written ++ more) e

-- these bytes are taken and these written
abbrev pub Outcome : Source → CheckState → List ℕ → List ℕ → CheckState → Result Unit CheckFault
    → Type 0
Outcome source old bytes more new (Ok u) = Goes source old bytes more new
Outcome source old bytes more new (Err e) = Stops source old bytes more e

-- These bytes are taken and nothing is written: it goes on, or it ends once the kept findings are
-- written.
abbrev pub TakesBytes : Source → CheckState → List ℕ → CheckState → Result Unit CheckFault → Type 0
TakesBytes source old bytes new (Ok u) = Goes source old bytes [] new
TakesBytes source old bytes new (Err e) =
    Stops source old bytes old.findings.items e × (new.findings.items ≡ old.findings.items)

-- what the end of the input says
abbrev pub Closes : Source → List ℕ → List ℕ → Result Checker CheckFault → Type 0
Closes source taken written (Ok done) = IsDone source taken written done
Closes source taken written (Err (fault.BadLog number)) = StopsAtCut source taken written number
Closes source taken written (Err e) = ⊥

-- something of a trace's last line has come, and no LF
abbrev pub is_last : Form → List ℕ → Bool
is_last form.Log kept = false
is_last (form.Trace domain) [] = false
is_last (form.Trace domain) (b ∷ kept) = true
