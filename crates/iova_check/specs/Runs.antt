-- What a check tells: of the bytes that it took, what it wrote, and what it answers.
use Rattle.std.specs.Prelude.{ℕ, ◌≡◌, ◌≢◌, ◌⊎◌, Bool, nat_lt, List, [], ◌++◌, Option, Some, None, Result, Ok, Err}
use Rattle.std.specs.Io.KnownBytes.{Consumes, Appends, IsAtEnd}
use Rattle.iova_text.specs.Lines.{HasNoLf, whole_line, IsUnended}
use Rattle.iova_text.specs.Writing.{AppendsFront}
use Rattle.iova_check.specs.declared.source.Form.{Form}
use Rattle.iova_check.specs.declared.source.Form.TheVariants as form
use Rattle.iova_check.specs.declared.source.Source.{Source}
use Rattle.iova_check.specs.declared.checker.Checker.{Checker}
use Rattle.iova_check.specs.declared.fault.CheckFault.{CheckFault}
use Rattle.iova_check.specs.declared.fault.CheckFault.TheVariants as fault
use Rattle.iova_check.specs.Logs.{LogLines, AreLines, IsOfLog, next_line_number, BeginsWithLines, IsBad, IsCutOff}
use Rattle.iova_check.specs.Checking.{HasChecked}
use Rattle.iova_check.specs.Summary.{summary_text}

-- lines were checked: this is known of them, nothing before the header of a log, and this is the
-- text of their findings
abbrev pub IsChecked : Option LogLines → Option Checker → List ℕ → Type 0
IsChecked None None text = text ≡ []
IsChecked None (Some c) text = ⊥
IsChecked (Some l) None text = ⊥
IsChecked (Some l) (Some c) text = HasChecked l.bounds l.past c text

-- all that was taken are whole lines, the findings of each line are written, and this is known of
-- it
pub record IsDone (source : Source) (taken written : List ℕ) (c : Checker) : Type 0 where
  pub lines : LogLines
  pub good : AreLines source lines
  pub whole : taken ≡ lines.text
  pub checked : HasChecked lines.bounds lines.past c written

-- what has come of a line that has not ended: in a log it is shorter than the longest line
abbrev pub IsUnendedIn : Form → List ℕ → Type 0
IsUnendedIn form.Log rest = IsUnended rest
IsUnendedIn (form.Trace domain) rest = HasNoLf rest

-- the findings of the good lines of a log are written, and the line after them, of this number, is
-- bad
pub record StopsAtBad (source : Source) (taken written : List ℕ) (number : ℕ) : Type 0 where
  pub lines : Option LogLines
  pub rest : List ℕ
  pub checker : Option Checker
  pub begins : BeginsWithLines source taken lines rest
  pub checked : IsChecked lines checker written
  pub number_is : number ≡ next_line_number lines
  pub of_log : IsOfLog source.form
  pub bad : IsBad lines rest

-- the run stops at a line that the input ends in
pub record StopsAtCut (source : Source) (taken written : List ℕ) (number : ℕ) : Type 0 where
  pub lines : Option LogLines
  pub rest : List ℕ
  pub checker : Option Checker
  pub begins : BeginsWithLines source taken lines rest
  pub checked : IsChecked lines checker written
  pub number_is : number ≡ next_line_number lines
  pub of_log : IsOfLog source.form
  pub cut : IsCutOff lines rest

-- the findings of all whole lines are written, and no bad line has been taken
pub record StopsInLine (source : Source) (taken written : List ℕ) : Type 0 where
  pub lines : Option LogLines
  pub rest : List ℕ
  pub checker : Option Checker
  pub begins : BeginsWithLines source taken lines rest
  pub checked : IsChecked lines checker written
  pub unended : IsUnendedIn source.form rest

-- of the findings of good lines the first bytes are written
pub record BreaksOff (source : Source) (taken written : List ℕ) : Type 0 where
  pub lines : Option LogLines
  pub rest : List ℕ
  pub checker : Option Checker
  pub text : List ℕ
  pub begins : BeginsWithLines source taken lines rest
  pub checked : IsChecked lines checker text
  pub unwritten : List ℕ
  pub begun : text ≡ written ++ unwritten

-- what each answer says, where `left` is what the reader has left
abbrev pub TellsOfCheck : Source → List ℕ → List ℕ → Option (List ℕ) → Result Checker CheckFault
    → Type 0
TellsOfCheck source taken written left (Ok done) = IsDone source taken written done × IsAtEnd left
TellsOfCheck source taken written left (Err (fault.BadLog number)) =
    StopsAtBad source taken written number ⊎ (StopsAtCut source taken written number × IsAtEnd left)
TellsOfCheck source taken written left (Err fault.NoMemory) = BreaksOff source taken written
TellsOfCheck source taken written left (Err fault.ReadFault) = StopsInLine source taken written
TellsOfCheck source taken written left (Err fault.WriteFault) = BreaksOff source taken written

-- the input ends in a line of a trace without its LF, which is read as if it had one
pub record EndsInLine (taken : List ℕ) (left : Option (List ℕ)) (read : List ℕ) : Type 0 where
  pub before : List ℕ
  pub line : List ℕ
  pub whole : taken ≡ before ++ line
  pub one : HasNoLf line
  pub some : line ≢ []
  pub ended : read ≡ before ++ whole_line line
  pub end : IsAtEnd left

-- these bytes are read, where those were taken
abbrev pub AreRead : Form → List ℕ → Option (List ℕ) → List ℕ → Type 0
AreRead form.Log taken left read = read ≡ taken
AreRead (form.Trace domain) taken left read = (read ≡ taken) ⊎ EndsInLine taken left read

-- A reader and a writer before and after, where they tell their bytes: some were taken from the one
-- and some written to the other.
pub record Checks (source : Source) (input left output filled : Option (List ℕ))
    (answer : Result Checker CheckFault) : Type 0 where
  pub taken : List ℕ
  pub read : List ℕ
  pub written : List ℕ
  pub takes : Consumes input left taken
  pub reads : AreRead source.form taken left read
  pub writes : Appends output filled written
  pub tells : TellsOfCheck source read written left answer

-- what a writer gets after the findings, and the answer: the counts, or their first bytes where a
-- write fails; nothing after a check that fails
abbrev pub Counts : Option (List ℕ) → Option (List ℕ) → Result Checker CheckFault
    → Result Bool CheckFault → Type 0
Counts told filled (Ok c) (Ok found) =
    Appends told filled (summary_text c) × (found ≡ nat_lt 0 c.counts.findings)
Counts told filled (Ok c) (Err fault.WriteFault) =
    AppendsFront told filled (summary_text c)
Counts told filled (Ok c) (Err e) = ⊥
Counts told filled (Err e) answer = (filled ≡ told) × (answer ≡ Err e)

-- A check, and then, where it succeeds, the counts of the log.
pub record ChecksAndCounts (source : Source) (input left output filled : Option (List ℕ))
    (answer : Result Bool CheckFault) : Type 0 where
  pub told : Option (List ℕ)
  pub check : Result Checker CheckFault
  pub checks : Checks source input left output told check
  pub counts : Counts told filled check answer
