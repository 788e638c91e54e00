-- The result of a check whose text was taken to its end.
use Rattle.std.specs.Prelude.{ℕ, ◌≡◌, ◌==◌, ◌||◌, Bool, List, Option, Some, None, Result, Ok, Err, nat_lt, if◌then◌else◌, ⊤}
use Rattle.std.specs.Borrow.{Bor}
use Rattle.iova_check.specs.declared.checker.Checker.{Checker}
use Rattle.iova_check.specs.declared.fault.CheckFault.{CheckFault}
use Rattle.iova_check.specs.declared.fault.CheckFault.TheVariants as check
use Rattle.iova_tools.specs.declared.fault.Fault.{Fault}
use Rattle.iova_tools.specs.declared.fault.Fault.TheVariants as fault
use Rattle.iova_tools.specs.declared.verdict.Verdict.{Verdict}
use Rattle.iova_tools.specs.declared.verdict.Verdict.TheVariants as verdict

-- something was left out: no line maps a frame, events were lost, or a line was too long to be read
abbrev pub has_gap : ℕ → ℕ → ℕ → Bool
has_gap maps lost too_long = maps == 0 || (nat_lt 0 lost || nat_lt 0 too_long)

-- of so many findings and lines that map frames, lines that say that events were lost, and lines
-- that were too long to be read
abbrev pub verdict_of : ℕ → ℕ → ℕ → ℕ → Verdict
verdict_of findings maps lost too_long =
    if nat_lt 0 findings then verdict.Found
    else (if has_gap maps lost too_long then verdict.Incomplete else verdict.Sound)

-- the fault of a check that was taken to its end: of one that found nothing and left nothing out
-- none
abbrev pub fault_of_verdict : Verdict → Option Fault
fault_of_verdict verdict.Sound = None
fault_of_verdict verdict.Found = Some fault.Found
fault_of_verdict verdict.Incomplete = Some fault.Incomplete

-- the fault of a check of the text of this name that was not
abbrev pub fault_of_check : Bor (List ℕ) → CheckFault → Fault
fault_of_check path (check.BadLog line) = fault.LogRefused line
fault_of_check path check.NoMemory = fault.NoMemory
fault_of_check path check.ReadFault = fault.CannotRead path
fault_of_check path check.WriteFault = fault.CannotWrite

abbrev pub ends_with : Option Fault → Result ⊤ Fault
ends_with None = Ok tt
ends_with (Some fault) = Err fault

-- How a check ends, by what it knows of a text that it took to its end and what the writing of the
-- counts say: without a fault exactly where nothing is wrong and nothing was left out.
abbrev pub EndsCheck : Bor (List ℕ) → Result Checker CheckFault → Result Bool CheckFault
    → Result ⊤ Fault → Type 0
EndsCheck path (Err e) told ended = ended ≡ Err (fault_of_check path e)
EndsCheck path (Ok c) (Err e) ended = ended ≡ Err (fault_of_check path e)
EndsCheck path (Ok c) (Ok found) ended =
    ended ≡ ends_with (fault_of_verdict (verdict_of c.counts.findings c.counts.maps c.counts.lost
    c.counts.too_long))
