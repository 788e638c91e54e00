-- What a daemon prints at its end.
use Rattle.std.specs.Prelude.{ℕ, ◌≡◌, List, [], ◌∷◌, ◌++◌, take, codes, Option, Result, Ok, Err, ⊤}
use Rattle.std.specs.Io.KnownBytes.{Appends}
use Rattle.iova_model.specs.State.{State}
use Rattle.iova_report.specs.Report.{report_text}
use Rattle.iova_text.specs.Words.{numbers_line}
use Rattle.iova_tools.specs.declared.fault.Fault.{Fault}
use Rattle.iova_tools.specs.declared.fault.Fault.TheVariants as fault

-- a line with the domain's number, and the report of the domain
abbrev pub domain_text : ℕ → State → List ℕ
domain_text number state =
    (numbers_line (codes "domain") (number ∷ []) ++ 10 ∷ []) ++ report_text state

-- how much is printed of a text: all of it, nothing where memory is refused, and some first bytes
-- where a write fails
abbrev pub IsPrinted : List ℕ → List ℕ → Result ⊤ Fault → Type 0
IsPrinted text written (Ok done) = written ≡ text
IsPrinted text written (Err fault.NoMemory) = written ≡ []
IsPrinted text written (Err fault.CannotWrite) = (n : ℕ) × (written ≡ take n text)
IsPrinted text written (Err other) = ⊥

-- the domain's line and report were printed, or as much of them as the answer says
abbrev pub PrintsDomain : ℕ → State → Option (List ℕ) → Option (List ℕ) → Result ⊤ Fault → Type 0
PrintsDomain number state before filled answer =
    (written : List ℕ) × Appends before filled written
    × IsPrinted (domain_text number state) written answer
