-- The result of a replay with the report after it.
use Rattle.std.specs.Prelude.{ℕ, ◌≡◌, Bool, true, false, List, [], take, Option, Result, Ok, Err, ⊤}
use Rattle.std.specs.Borrow.{Bor}
use Rattle.std.specs.Io.KnownBytes.{Appends}
use Rattle.iova_model.specs.State.{State}
use Rattle.iova_report.specs.Report.{report_text}
use Rattle.iova_trace.specs.declared.fault.ReplayFault.{ReplayFault}
use Rattle.iova_trace.specs.declared.fault.ReplayFault.TheVariants as fault
use Rattle.iova_trace.specs.Logged.{ReplaysAndLogs}
use Rattle.iova_tools.specs.declared.fault.Fault.{Fault}
use Rattle.iova_tools.specs.Faults.{fault_of_replay}

-- how much is written of a text: all of it, nothing where memory is refused, and some first bytes
-- where a write fails
abbrev pub WritesText : List ℕ → List ℕ → Result ⊤ ReplayFault → Type 0
WritesText text written (Ok done) = written ≡ text
WritesText text written (Err fault.NoMemory) = written ≡ []
WritesText text written (Err fault.WriteFault) = (n : ℕ) × (written ≡ take n text)
WritesText text written (Err other) = ⊥

-- the report of the domain was written, or as much of it as the answer says
abbrev pub Reports : Option (List ℕ) → Option (List ℕ) → State → Result ⊤ ReplayFault → Type 0
Reports replied filled state answer =
    (written : List ℕ) × Appends replied filled written
    × WritesText (report_text state) written answer

-- what a writer gets after the replies, and the answer: nothing after a replay that fails, or where
-- no report is wanted
abbrev pub Follows : Bool → Option (List ℕ) → Option (List ℕ) → Result (State × ℕ) ReplayFault
    → Result ⊤ ReplayFault → Type 0
Follows true replied filled (Ok done) answer = Reports replied filled done.0 answer
Follows false replied filled (Ok done) answer = (filled ≡ replied) × (answer ≡ Ok (tt {0}))
Follows has_report replied filled (Err fault) answer = (filled ≡ replied) × (answer ≡ Err fault)

-- A replay with its log, and then, where it succeeds and the report is wanted, the report of the
-- domain that it leaves.
pub record ReplaysAndReports (has_report : Bool)
    (input left output filled before now : Option (List ℕ))
    (answer : Result ⊤ ReplayFault) : Type 0 where
  pub replied : Option (List ℕ)
  pub replay : Result (State × ℕ) ReplayFault
  pub replays : ReplaysAndLogs input left output replied before now replay
  pub follows : Follows has_report replied filled replay answer

-- how the program ends after a replay of the trace of this name: as the replay, with its fault as
-- one of the program
abbrev pub EndsReplay : Bor (List ℕ) → Result ⊤ ReplayFault → Result ⊤ Fault → Type 0
EndsReplay path (Ok done) result = result ≡ Ok (tt {0})
EndsReplay path (Err fault) result = result ≡ Err (fault_of_replay path fault)

-- The trace of this name is replayed, logged and reported, and the program ends so.
pub record PrintsReplay (path : Bor (List ℕ)) (has_report : Bool)
    (input left output filled before now : Option (List ℕ)) (result : Result ⊤ Fault) : Type 0 where
  pub answer : Result ⊤ ReplayFault
  pub replays : ReplaysAndReports has_report input left output filled before now answer
  pub ends : EndsReplay path answer result
