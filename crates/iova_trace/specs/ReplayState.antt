-- What a replay keeps between two reads.
use Rattle.std.specs.Prelude.{ℕ, ◌≡◌, ◌+◌, List, [], ◌++◌, Option, Some, None, Result, Ok, Err}
use Rattle.std.specs.Io.KnownBytes.{Appends}
use Rattle.iova_model.specs.State.{State}
use Rattle.iova_line.specs.declared.trace.Trace.{Trace}
use Rattle.iova_trace.specs.declared.fault.ReplayFault.{ReplayFault}
use Rattle.iova_trace.specs.declared.fault.ReplayFault.TheVariants as fault
use Rattle.iova_trace.specs.declared.replay.ReplayState.{ReplayState}
use Rattle.iova_trace.specs.Lines.{BeginsWithLines, count_steps}
use Rattle.iova_trace.specs.Replay.{IsReplayed, IsDone, StopsAtBad, StopsAtCut, BreaksOff}
use Rattle.iova_trace.specs.Logged.{IsLogged, LogsAll, LogsFront}

-- What was taken is good lines and the kept part of one. What was written and the kept replies are
-- the replies to them. A log before and now has got theirs.
pub record HasTaken (taken written : List ℕ) (before now : Option (List ℕ))
    (p : ReplayState) : Type 0 where
  pub lines : Option Trace
  pub text : List ℕ
  pub begins : BeginsWithLines taken lines p.line
  pub replayed : IsReplayed lines p.domain text
  pub steps : p.steps ≡ count_steps lines
  pub gathered : text ≡ written ++ p.replies.items
  pub log : List ℕ
  pub logged : IsLogged lines text log
  pub grown : Appends before now log

-- the number of the line that comes next
abbrev pub number_at : Option State → ℕ → ℕ
number_at None steps = 1
number_at (Some s) steps = steps + 2

-- from wherever it stood, it takes these bytes and writes these, and the log grows by what they say
abbrev pub Goes : ReplayState → Option (List ℕ) → List ℕ → List ℕ → ReplayState → Option (List ℕ) → Type 0
Goes old log bytes more new longer =
    (taken written : List ℕ) (before : Option (List ℕ)) → HasTaken taken written before log old
    → HasTaken (taken ++ bytes) (written ++ more) before longer new

-- what a fault says of all bytes taken and written, but for those of reading
abbrev pub EndsReplay : List ℕ → List ℕ → ReplayFault → Type 0
EndsReplay taken written (fault.BadTrace number) = StopsAtBad taken written number
EndsReplay taken written fault.NoMemory = BreaksOff taken written
EndsReplay taken written fault.ReadFault = ⊥
EndsReplay taken written fault.WriteFault = BreaksOff taken written

-- what a fault says of the log
abbrev pub EndsLog : List ℕ → List ℕ → Option (List ℕ) → Option (List ℕ) → ReplayFault → Type 0
EndsLog taken written before now (fault.BadTrace number) = LogsAll taken written before now
EndsLog taken written before now fault.NoMemory = LogsFront taken written before now
EndsLog taken written before now fault.ReadFault = ⊥
EndsLog taken written before now fault.WriteFault = LogsFront taken written before now

-- from wherever it stood, it ends with this fault among these bytes, after writing these, and the
-- log is left so
abbrev pub Stops : ReplayState → Option (List ℕ) → List ℕ → List ℕ → Option (List ℕ) → ReplayFault
    → Type 0
Stops old log bytes more longer e =
    (taken written : List ℕ) (before : Option (List ℕ)) → HasTaken taken written before log old
    → EndsReplay (taken ++ bytes) (written ++ more) e
    × EndsLog (taken ++ bytes) (written ++ more) before longer e

-- these bytes are taken and these written
abbrev pub Outcome : ReplayState → Option (List ℕ) → List ℕ → List ℕ → ReplayState → Option (List ℕ)
    → Result Unit ReplayFault → Type 0
Outcome old log bytes more new longer (Ok u) = Goes old log bytes more new longer
Outcome old log bytes more new longer (Err e) = Stops old log bytes more longer e

-- These bytes are taken and nothing is written: it goes on, or it ends once the kept replies are
-- written.
abbrev pub TakesBytes : ReplayState → Option (List ℕ) → List ℕ → ReplayState → Option (List ℕ)
    → Result Unit ReplayFault → Type 0
TakesBytes old log bytes new longer (Ok u) = Goes old log bytes [] new longer
TakesBytes old log bytes new longer (Err e) =
    Stops old log bytes old.replies.items longer e × (new.replies.items ≡ old.replies.items)

-- what the end of the input says
abbrev pub Closes : List ℕ → List ℕ → Result (State × ℕ) ReplayFault → Type 0
Closes taken written (Ok done) = IsDone taken written done.0 done.1
Closes taken written (Err (fault.BadTrace number)) = StopsAtCut taken written number
Closes taken written (Err e) = ⊥
