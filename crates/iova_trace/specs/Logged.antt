-- What a replay that is logged tells of its log.
use Rattle.std.specs.Prelude.{ℕ, ◌≡◌, List, [], ◌++◌, map, flat_map, take, Option, Some, None, Result, Ok, Err}
use Rattle.std.specs.Io.KnownBytes.{Appends}
use Rattle.iova_model.specs.State.{State}
use Rattle.iova_model.specs.Transcript.{Pair}
use Rattle.iova_line.specs.declared.trace.Trace.{Trace}
use Rattle.iova_trace.specs.declared.fault.ReplayFault.{ReplayFault}
use Rattle.iova_trace.specs.declared.fault.ReplayFault.TheVariants as fault
use Rattle.iova_trace.specs.Log.{log_text}
use Rattle.iova_trace.specs.Replies.{reply_text}
use Rattle.iova_trace.specs.Lines.{BeginsWithLines}
use Rattle.iova_trace.specs.Replay.{Replays}

-- This is the log of some lines whose replies are this text: that of the header's bounds and of
-- each step with its reply, and nothing where there is no header.
abbrev pub IsLogged : Option Trace → List ℕ → List ℕ → Type 0
IsLogged None text log = (text ≡ []) × (log ≡ [])
IsLogged (Some t) text log = (pairs : List Pair) × (map (λ p. p.step) pairs ≡ t.steps)
    × (text ≡ flat_map (λ p. reply_text p.reply) pairs) × (log ≡ log_text t.bounds pairs)

-- A log before and now has got the log of the good lines at the front of what was taken, whose
-- replies are what was written.
pub record LogsAll (taken written : List ℕ) (before now : Option (List ℕ)) : Type 0 where
  pub lines : Option Trace
  pub rest : List ℕ
  pub log : List ℕ
  pub begins : BeginsWithLines taken lines rest
  pub logged : IsLogged lines written log
  pub grown : Appends before now log

-- It has got some first bytes of that log. Of the replies some first bytes were written.
pub record LogsFront (taken written : List ℕ) (before now : Option (List ℕ)) : Type 0 where
  pub lines : Option Trace
  pub rest : List ℕ
  pub text : List ℕ
  pub unwritten : List ℕ
  pub log : List ℕ
  pub count : ℕ
  pub begins : BeginsWithLines taken lines rest
  pub logged : IsLogged lines text log
  pub begun : text ≡ written ++ unwritten
  pub grown : Appends before now (take count log)

-- what each answer says of the log
abbrev pub TellsOfLog : List ℕ → List ℕ → Option (List ℕ) → Option (List ℕ)
    → Result (State × ℕ) ReplayFault → Type 0
TellsOfLog taken written before now (Ok done) = LogsAll taken written before now
TellsOfLog taken written before now (Err (fault.BadTrace number)) = LogsAll taken written before now
TellsOfLog taken written before now (Err fault.NoMemory) = LogsFront taken written before now
TellsOfLog taken written before now (Err fault.ReadFault) = LogsAll taken written before now
TellsOfLog taken written before now (Err fault.WriteFault) = LogsFront taken written before now

-- A reader, a writer and a log before and after: the replay is one without a log, and the log is
-- that of what it took and wrote.
pub record ReplaysAndLogs (input left output filled before now : Option (List ℕ))
    (answer : Result (State × ℕ) ReplayFault) : Type 0 where
  pub replays : Replays input left output filled answer
  pub logs : TellsOfLog replays.taken replays.written before now answer
