-- What a replay tells: of the bytes that it took, what it wrote, and what it answers.
use Rattle.std.specs.Prelude.{ℕ, ◌≡◌, ◌⊎◌, List, [], ◌++◌, length, flat_map, Option, Some, None, Result, Ok, Err}
use Rattle.std.specs.Io.KnownBytes.{Consumes, Appends, IsAtEnd}
use Rattle.iova_model.specs.declared.step.Reply.{Reply}
use Rattle.iova_model.specs.State.{State, new_domain}
use Rattle.iova_model.specs.Promises.{Runs}
use Rattle.iova_line.specs.declared.trace.Trace.{Trace}
use Rattle.iova_trace.specs.declared.fault.ReplayFault.{ReplayFault}
use Rattle.iova_trace.specs.declared.fault.ReplayFault.TheVariants as fault
use Rattle.iova_trace.specs.Replies.{reply_text}
use Rattle.iova_text.specs.Lines.{IsUnended}
use Rattle.iova_line.specs.Traces.{IsTrace, trace_text}
use Rattle.iova_trace.specs.Lines.{next_line_number, BeginsWithLines, IsBad, IsCutOff}

-- Lines were replayed: in a new domain, once there is a header, their steps leave this state and
-- are answered by this text. The transcript of these steps keeps the promises.
abbrev pub IsReplayed : Option Trace → Option State → List ℕ → Type 0
IsReplayed None None text = text ≡ []
IsReplayed (Some t) (Some s) text =
    (replies : List Reply) × Runs (new_domain t.bounds t.workers) s t.steps [] replies
    × (text ≡ flat_map reply_text replies)
IsReplayed lines state text = ⊥

-- all that was taken is a trace, each reply is written, and this is the last state and the number
-- of steps
pub record IsDone (taken written : List ℕ) (state : State) (steps : ℕ) : Type 0 where
  pub trace : Trace
  pub good : IsTrace trace
  pub whole : taken ≡ trace_text trace
  pub replayed : IsReplayed (Some trace) (Some state) written
  pub count : steps ≡ length trace.steps

-- the replies to the good lines are written, and the line after them, of this number, is bad
pub record StopsAtBad (taken written : List ℕ) (number : ℕ) : Type 0 where
  pub lines : Option Trace
  pub rest : List ℕ
  pub state : Option State
  pub begins : BeginsWithLines taken lines rest
  pub replayed : IsReplayed lines state written
  pub number_is : number ≡ next_line_number lines
  pub bad : IsBad lines rest

-- the replay stops at a line that the input ends in
pub record StopsAtCut (taken written : List ℕ) (number : ℕ) : Type 0 where
  pub lines : Option Trace
  pub rest : List ℕ
  pub state : Option State
  pub begins : BeginsWithLines taken lines rest
  pub replayed : IsReplayed lines state written
  pub number_is : number ≡ next_line_number lines
  pub cut : IsCutOff lines rest

-- the replies to all whole lines are written, and no bad line has been taken
pub record StopsInLine (taken written : List ℕ) : Type 0 where
  pub lines : Option Trace
  pub rest : List ℕ
  pub state : Option State
  pub begins : BeginsWithLines taken lines rest
  pub replayed : IsReplayed lines state written
  pub unended : IsUnended rest

-- of the replies to good lines the first bytes are written
pub record BreaksOff (taken written : List ℕ) : Type 0 where
  pub lines : Option Trace
  pub rest : List ℕ
  pub state : Option State
  pub text : List ℕ
  pub begins : BeginsWithLines taken lines rest
  pub replayed : IsReplayed lines state text
  pub unwritten : List ℕ
  pub begun : text ≡ written ++ unwritten

-- what each answer says, where `left` is what the reader has left
abbrev pub TellsOfReplay : List ℕ → List ℕ → Option (List ℕ) → Result (State × ℕ) ReplayFault
    → Type 0
TellsOfReplay taken written left (Ok done) = IsDone taken written done.0 done.1 × IsAtEnd left
TellsOfReplay taken written left (Err (fault.BadTrace number)) =
    StopsAtBad taken written number ⊎ (StopsAtCut taken written number × IsAtEnd left)
TellsOfReplay taken written left (Err fault.NoMemory) = BreaksOff taken written
TellsOfReplay taken written left (Err fault.ReadFault) = StopsInLine taken written
TellsOfReplay taken written left (Err fault.WriteFault) = BreaksOff taken written

-- A reader and a writer before and after, where they tell their bytes: some were taken from the one
-- and some written to the other.
pub record Replays (input left output filled : Option (List ℕ))
    (answer : Result (State × ℕ) ReplayFault) : Type 0 where
  pub taken : List ℕ
  pub written : List ℕ
  pub takes : Consumes input left taken
  pub writes : Appends output filled written
  pub tells : TellsOfReplay taken written left answer
