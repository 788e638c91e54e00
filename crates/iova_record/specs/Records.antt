-- What is recorded of a domain, as a text.
use Rattle.std.specs.Prelude.{ℕ, List, [], Option, Some, None, Result, IfOk}
use Rattle.iova_range.specs.declared.refusal.Refusal.{Refusal}
use Rattle.iova_model.specs.State.{State}
use Rattle.iova_model.specs.Transcript.{Pair}
use Rattle.iova_line.specs.Recorded.{IsTranscriptOf, HasRecorded}
use Rattle.iova_keep.specs.StepLogs.{StepLog}

-- the pairs of a log; a domain that isn't recorded has none
abbrev pub pairs_in : Option StepLog → List Pair
pairs_in None = []
pairs_in (Some log) = log.pairs

-- where this is no refusal, the text of what is recorded of a domain was appended
abbrev pub WritesText : State → Option StepLog → List ℕ → List ℕ → Result ℕ Refusal → Type 0
WritesText s log old new result =
    IfOk result (IsTranscriptOf s.bounds s.workers (pairs_in log) old new)

-- where this is no refusal, that text was appended, and it tells a transcript from the new domain
abbrev pub WritesLog : State → Option StepLog → List ℕ → List ℕ → Result ℕ Refusal → Type 0
WritesLog s log old new result = IfOk result (HasRecorded s.bounds s.workers (pairs_in log) old new)

-- a domain, and where it is recorded its log
pub record RecordedState : Type 0 where
  pub state : State
  pub log : Option StepLog
