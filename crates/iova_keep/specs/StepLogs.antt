-- What is recorded of the steps of a domain.
use Rattle.std.specs.Prelude.{ℕ, ◌≡◌, ◌<◌, ◌≤◌, ◌⊎◌, Bool, true, false, List, [], ◌∷◌, ◌++◌, length, Option, Some, None, MatchOption}
use Rattle.iova_model.specs.declared.step.Step.{Step}
use Rattle.iova_model.specs.declared.step.Reply.{Reply}
use Rattle.iova_model.specs.declared.step.Point.{Point}
use Rattle.iova_model.specs.State.{State, new_domain}
use Rattle.iova_model.specs.Transcript.{Pair, IsTranscript, after}

-- the steps of a domain with their points and replies, oldest first, whether it still takes more,
-- and for how many there is room
pub record StepLog : Type 0 where
  pub recording : Bool
  pub room : ℕ
  pub pairs : List Pair

-- a new log, with room for so many pairs
abbrev pub new_log : ℕ → StepLog
new_log room = record { recording = true; room = room; pairs = [] }

-- A pair is stored in a log. Where the log records and has room, the pair is appended and it goes
-- on; else the list stays, and it records no more.
abbrev pub StoresPair : StepLog → Pair → StepLog → Type 0
StoresPair old pair new =
    ((old.recording ≡ true) × (length old.pairs < old.room)
    × (new ≡ record { recording = true; room = old.room; pairs = old.pairs ++ pair ∷ [] }))
    ⊎ (((old.recording ≡ false) ⊎ (old.room ≤ length old.pairs))
    × (new ≡ record { recording = false; room = old.room; pairs = old.pairs }))

-- A pair is stored where there is a log; where there is none, none comes.
abbrev pub Stores : Option StepLog → Pair → Option StepLog → Type 0
Stores None pair new = new ≡ None
Stores (Some old) pair new = MatchOption new ⊥ (StoresPair old pair)

-- a step with this reply, and some memory point, is stored in it
abbrev pub StoresStep : Option StepLog → Step → Reply → Option StepLog → Type 0
StoresStep old st r new = (m : Point) × Stores old (record { step = st; point = m; reply = r }) new

-- What any steps make of a log: more pairs are appended, and its room stays. It ends only where it
-- is full, and from then on it stays as it is.
pub record LogGoesOn (old new : StepLog) : Type 0 where
  pub more : List Pair
  pub appended : new.pairs ≡ old.pairs ++ more
  pub room : new.room ≡ old.room
  pub full : old.recording ≡ true → new.recording ≡ false → new.room ≤ length new.pairs
  pub ended : old.recording ≡ false → new ≡ old

-- What any steps make of the log, where there is one; where there is none, none comes.
pub data GoesOn : Option StepLog → Option StepLog → Type 0 where
  unrecorded : GoesOn None None
  recorded : (old new : StepLog) → LogGoesOn old new → GoesOn (Some old) (Some new)

-- The pairs have room, and are a transcript from the new domain. While recording, they leave the
-- state.
pub record IsLogOf (log : StepLog) (s : State) : Type 0 where
  pub fits : length log.pairs ≤ log.room
  pub transcript : IsTranscript (new_domain s.bounds s.workers) log.pairs
  pub leaves : log.recording ≡ true → after (new_domain s.bounds s.workers) log.pairs ≡ s

abbrev pub IsRecorded : Option StepLog → State → Type 0
IsRecorded None s = Unit {0}
IsRecorded (Some log) s = IsLogOf log s

abbrev pub is_recording : Option StepLog → Bool
is_recording None = false
is_recording (Some log) = log.recording
