-- The events of flushes, and the rounds that they make up.
use Rattle.std.specs.Prelude.{ℕ, ◌≡◌, Bool, List, [], ◌∷◌, ◌++◌, Option, Some, None}
use Rattle.std.specs.declared.snapshot.Snapshot.{Snapshot}
use Rattle.iova_model.specs.declared.step.Step.{Step}
use Rattle.iova_model.specs.declared.step.Step.TheVariants as step
use Rattle.iova_model.specs.declared.step.Reply.{Reply}
use Rattle.iova_model.specs.declared.step.Reply.TheVariants as reply
use Rattle.iova_sink.specs.Calls.{Invalidation, Call}
use Rattle.iova_keep.specs.declared.flush_history.FlushEvent.{FlushEvent}
use Rattle.iova_keep.specs.declared.flush_history.FlushEvent.TheVariants as flush_event

-- the events that are kept as a snapshot of all before the last
abbrev pub events_after : Option (Snapshot (List FlushEvent)) → FlushEvent → List FlushEvent
events_after None last = []
events_after (Some before) last = before.value ++ last ∷ []

-- the event of a step with this reply: a flush that began, or one that ended
abbrev pub flush_events : Step → Reply → List FlushEvent
flush_events step.Begin (reply.Begun n) = flush_event.Began n ∷ []
flush_events (step.End n ok) reply.Ended = flush_event.Ended n ok ∷ []
flush_events st r = []

-- A round: a flush of this number began, the sink answered for it, and it was ended by that answer
-- with this reply.
pub record Round : Type 0 where
  pub number : ℕ
  pub ok : Bool
  pub end : Reply

-- the events of rounds, in this order: each begins, the sink answers, it ends by that answer
abbrev pub events_of : List Round → List FlushEvent
events_of [] = []
events_of (r ∷ rs) =
    flush_event.Began r.number ∷ flush_event.Asked r.number r.ok
    ∷ (flush_events (step.End r.number r.ok) r.end ++ events_of rs)

-- the calls of the sink in rounds of the domain of this number
abbrev pub calls_of : ℕ → List Round → List Call
calls_of domain [] = []
calls_of domain (r ∷ rs) = Invalidation domain r.number r.ok ∷ calls_of domain rs

-- From one list of events and of calls to another: rounds were made, one after another, and
-- nothing else.
pub record MakesRounds (domain : ℕ) (old new : List FlushEvent) (before now : List Call)
    : Type 0 where
  pub rounds : List Round
  pub events : new ≡ old ++ events_of rounds
  pub calls : now ≡ before ++ calls_of domain rounds

-- The same from where the first of these rounds has begun, by this number.
abbrev pub EndsRounds : (domain number : ℕ) → (old new : List FlushEvent) → (before now : List Call)
    → Type 0
EndsRounds domain number old new before now =
    (first : List FlushEvent) → old ≡ first ++ flush_event.Began number ∷ []
    → MakesRounds domain first new before now

-- The same where a round may have begun.
abbrev pub EndsAnyRounds : (domain : ℕ) → Option ℕ → (old new : List FlushEvent)
    → (before now : List Call) → Type 0
EndsAnyRounds domain None old new before now = MakesRounds domain old new before now
EndsAnyRounds domain (Some n) old new before now = EndsRounds domain n old new before now
