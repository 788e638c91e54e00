-- What a call stores in its record.
use Rattle.std.specs.Prelude.{◌≡◌, List, [], ◌∷◌, Option, Some, None, MatchOption}
use Rattle.iova_model.specs.State.{State}
use Rattle.iova_keep.specs.Events.{CallEvent, Ran, NotRun, Invalidated, Leads}
use Rattle.iova_keep.specs.StepLogs.{StepLog, StoresStep}

-- What happens in this order is stored: each step that is run, with its reply, and nothing else.
abbrev pub StoresEvents : Option StepLog → List CallEvent → Option StepLog → Type 0
StoresEvents old [] new = new ≡ old
StoresEvents old (Ran st r ∷ es) new =
    (mid : Option StepLog) × StoresStep old st r mid × StoresEvents mid es new
StoresEvents old (NotRun st held ∷ es) new = StoresEvents old es new
StoresEvents old (Invalidated n ok ∷ es) new = StoresEvents old es new

-- A call does what is allowed of it, and that is what is stored.
pub record DoesAndStores (Allowed : List CallEvent → Type 0) (old new : Option StepLog)
    (s t : State) : Type 0 where
  pub events : List CallEvent
  pub allowed : Allowed events
  pub leads : Leads s events t
  pub stored : StoresEvents old events new

-- Where a keeper's domain is known, a call stores what it does to that domain. Where the domain
-- isn't known, nor is the log.
abbrev pub RecordsCall : (before after : Option State) (old new : Option StepLog)
    → (State → State → List CallEvent → Type 0)
    → Type 0
RecordsCall None after old new Allowed = (old ≡ None) × (new ≡ None)
RecordsCall (Some s) after old new Allowed =
    MatchOption after ⊥ (λ t. DoesAndStores (Allowed s t) old new s t)
