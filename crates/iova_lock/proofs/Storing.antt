-- What calls do and store, one after another.
use Rattle.std.proofs.Common.{◌≡◌, List, [], ◌∷◌, ◌++◌, Option, Some, None, refl, sym, subst}
use Rattle.std.specs.Prelude.{MatchOption}
use Rattle.iova_model.specs.declared.step.Step.{Step}
use Rattle.iova_model.specs.declared.step.Reply.{Reply}
use Rattle.iova_model.specs.State.{State}
use Rattle.iova_keep.specs.Events.{CallEvent, Ran, NotRun, Invalidated, Leads, Does}
use Rattle.iova_keep.specs.StepLogs.{StepLog, StoresStep}
use Rattle.iova_keep.specs.Stored.{StoresEvents, DoesAndStores}

-- what is stored was done
pub does : {Allowed : List CallEvent → Type 0} {a b : Option StepLog} {s t : State} → DoesAndStores Allowed a b s t → Does Allowed s t
does d = record { events = d.events; allowed = d.allowed; leads = d.leads }

pub leads_more : (s m t : State) (es fs : List CallEvent) → Leads s es m → Leads m fs t → Leads s (es ++ fs) t
leads_more s m t [] fs l d = subst (λ x. Leads x fs t) l d
leads_more s m t (Ran st r ∷ es) fs l d = let rest = l.2 in (l.0, l.1, leads_more l.0 m t es fs rest d)
leads_more s m t (NotRun st held ∷ es) fs l d = (l.0, leads_more s m t es fs l.1 d)
leads_more s m t (Invalidated n ok ∷ es) fs l d = leads_more s m t es fs l d

pub stores_more : (a b c : Option StepLog) (es fs : List CallEvent) → StoresEvents a es b → StoresEvents b fs c → StoresEvents a (es ++ fs) c
stores_more a b c [] fs h k = subst (λ o. StoresEvents o fs c) h k
stores_more a b c (Ran st r ∷ es) fs h k = let rest = h.2 in (h.0, h.1, stores_more h.0 b c es fs rest k)
stores_more a b c (NotRun st held ∷ es) fs h k = stores_more a b c es fs h k
stores_more a b c (Invalidated n ok ∷ es) fs h k = stores_more a b c es fs h k

-- a step, which leaves nothing else stored
pub step_stored : (a m b : Option StepLog) (st : Step) (r : Reply) → StoresStep a st r m → b ≡ m → StoresStep a st r b
step_stored a m b st r h e = subst (λ o. StoresStep a st r o) (sym e) h

-- what a step or a reply stored under a lock, of which the lock says nothing
pub step_unsaid : (a b : Option StepLog) (st : Step) (r : Reply) → StoresStep a st r b → StoresStep None st r None
step_unsaid a b st r h = (h.0, refl)

pub reply_unsaid : (a b : Option StepLog) (st : Step) (o : Option Reply) → MatchOption o ⊥ (λ r. StoresStep a st r b) → MatchOption o ⊥ (λ r. StoresStep None st r None)
reply_unsaid a b st None h = absurd h
reply_unsaid a b st (Some r) h = (h.0, refl)
