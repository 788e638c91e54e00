-- What single holds do.
use Rattle.std.proofs.Common.{ℕ, ◌≡◌, ◌≢◌, Bool, List, [], ◌∷◌, Option, Some, None, refl, sym, subst}
use Rattle.iova_range.specs.declared.refusal.Refusal.TheVariants as refusal
use Rattle.iova_model.specs.declared.step.Step.{Step}
use Rattle.iova_model.specs.declared.step.Step.TheVariants as step
use Rattle.iova_model.specs.declared.step.Reply.{Reply}
use Rattle.iova_model.specs.declared.step.Reply.TheVariants as reply
use Rattle.iova_model.specs.declared.totals.Totals.{Totals}
use Rattle.iova_model.specs.State.{State}
use Rattle.iova_model.specs.Effects.{to_queue}
use Rattle.iova_keep.specs.Steps.{Takes}
use Rattle.iova_keep.specs.Events.{CallEvent, Ran, NotRun, IsShort, Leads, Unmapping, run, not_run, UnmapFirst, tried, full, UnmapAgain, again}
use Rattle.iova_keep.specs.StepLogs.{StepLog, StoresStep}
use Rattle.iova_keep.specs.Stored.{StoresEvents, DoesAndStores}
use Rattle.iova_lock.proofs.Storing.{step_stored}

pub does_run : (st : Step) (held : Totals) (r : Reply) (a b : Option StepLog) (s t : State) → Takes s st r t → StoresStep a st r b → DoesAndStores (Unmapping st held r) a b s t
does_run st held r a b s t h k = record { events = Ran st r ∷ []; allowed = run r; leads = (t, h, refl); stored = (b, k, refl) }

pub does_not_run : (st : Step) (held : Totals) (a : Option StepLog) (s : State) → IsShort held (to_queue s st) → DoesAndStores (Unmapping st held (reply.Refused refusal.NotHeld)) a a s s
does_not_run st held a s h = record { events = NotRun st held ∷ []; allowed = not_run; leads = (h, refl); stored = refl }

pub first_tried : (st : Step) (held : Totals) (r : Reply) (a b : Option StepLog) (s t : State) → r ≢ reply.Refused refusal.RingFull → DoesAndStores (Unmapping st held r) a b s t
    → DoesAndStores (UnmapFirst st held (Some r) None) a b s t
first_tried st held r a b s t other d = record { events = d.events; allowed = tried r d.events other d.allowed; leads = d.leads; stored = d.stored }

full_then : (st : Step) (held : Totals) (a b c : Option StepLog) (s m t : State) (begin : Reply) {r : Reply} {es : List CallEvent} → Unmapping st held r es → r ≡ reply.Refused refusal.RingFull → Leads s es m
    → StoresEvents a es b → Takes m step.Begin begin t → StoresStep b step.Begin begin c
    → DoesAndStores (UnmapFirst st held (Some (reply.Refused refusal.RingFull)) (Some begin)) a c s t
full_then st held a b c s m t begin (run r) e l stored h k =
    let here : Takes s st (reply.Refused refusal.RingFull) m = subst (λ x. Takes s st x m) e (subst (λ x. Takes s st r x) (sym l.2) l.1) in
    let first : StoresStep a st (reply.Refused refusal.RingFull) b = subst (λ x. StoresStep a st x b) e (step_stored a stored.0 b st r stored.1 stored.2) in
    record {
      events = Ran st (reply.Refused refusal.RingFull) ∷ Ran step.Begin begin ∷ [];
      allowed = full begin;
      leads = (m, here, (t, h, refl));
      stored = (b, first, (c, k, refl));
    }
full_then st held a b c s m t begin not_run e l stored h k = absurd cc

pub first_full : (st : Step) (held : Totals) (r : Reply) (a b c : Option StepLog) (s m t : State) (begin : Reply) → r ≡ reply.Refused refusal.RingFull → DoesAndStores (Unmapping st held r) a b s m
    → Takes m step.Begin begin t → StoresStep b step.Begin begin c → DoesAndStores (UnmapFirst st held (Some r) (Some begin)) a c s t
first_full st held r a b c s m t begin e d h k =
    subst (λ x. DoesAndStores (UnmapFirst st held (Some x) (Some begin)) a c s t) (sym e) (full_then st held a b c s m t begin d.allowed e d.leads d.stored h k)

pub again_does : (st : Step) (held : Totals) (n : ℕ) (ok : Bool) (end r : Reply) (a b c : Option StepLog) (s m t : State) → Takes s (step.End n ok) end m → StoresStep a (step.End n ok) end b
    → DoesAndStores (Unmapping st held r) b c m t → DoesAndStores (UnmapAgain st held n ok (Some r)) a c s t
again_does st held n ok end r a b c s m t h k d = record {
  events = Ran (step.End n ok) end ∷ d.events;
  allowed = again end r d.events d.allowed;
  leads = (m, h, d.leads);
  stored = (b, k, d.stored);
}
