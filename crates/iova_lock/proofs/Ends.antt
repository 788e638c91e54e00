-- What the holds of a client's end do.
use Rattle.std.proofs.Common.{ℕ, ◌≡◌, ◌≢◌, ◌<◌, ◌≤◌, Bool, [], ◌∷◌, ◌++◌, Option, Some, None, refl, sym, subst}
use Rattle.std.specs.Prelude.{Ok, Err}
use Rattle.iova_range.specs.declared.refusal.Refusal.TheVariants as refusal
use Rattle.iova_model.specs.declared.step.Step.{Step}
use Rattle.iova_model.specs.declared.step.Step.TheVariants as step
use Rattle.iova_model.specs.declared.step.Reply.{Reply}
use Rattle.iova_model.specs.declared.step.Reply.TheVariants as reply
use Rattle.iova_model.specs.declared.totals.Totals.{Totals}
use Rattle.iova_model.specs.State.{State}
use Rattle.iova_keep.specs.Steps.{Takes}
use Rattle.iova_keep.specs.Events.{Ran, Closing, CloseFirst, closed, closed_full, CloseAgain, closed_again, full_none_queued, full_again, Draining, rings_from, DrainAll, drained, no_worker}
use Rattle.iova_keep.specs.StepLogs.{StepLog, StoresStep}
use Rattle.iova_keep.specs.Stored.{DoesAndStores}
use Rattle.iova_lock.proofs.Storing.{leads_more, stores_more}

-- Single holds.

pub first_closed : (st : Step) (held left : Totals) (r : Reply) (a b : Option StepLog) (s t : State) → r ≢ reply.Refused refusal.RingFull → DoesAndStores (Closing st held left r) a b s t
    → DoesAndStores (CloseFirst st held left (Some r) None) a b s t
first_closed st held left r a b s t other d = record { events = d.events; allowed = closed r d.events other d.allowed; leads = d.leads; stored = d.stored }

pub first_full : (st : Step) (held left : Totals) (r begin : Reply) (a b c : Option StepLog) (s m t : State) → r ≡ reply.Refused refusal.RingFull → DoesAndStores (Closing st held left r) a b s m
    → Takes m step.Begin begin t → StoresStep b step.Begin begin c → DoesAndStores (CloseFirst st held left (Some r) (Some begin)) a c s t
first_full st held left r begin a b c s m t e d h k =
    let closes : Closing st held left (reply.Refused refusal.RingFull) d.events = subst (λ x. Closing st held left x d.events) e d.allowed in
    let does : DoesAndStores (CloseFirst st held left (Some (reply.Refused refusal.RingFull)) (Some begin)) a c s t = record {
      events = d.events ++ Ran step.Begin begin ∷ [];
      allowed = closed_full begin d.events closes;
      leads = leads_more s m t d.events (Ran step.Begin begin ∷ []) d.leads (t, h, refl);
      stored = stores_more a b c d.events (Ran step.Begin begin ∷ []) d.stored (c, k, refl);
    } in
    subst (λ x. DoesAndStores (CloseFirst st held left (Some x) (Some begin)) a c s t) (sym e) does

pub again_closed : (st : Step) (n : ℕ) (ok : Bool) (held left : Totals) (end r : Reply) (a b c : Option StepLog) (s m t : State) → Takes s (step.End n ok) end m → StoresStep a (step.End n ok) end b
    → r ≢ reply.Refused refusal.RingFull → DoesAndStores (Closing st held left r) b c m t → DoesAndStores (CloseAgain st n ok held left (Some r) None) a c s t
again_closed st n ok held left end r a b c s m t h k other d = record {
  events = Ran (step.End n ok) end ∷ d.events;
  allowed = closed_again end r d.events other d.allowed;
  leads = (m, h, d.leads);
  stored = (b, k, d.stored);
}

pub again_none_queued : (st : Step) (n : ℕ) (ok : Bool) (held left : Totals) (end r : Reply) (a b c : Option StepLog) (s m t : State) → Takes s (step.End n ok) end m → StoresStep a (step.End n ok) end b
    → r ≡ reply.Refused refusal.RingFull → left.count ≡ held.count → DoesAndStores (Closing st held left r) b c m t → DoesAndStores (CloseAgain st n ok held left (Some r) None) a c s t
again_none_queued st n ok held left end r a b c s m t h k e none d =
    let closes : Closing st held left (reply.Refused refusal.RingFull) d.events = subst (λ x. Closing st held left x d.events) e d.allowed in
    let does : DoesAndStores (CloseAgain st n ok held left (Some (reply.Refused refusal.RingFull)) None) a c s t = record {
      events = Ran (step.End n ok) end ∷ d.events;
      allowed = full_none_queued end d.events none closes;
      leads = (m, h, d.leads);
      stored = (b, k, d.stored);
    } in
    subst (λ x. DoesAndStores (CloseAgain st n ok held left (Some x) None) a c s t) (sym e) does

pub again_full : (st : Step) (n : ℕ) (ok : Bool) (held left : Totals) (end r begin : Reply) (a b c d : Option StepLog) (s m u t : State) → Takes s (step.End n ok) end m
    → StoresStep a (step.End n ok) end b → r ≡ reply.Refused refusal.RingFull → left.count < held.count → DoesAndStores (Closing st held left r) b c m u → Takes u step.Begin begin t
    → StoresStep c step.Begin begin d → DoesAndStores (CloseAgain st n ok held left (Some r) (Some begin)) a d s t
again_full st n ok held left end r begin a b c d s m u t h k e some closings g j =
    let closes : Closing st held left (reply.Refused refusal.RingFull) closings.events = subst (λ x. Closing st held left x closings.events) e closings.allowed in
    let does : DoesAndStores (CloseAgain st n ok held left (Some (reply.Refused refusal.RingFull)) (Some begin)) a d s t = record {
      events = Ran (step.End n ok) end ∷ (closings.events ++ Ran step.Begin begin ∷ []);
      allowed = full_again end begin closings.events some closes;
      leads = (m, h, leads_more m u t closings.events (Ran step.Begin begin ∷ []) closings.leads (t, g, refl));
      stored = (b, k, stores_more b c d closings.events (Ran step.Begin begin ∷ []) closings.stored (d, j, refl));
    } in
    subst (λ x. DoesAndStores (CloseAgain st n ok held left (Some x) (Some begin)) a d s t) (sym e) does

-- All rings.

pub all_drained : (workers by freed : ℕ) (a b : Option StepLog) (s t : State) → s.workers ≡ workers → by < workers → DoesAndStores (Draining by (rings_from 0 workers) freed) a b s t
    → DoesAndStores (DrainAll s.workers by (Ok freed)) a b s t
all_drained workers by freed a b s t is some d = record {
  events = d.events;
  allowed = subst (λ w. DrainAll w by (Ok freed) d.events) (sym is) (drained freed d.events some d.allowed);
  leads = d.leads;
  stored = d.stored;
}

pub none_drained : (by : ℕ) (a b : Option StepLog) (s t : State) → s.workers ≤ by → Takes s (step.Drain 0 by) (reply.Refused refusal.NoWorker) t
    → StoresStep a (step.Drain 0 by) (reply.Refused refusal.NoWorker) b → DoesAndStores (DrainAll s.workers by (Err refusal.NoWorker)) a b s t
none_drained by a b s t none h k = record {
  events = Ran (step.Drain 0 by) (reply.Refused refusal.NoWorker) ∷ [];
  allowed = no_worker none;
  leads = (t, h, refl);
  stored = (b, k, refl);
}
