-- What the holds of a release do.
use Rattle.std.proofs.Common.{ℕ, ◌≡◌, ◌<◌, ◌≤◌, inl, inr, Bool, true, false, [], ◌∷◌, ◌++◌, Option, Some, None, refl, ap}
use Rattle.iova_model.specs.declared.step.Step.{Step}
use Rattle.iova_model.specs.declared.step.Step.TheVariants as step
use Rattle.iova_model.specs.declared.step.Reply.{Reply}
use Rattle.iova_model.specs.declared.step.Reply.TheVariants as reply
use Rattle.iova_model.specs.declared.totals.Totals.{Totals}
use Rattle.iova_model.specs.State.{State}
use Rattle.iova_model.specs.Effects.{IsReplyTo}
use Rattle.iova_keep.specs.Steps.{Takes}
use Rattle.iova_keep.specs.Views.{IsReleaseBegin, IsSecondBegin}
use Rattle.iova_keep.specs.Events.{Ran, Unmapping}
use Rattle.iova_keep.specs.Releases.{QueuedStrictly, FlushFollows, ReleaseFirst, no_flush, flush, ReleaseAgain, no_flush_again, flush_again, ReleaseLast, reached, not_reached}
use Rattle.iova_keep.specs.StepLogs.{StepLog, StoresStep}
use Rattle.iova_keep.specs.Stored.{DoesAndStores}
use Rattle.iova_lock.proofs.Storing.{leads_more, stores_more}

-- Single holds of a book.

pub first_without : (strict : Bool) (st : Step) (held : Totals) (r : Reply) (a b : Option StepLog) (s t : State) → (FlushFollows strict r → ⊥) → DoesAndStores (Unmapping st held r) a b s t
    → DoesAndStores (ReleaseFirst strict st held (Some r) None) a b s t
first_without strict st held r a b s t none d = record { events = d.events; allowed = no_flush r d.events none d.allowed; leads = d.leads; stored = d.stored }

pub first_with : (strict : Bool) (st : Step) (held : Totals) (r begin : Reply) (a b c : Option StepLog) (s m t : State) → FlushFollows strict r → DoesAndStores (Unmapping st held r) a b s m
    → Takes m step.Begin begin t → StoresStep b step.Begin begin c → DoesAndStores (ReleaseFirst strict st held (Some r) (Some begin)) a c s t
first_with strict st held r begin a b c s m t follows d h k = record {
  events = d.events ++ Ran step.Begin begin ∷ [];
  allowed = flush r begin d.events follows d.allowed;
  leads = leads_more s m t d.events (Ran step.Begin begin ∷ []) d.leads (t, h, refl);
  stored = stores_more a b c d.events (Ran step.Begin begin ∷ []) d.stored (c, k, refl);
}

pub again_without : (strict : Bool) (st : Step) (held : Totals) (n : ℕ) (ok : Bool) (end r : Reply) (a b c : Option StepLog) (s m t : State) → Takes s (step.End n ok) end m
    → StoresStep a (step.End n ok) end b → (QueuedStrictly strict r → ⊥) → DoesAndStores (Unmapping st held r) b c m t
    → DoesAndStores (ReleaseAgain strict st held n ok (Some r) None) a c s t
again_without strict st held n ok end r a b c s m t h k none d = record {
  events = Ran (step.End n ok) end ∷ d.events;
  allowed = no_flush_again end r d.events none d.allowed;
  leads = (m, h, d.leads);
  stored = (b, k, d.stored);
}

pub again_with : (strict : Bool) (st : Step) (held : Totals) (n : ℕ) (ok : Bool) (end r begin : Reply) (a b c d : Option StepLog) (s m u t : State) → Takes s (step.End n ok) end m
    → StoresStep a (step.End n ok) end b → QueuedStrictly strict r → DoesAndStores (Unmapping st held r) b c m u → Takes u step.Begin begin t → StoresStep c step.Begin begin d
    → DoesAndStores (ReleaseAgain strict st held n ok (Some r) (Some begin)) a d s t
again_with strict st held n ok end r begin a b c d s m u t h k strictly unmaps g j = record {
  events = Ran (step.End n ok) end ∷ (unmaps.events ++ Ran step.Begin begin ∷ []);
  allowed = flush_again end r begin unmaps.events strictly unmaps.allowed;
  leads = (m, h, leads_more m u t unmaps.events (Ran step.Begin begin ∷ []) unmaps.leads (t, g, refl));
  stored = (b, k, stores_more b c d unmaps.events (Ran step.Begin begin ∷ []) unmaps.stored (d, j, refl));
}

last_of : (w n : ℕ) (ok : Bool) (end r : Reply) (result : Bool) (a b c : Option StepLog) (s m t : State) → Takes s (step.End n ok) end m → StoresStep a (step.End n ok) end b
    → Takes m (step.Drain w w) r t → StoresStep b (step.Drain w w) r c
    → ReleaseLast w n ok t.flushes.finish result (Ran (step.End n ok) end ∷ Ran (step.Drain w w) r ∷ []) → DoesAndStores (ReleaseLast w n ok t.flushes.finish result) a c s t
last_of w n ok end r result a b c s m t h k g j allowed = record {
  events = Ran (step.End n ok) end ∷ Ran (step.Drain w w) r ∷ [];
  allowed = allowed;
  leads = (m, h, (t, g, refl));
  stored = (b, k, (c, j, refl));
}

pub last_answered : (w n : ℕ) (ok : Bool) (end : Reply) (q : ℕ) (result : Bool) (a b c : Option StepLog) (s m t : State) → Takes s (step.End n ok) end m → StoresStep a (step.End n ok) end b
    → Takes m (step.Drain w w) (reply.Drained q) t → StoresStep b (step.Drain w w) (reply.Drained q) c
    → (result ≡ true → n ≤ t.flushes.finish) → (result ≡ false → t.flushes.finish < n) → DoesAndStores (ReleaseLast w n ok t.flushes.finish result) a c s t
last_answered w n ok end q true a b c s m t h k g j enough short = last_of w n ok end (reply.Drained q) true a b c s m t h k g j (reached end q (enough refl))
last_answered w n ok end q false a b c s m t h k g j enough short = last_of w n ok end (reply.Drained q) false a b c s m t h k g j (not_reached end q (short refl))

-- A flush that began in a hold of a release.

pub release_begun : (strict : Bool) (r b : Reply) → FlushFollows strict r → IsReplyTo step.Begin b → IsReleaseBegin (Some r) (Some b)
release_begun strict r b (inl full) is = (inl (ap Some full), is)
release_begun strict r b (inr queued) is = (inr (queued.1.0, ap Some queued.1.1), is)

pub second_begun : (strict : Bool) (r b : Reply) → QueuedStrictly strict r → IsReplyTo step.Begin b → IsSecondBegin (Some r) (Some b)
second_begun strict r b queued is = ((queued.1.0, ap Some queued.1.1), is)
