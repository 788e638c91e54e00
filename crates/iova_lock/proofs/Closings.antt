-- Closings, one after another.
use Rattle.std.proofs.Common.{ℕ, ◌≡◌, ◌≢◌, ◌⊎◌, inl, inr, ◌+◌, List, [], ◌∷◌, ◌++◌, Option, Some, length, refl, sym, ap, subst, arith, length-append}
use Rattle.std.specs.Prelude.{sum_by}
use Rattle.std.proofs.lemmas.List.Sums.{sum_by-append}
use Rattle.iova_range.specs.declared.refusal.Refusal.TheVariants as refusal
use Rattle.iova_range.specs.Frames.{Frames}
use Rattle.iova_model.specs.declared.step.Step.{Step}
use Rattle.iova_model.specs.declared.step.Step.TheVariants as step
use Rattle.iova_model.specs.declared.step.Reply.{Reply}
use Rattle.iova_model.specs.declared.step.Reply.TheVariants as reply
use Rattle.iova_model.specs.declared.totals.Totals.{Totals}
use Rattle.iova_model.specs.Clients.{totals_of}
use Rattle.iova_model.specs.State.{State}
use Rattle.iova_model.specs.Effects.{add_totals, MovesTotals, IsReplyTo}
use Rattle.iova_keep.specs.Steps.{Takes}
use Rattle.iova_keep.specs.Views.{IsLowered, IsCloseHeard}
use Rattle.iova_keep.specs.Events.{CallEvent, Ran, Leads, Unmapping, run, not_run, Closing, stops, queues}
use Rattle.iova_keep.specs.StepLogs.{StepLog, StoresStep}
use Rattle.iova_keep.specs.Stored.{StoresEvents, DoesAndStores}
use Rattle.iova_lock.proofs.Storing.{step_stored}

-- Closings so far: ranges were queued, and whatever run of closings follows, they and it are one.
pub record ClosesSoFar (st : Step) (held now : Totals) (a b : Option StepLog) (s t : State) : Type 0 where
  pub ranges : List Frames
  pub shares : IsLowered ranges held now
  pub goes_on : (left : Totals) (r : Reply) (c : Option StepLog) (u : State) → DoesAndStores (Closing st now left r) b c t u → DoesAndStores (Closing st held left r) a c s u

-- totals of two lists
add_up : (held now left : Totals) (qs rs : List Frames) → IsLowered qs held now → IsLowered rs now left → IsLowered (qs ++ rs) held left
add_up held now left qs rs e f =
    let count : held.count ≡ left.count + length (qs ++ rs) =
    let a = ap (λ (t : Totals). t.count) e in let b = ap (λ (t : Totals). t.count) f in omega (arith, a, b, length-append qs rs) in
    let frames : held.frames ≡ left.frames + sum_by (λ (r : Frames). r.len) (qs ++ rs) =
    let a = ap (λ (t : Totals). t.frames) e in let b = ap (λ (t : Totals). t.frames) f in omega (arith, a, b, sum_by-append (λ (r : Frames). r.len) qs rs) in
    let sum_lo : held.sum_lo ≡ left.sum_lo + sum_by (λ (r : Frames). r.lo) (qs ++ rs) =
    let a = ap (λ (t : Totals). t.sum_lo) e in let b = ap (λ (t : Totals). t.sum_lo) f in omega (arith, a, b, sum_by-append (λ (r : Frames). r.lo) qs rs) in
    λ i. record { count = count i; frames = frames i; sum_lo = sum_lo i }

pub none_more : (held : Totals) → IsLowered [] held held
none_more held =
    let count : held.count ≡ held.count + 0 = omega arith in
    let frames : held.frames ≡ held.frames + 0 = omega arith in
    let sum_lo : held.sum_lo ≡ held.sum_lo + 0 = omega arith in
    λ i. record { count = count i; frames = frames i; sum_lo = sum_lo i }

pub none_yet : (st : Step) (held : Totals) (a : Option StepLog) (s : State) → ClosesSoFar st held held a a s s
none_yet st held a s = record { ranges = []; shares = none_more held; goes_on = λ left r c u d. d }

-- one range in front of a run
in_front : (st : Step) (held mid left : Totals) (q : Frames) (r : Reply) (a b c : Option StepLog) (s m u : State) {o : Reply} {es : List CallEvent} → Unmapping st held o es → o ≡ reply.Queued q → Leads s es m
    → StoresEvents a es b → held ≡ add_totals mid (totals_of (q ∷ [])) → DoesAndStores (Closing st mid left r) b c m u → DoesAndStores (Closing st held left r) a c s u
in_front st held mid left q r a b c s m u (run o) e l stored moved d =
    let here : Takes s st (reply.Queued q) m = subst (λ x. Takes s st x m) e (subst (λ x. Takes s st o x) (sym l.2) l.1) in
    let first : StoresStep a st (reply.Queued q) b = subst (λ x. StoresStep a st x b) e (step_stored a stored.0 b st o stored.1 stored.2) in
    record {
      events = Ran st (reply.Queued q) ∷ d.events;
      allowed = queues held mid left q r d.events moved d.allowed;
      leads = (m, here, d.leads);
      stored = (b, first, d.stored);
    }
in_front st held mid left q r a b c s m u not_run e l stored moved d = absurd cc

pub one_more : (st : Step) (held now next : Totals) (q : Frames) (o : Reply) (a b c : Option StepLog) (s m t : State) → ClosesSoFar st held now a b s m → o ≡ reply.Queued q
    → DoesAndStores (Unmapping st now o) b c m t → now ≡ add_totals next (totals_of (q ∷ [])) → ClosesSoFar st held next a c s t
one_more st held now next q o a b c s m t so_far e d moved = record {
  ranges = so_far.ranges ++ q ∷ [];
  shares = add_up held now next so_far.ranges (q ∷ []) so_far.shares moved;
  goes_on = λ left r x u k. so_far.goes_on left r x u (in_front st now next left q r b c x m t u d.allowed e d.leads d.stored moved k);
}

pub last_closing : (st : Step) (held now left : Totals) (o : Reply) (a b c : Option StepLog) (s m t : State) → ClosesSoFar st held now a b s m → ((q : Frames) → o ≢ reply.Queued q)
    → DoesAndStores (Unmapping st now o) b c m t → left ≡ now → DoesAndStores (Closing st held left o) a c s t
last_closing st held now left o a b c s m t so_far other d same =
    so_far.goes_on left o c t (record { events = d.events; allowed = stops now left o d.events same other d.allowed; leads = d.leads; stored = d.stored })

pub lowered_so_far : (st : Step) (held now left : Totals) (a b : Option StepLog) (s m : State) → ClosesSoFar st held now a b s m → left ≡ now → (ranges : List Frames) × IsLowered ranges held left
lowered_so_far st held now left a b s m c same = (c.ranges, subst (λ (l : Totals). IsLowered c.ranges held l) (sym same) c.shares)

-- a step that queues none leaves the shares
pub settled : (w id : ℕ) (o : Reply) (now left : Totals) → (o ≡ reply.Refused refusal.NotHeld) ⊎ IsReplyTo (step.CloseOne w id) o → ((q : Frames) → o ≢ reply.Queued q) → MovesTotals o now left → left ≡ now
settled w id (reply.Queued q) now left kind other moved = absurd (other q refl)
settled w id (reply.Given q) now left (inl e) other moved = absurd cc
settled w id (reply.Given q) now left (inr k) other moved = absurd k
settled w id o now left kind other moved = moved

-- and is heard as what ends a run
pub heard_so : (w id : ℕ) (o : Reply) → (o ≡ reply.Refused refusal.NotHeld) ⊎ IsReplyTo (step.CloseOne w id) o → o ≢ reply.Refused refusal.NoWorker → ((q : Frames) → o ≢ reply.Queued q)
    → IsCloseHeard (Some o)
heard_so w id o (inl e) known other = rw e (inr (inl refl))
heard_so w id (reply.Queued q) (inr k) known other = absurd (other q refl)
heard_so w id reply.Empty (inr k) known other = tt
heard_so w id (reply.Refused e) (inr (inl none)) known other = absurd (known (ap (λ x. reply.Refused x) none))
heard_so w id (reply.Refused e) (inr (inr (inl none))) known other = inl none
heard_so w id (reply.Refused e) (inr (inr (inr (inl full)))) known other = inr (inr full)
heard_so w id (reply.Refused e) (inr (inr (inr (inr none)))) known other = absurd none
heard_so w id (reply.Reserved r) (inr k) known other = absurd k
heard_so w id (reply.Opened n) (inr k) known other = absurd k
heard_so w id (reply.Given r) (inr k) known other = absurd k
heard_so w id (reply.Begun n) (inr k) known other = absurd k
heard_so w id reply.Ended (inr k) known other = absurd k
heard_so w id (reply.Drained n) (inr k) known other = absurd k
heard_so w id (reply.Marked n) (inr k) known other = absurd k
