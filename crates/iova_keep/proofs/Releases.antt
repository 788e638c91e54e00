-- What the holds of a release do, one after another.
use Rattle.std.proofs.Common.{ℕ, ◌≡◌, ◌≤◌, inl, inr, Bool, true, false, List, [], ◌∷◌, ◌++◌, Option, Some, None, refl, sym, ap, ◌∙◌, subst, append-nil, append_assoc, arith}
use Rattle.std.specs.Prelude.{◌+◌, if◌then◌else◌, Result, Ok, Err}
use Rattle.iova_range.specs.declared.refusal.Refusal.{Refusal}
use Rattle.iova_range.specs.declared.refusal.Refusal.TheVariants as refusal
use Rattle.iova_range.specs.Frames.{Frames}
use Rattle.iova_model.specs.declared.step.Step.{Step}
use Rattle.iova_model.specs.declared.step.Step.TheVariants as step
use Rattle.iova_model.specs.declared.step.Reply.{Reply}
use Rattle.iova_model.specs.declared.step.Reply.TheVariants as reply
use Rattle.iova_model.specs.declared.totals.Totals.{Totals}
use Rattle.iova_model.specs.State.{State}
use Rattle.iova_sink.specs.Calls.{Invalidation, Call, good_calls}
use Rattle.iova_keep.specs.declared.unmapped.Unmapped.{Unmapped}
use Rattle.iova_keep.specs.declared.unmapped.Unmapped.TheVariants as unmapped
use Rattle.iova_keep.specs.Views.{SeatState, WhereKnown, begun_of}
use Rattle.iova_keep.specs.Events.{CallEvent, Ran, Invalidated, sink_calls, Unmapping, run, not_run}
use Rattle.iova_keep.specs.Releases.{ReleaseFirst, no_flush, flush, ReleaseAgain, no_flush_again, flush_again, ReleaseLast, reached, not_reached, AfterQueued, stays, freed, not_freed, ReleaseRest, refused_again, queued_again, refused_first, queued_first, ring_was_full, ReleasesFirst, ReleasesAgain, ReleasesLast, DoesFollow, DoesReleaseRest, DoesRelease}
use Rattle.iova_keep.proofs.Doing.{known_both, known_one}
use Rattle.iova_keep.proofs.Endings.{leads_more, sink_calls-more}

-- No hold calls the sink.

silent : (number : ℕ) {st : Step} {held : Totals} {r : Reply} {es : List CallEvent} → Unmapping st held r es → sink_calls number es ≡ []
silent number (run r) = refl
silent number not_run = refl

then_begin : (number : ℕ) (es : List CallEvent) (b : Reply) → sink_calls number es ≡ [] → sink_calls number (es ++ Ran step.Begin b ∷ []) ≡ []
then_begin number es b e = sink_calls-more number es (Ran step.Begin b ∷ []) ∙ ap (λ cs. cs ++ []) e

first_silent : (number : ℕ) {strict : Bool} {st : Step} {held : Totals} {o b : Option Reply} {es : List CallEvent} → ReleaseFirst strict st held o b es → sink_calls number es ≡ []
first_silent number (no_flush r es none u) = silent number u
first_silent number (flush r b es follows u) = then_begin number es b (silent number u)

again_silent : (number : ℕ) {strict : Bool} {st : Step} {held : Totals} {n : ℕ} {ok : Bool} {o b : Option Reply} {es : List CallEvent} → ReleaseAgain strict st held n ok o b es → sink_calls number es ≡ []
again_silent number (no_flush_again end r es none u) = silent number u
again_silent number (flush_again end r b es strictly u) = then_begin number es b (silent number u)

last_silent : (number : ℕ) {w n : ℕ} {ok : Bool} {finish : ℕ} {result : Bool} {es : List CallEvent} → ReleaseLast w n ok finish result es → sink_calls number es ≡ []
last_silent number (reached end m enough) = refl
last_silent number (not_reached end m short) = refl

-- what a hold that calls no sink leaves of a list of calls
none_called : (number : ℕ) (calls : List Call) (es : List CallEvent) → sink_calls number es ≡ [] → calls ≡ calls ++ sink_calls number es
none_called number calls es quiet = sym (ap (λ cs. calls ++ cs) quiet ∙ append-nil calls)

-- a hold that calls no sink, and then others
quiet_then : (number : ℕ) (es fs : List CallEvent) → sink_calls number es ≡ [] → sink_calls number (es ++ fs) ≡ sink_calls number fs
quiet_then number es fs quiet = sink_calls-more number es fs ∙ ap (λ cs. cs ++ sink_calls number fs) quiet

-- What follows a range that was queued.

pub known_stays : (a : Option State) (w : ℕ) (q : Frames) (number : ℕ) (calls : List Call) → WhereKnown a a (DoesFollow w q None (unmapped.Queued q) number calls calls)
known_stays None w q number calls = tt
known_stays (Some s) w q number calls = record { events = []; allowed = (stays, sym (append-nil calls)); leads = refl }

follows_freed : (seat : SeatState) (q : Frames) (n : ℕ) (ok : Bool) (number : ℕ) (before now : List Call) (s t : State) → now ≡ before ++ Invalidation number n ok ∷ []
    → ReleasesLast seat n ok true s t → DoesFollow seat.worker q (Some n) (unmapped.Freed q) number before now s t
follows_freed seat q n ok number before now s t told d = record {
  events = Invalidated n ok ∷ d.events;
  allowed = (
    freed n ok d.events d.allowed,
    told ∙ ap (λ cs. before ++ Invalidation number n ok ∷ cs) (sym (last_silent number d.allowed)),
  );
  leads = d.leads;
}

follows_not_freed : (seat : SeatState) (q : Frames) (n : ℕ) (ok : Bool) (number : ℕ) (before now : List Call) (s t : State) → now ≡ before ++ Invalidation number n ok ∷ []
    → ReleasesLast seat n ok false s t → DoesFollow seat.worker q (Some n) (unmapped.Queued q) number before now s t
follows_not_freed seat q n ok number before now s t told d = record {
  events = Invalidated n ok ∷ d.events;
  allowed = (
    not_freed n ok d.events d.allowed,
    told ∙ ap (λ cs. before ++ Invalidation number n ok ∷ cs) (sym (last_silent number d.allowed)),
  );
  leads = d.leads;
}

pub known_freed : (a c : Option State) (seat : SeatState) (q : Frames) (n : ℕ) (ok result : Bool) (number : ℕ) (before now : List Call) → result ≡ true
    → now ≡ before ++ Invalidation number n ok ∷ [] → WhereKnown a c (ReleasesLast seat n ok result)
    → WhereKnown a c (DoesFollow seat.worker q (Some n) (unmapped.Freed q) number before now)
known_freed a c seat q n ok result number before now is told p =
    known_one a c (ReleasesLast seat n ok true) (DoesFollow seat.worker q (Some n) (unmapped.Freed q) number before now) (rw is at p)
    (λ s t d. follows_freed seat q n ok number before now s t told d)

pub known_not_freed : (a c : Option State) (seat : SeatState) (q : Frames) (n : ℕ) (ok result : Bool) (number : ℕ) (before now : List Call) → result ≡ false
    → now ≡ before ++ Invalidation number n ok ∷ [] → WhereKnown a c (ReleasesLast seat n ok result)
    → WhereKnown a c (DoesFollow seat.worker q (Some n) (unmapped.Queued q) number before now)
known_not_freed a c seat q n ok result number before now is told p =
    known_one a c (ReleasesLast seat n ok false) (DoesFollow seat.worker q (Some n) (unmapped.Queued q) number before now) (rw is at p)
    (λ s t d. follows_not_freed seat q n ok number before now s t told d)

-- After a full ring.

rest_refused : (strict : Bool) (seat : SeatState) (id lo n : ℕ) (ok : Bool) (e : Refusal) (b : Option Reply) (number : ℕ) (before now : List Call) (s t : State)
    → now ≡ before ++ Invalidation number n ok ∷ [] → ReleasesAgain strict seat id lo n ok (Some (reply.Refused e)) b s t
    → DoesReleaseRest strict seat id lo n (Err e) number before now s t
rest_refused strict seat id lo n ok e b number before now s t told d = record {
  events = Invalidated n ok ∷ d.events;
  allowed = (
    refused_again ok e b d.events d.allowed,
    told ∙ ap (λ cs. before ++ Invalidation number n ok ∷ cs) (sym (again_silent number d.allowed)),
  );
  leads = d.leads;
}

pub known_rest_refused : (a c : Option State) (strict : Bool) (seat : SeatState) (id lo n : ℕ) (ok : Bool) (e : Refusal) (o b : Option Reply) (number : ℕ) (before now : List Call)
    → o ≡ Some (reply.Refused e) → now ≡ before ++ Invalidation number n ok ∷ [] → WhereKnown a c (ReleasesAgain strict seat id lo n ok o b)
    → WhereKnown a c (DoesReleaseRest strict seat id lo n (Err e) number before now)
known_rest_refused a c strict seat id lo n ok e o b number before now is told p =
    known_one a c (ReleasesAgain strict seat id lo n ok (Some (reply.Refused e)) b) (DoesReleaseRest strict seat id lo n (Err e) number before now) (rw is at p)
    (λ s t d. rest_refused strict seat id lo n ok e b number before now s t told d)

rest_queued : (strict : Bool) (seat : SeatState) (w id lo n : ℕ) (ok : Bool) (q : Frames) (b : Option Reply) (u : Unmapped) (number : ℕ) (before mid now : List Call) (s m t : State)
    → mid ≡ before ++ Invalidation number n ok ∷ [] → w ≡ seat.worker → ReleasesAgain strict seat id lo n ok (Some (reply.Queued q)) b s m
    → DoesFollow w q (begun_of b) u number mid now m t → DoesReleaseRest strict seat id lo n (Ok u) number before now s t
rest_queued strict seat w id lo n ok q b u number before mid now s m t told same d k =
    let es = d.events in let fs = k.events in
    let after : AfterQueued seat.worker t.flushes.finish q (begun_of b) u fs = subst (λ x. AfterQueued x t.flushes.finish q (begun_of b) u fs) same k.allowed.0 in
    let c : Call = Invalidation number n ok in
    let calls : now ≡ before ++ c ∷ sink_calls number (es ++ fs) =
    k.allowed.1 ∙ (ap (λ cs. cs ++ sink_calls number fs) told ∙ (append_assoc before (c ∷ []) (sink_calls number fs)
    ∙ ap (λ cs. before ++ c ∷ cs) (sym (quiet_then number es fs (again_silent number d.allowed))))) in
    record {
      events = Invalidated n ok ∷ (es ++ fs);
      allowed = (queued_again ok q b u es fs d.allowed after, calls);
      leads = leads_more s m t es fs d.leads k.leads;
    }

pub known_rest_queued : (a c e : Option State) (strict : Bool) (seat : SeatState) (w id lo n : ℕ) (ok : Bool) (q : Frames) (o b : Option Reply) (u : Unmapped) (number : ℕ) (before mid now : List Call)
    → o ≡ Some (reply.Queued q) → mid ≡ before ++ Invalidation number n ok ∷ [] → w ≡ seat.worker → WhereKnown a c (ReleasesAgain strict seat id lo n ok o b)
    → WhereKnown c e (DoesFollow w q (begun_of b) u number mid now) → WhereKnown a e (DoesReleaseRest strict seat id lo n (Ok u) number before now)
known_rest_queued a c e strict seat w id lo n ok q o b u number before mid now is told same p k =
    known_both a c e (ReleasesAgain strict seat id lo n ok (Some (reply.Queued q)) b) (DoesFollow w q (begun_of b) u number mid now) (DoesReleaseRest strict seat id lo n (Ok u) number before now)
    (rw is at p) k (λ s m t x y. rest_queued strict seat w id lo n ok q b u number before mid now s m t told same x y)

-- The whole call.

release_refused : (strict : Bool) (seat : SeatState) (id lo : ℕ) (e : Refusal) (b : Option Reply) (number : ℕ) (calls : List Call) (s t : State) → begun_of b ≡ None
    → ReleasesFirst strict seat id lo (Some (reply.Refused e)) b s t → DoesRelease strict seat id lo (Err e) number calls calls s t
release_refused strict seat id lo e b number calls s t none d = record {
  events = d.events;
  allowed = (refused_first e b d.events d.allowed none, none_called number calls d.events (first_silent number d.allowed));
  leads = d.leads;
}

pub known_release_refused : (a c : Option State) (strict : Bool) (seat : SeatState) (id lo : ℕ) (e : Refusal) (o b : Option Reply) (number : ℕ) (calls : List Call) → o ≡ Some (reply.Refused e)
    → begun_of b ≡ None → WhereKnown a c (ReleasesFirst strict seat id lo o b) → WhereKnown a c (DoesRelease strict seat id lo (Err e) number calls calls)
known_release_refused a c strict seat id lo e o b number calls is none p =
    known_one a c (ReleasesFirst strict seat id lo (Some (reply.Refused e)) b) (DoesRelease strict seat id lo (Err e) number calls calls) (rw is at p)
    (λ s t d. release_refused strict seat id lo e b number calls s t none d)

release_queued : (strict : Bool) (seat : SeatState) (w id lo : ℕ) (q : Frames) (b : Option Reply) (u : Unmapped) (number : ℕ) (before now : List Call) (s m t : State) → w ≡ seat.worker
    → ReleasesFirst strict seat id lo (Some (reply.Queued q)) b s m → DoesFollow w q (begun_of b) u number before now m t → DoesRelease strict seat id lo (Ok u) number before now s t
release_queued strict seat w id lo q b u number before now s m t same d k =
    let es = d.events in let fs = k.events in
    let after : AfterQueued seat.worker t.flushes.finish q (begun_of b) u fs = subst (λ x. AfterQueued x t.flushes.finish q (begun_of b) u fs) same k.allowed.0 in
    record {
      events = es ++ fs;
      allowed = (queued_first q b u es fs d.allowed after, k.allowed.1 ∙ ap (λ cs. before ++ cs) (sym (quiet_then number es fs (first_silent number d.allowed))));
      leads = leads_more s m t es fs d.leads k.leads;
    }

pub known_release_queued : (a c e : Option State) (strict : Bool) (seat : SeatState) (w id lo : ℕ) (q : Frames) (o b : Option Reply) (u : Unmapped) (number : ℕ) (before now : List Call)
    → o ≡ Some (reply.Queued q) → w ≡ seat.worker → WhereKnown a c (ReleasesFirst strict seat id lo o b) → WhereKnown c e (DoesFollow w q (begun_of b) u number before now)
    → WhereKnown a e (DoesRelease strict seat id lo (Ok u) number before now)
known_release_queued a c e strict seat w id lo q o b u number before now is same p k =
    known_both a c e (ReleasesFirst strict seat id lo (Some (reply.Queued q)) b) (DoesFollow w q (begun_of b) u number before now) (DoesRelease strict seat id lo (Ok u) number before now)
    (rw is at p) k (λ s m t x y. release_queued strict seat w id lo q b u number before now s m t same x y)

-- a first hold that was refused, and in which a flush began, was at a full ring
full_ring : {strict : Bool} {st : Step} {held : Totals} {o b : Option Reply} {es : List CallEvent} (e : Refusal) (n : ℕ) → ReleaseFirst strict st held o b es → o ≡ Some (reply.Refused e)
    → begun_of b ≡ Some n → o ≡ Some (reply.Refused refusal.RingFull)
full_ring e n (no_flush r es none u) is begun = absurd cc
full_ring e n (flush r b es (inl full) u) is begun = ap Some full
full_ring e n (flush r b es (inr strictly) u) is begun = let queued = strictly.1.1 in absurd cc

release_rest : (strict : Bool) (seat next : SeatState) (id lo n : ℕ) (e : Refusal) (b : Option Reply) (result : Result Unmapped Refusal) (number : ℕ) (before now : List Call) (s m t : State)
    → begun_of b ≡ Some n → next.worker ≡ seat.worker → next.held ≡ seat.held → ReleasesFirst strict seat id lo (Some (reply.Refused e)) b s m
    → DoesReleaseRest strict next id lo n result number before now m t → DoesRelease strict seat id lo result number before now s t
release_rest strict seat next id lo n e b result number before now s m t begun same held d k =
    let es = d.events in let fs = k.events in
    let st = step.Unmap seat.worker id lo in
    let first : ReleaseFirst strict st seat.held (Some (reply.Refused refusal.RingFull)) b es =
    subst (λ x. ReleaseFirst strict st seat.held x b es) (full_ring e n d.allowed refl begun) d.allowed in
    let rest : ReleaseRest strict st seat.held seat.worker t.flushes.finish n result fs =
    subst (λ x. ReleaseRest strict st x seat.worker t.flushes.finish n result fs) held
    (subst (λ x. ReleaseRest strict (step.Unmap x id lo) next.held x t.flushes.finish n result fs) same k.allowed.0) in
    record {
      events = es ++ fs;
      allowed = (ring_was_full n b result es fs first begun rest, k.allowed.1 ∙ ap (λ cs. before ++ cs) (sym (quiet_then number es fs (first_silent number d.allowed))));
      leads = leads_more s m t es fs d.leads k.leads;
    }

pub known_release_rest : (a c f : Option State) (strict : Bool) (seat next : SeatState) (id lo n : ℕ) (e : Refusal) (o b : Option Reply) (result : Result Unmapped Refusal) (number : ℕ) (before now : List Call)
    → o ≡ Some (reply.Refused e) → begun_of b ≡ Some n → next.worker ≡ seat.worker → next.held ≡ seat.held → WhereKnown a c (ReleasesFirst strict seat id lo o b)
    → WhereKnown c f (DoesReleaseRest strict next id lo n result number before now) → WhereKnown a f (DoesRelease strict seat id lo result number before now)
known_release_rest a c f strict seat next id lo n e o b result number before now is begun same held p k =
    known_both a c f (ReleasesFirst strict seat id lo (Some (reply.Refused e)) b) (DoesReleaseRest strict next id lo n result number before now)
    (DoesRelease strict seat id lo result number before now) (rw is at p) k
    (λ s m t x y. release_rest strict seat next id lo n e b result number before now s m t begun same held x y)
