-- What the holds of a client's end and of a flusher's round do, one after another.
use Rattle.std.proofs.Common.{ℕ, ◌≡◌, ◌+◌, ◌<◌, ◌≤◌, Bool, true, false, List, [], ◌∷◌, ◌++◌, Option, Some, None, length, refl, sym, ap, ◌∙◌, subst, append-nil, append_assoc, arith}
use Rattle.std.specs.Prelude.{Result, Ok, Err, IfSome, if◌then◌else◌, IsOk}
use Rattle.iova_range.specs.declared.refusal.Refusal.{Refusal}
use Rattle.iova_range.specs.declared.refusal.Refusal.TheVariants as refusal
use Rattle.iova_range.specs.declared.stat.Stat.{Stat}
use Rattle.iova_range.specs.Frames.{Frames}
use Rattle.iova_model.specs.declared.step.Step.{Step}
use Rattle.iova_model.specs.declared.step.Step.TheVariants as step
use Rattle.iova_model.specs.declared.step.Reply.{Reply}
use Rattle.iova_model.specs.declared.step.Reply.TheVariants as reply
use Rattle.iova_model.specs.declared.totals.Totals.{Totals}
use Rattle.iova_model.specs.State.{State, counts}
use Rattle.iova_model.specs.Laws.{StepsKeepTheDomain}
use Rattle.iova_sink.specs.Calls.{Invalidation, Call, failed_in, failed_calls}
use Rattle.iova_keep.specs.declared.ending.Ending.{Ending}
use Rattle.iova_keep.specs.declared.ending.Ending.TheVariants as ending
use Rattle.iova_keep.specs.declared.ending.Why.TheVariants as why
use Rattle.iova_keep.specs.Steps.{Takes}
use Rattle.iova_keep.specs.Views.{SeatState, WhereKnown, IsLowered, LowersTold, Tells, stat_of, left_of}
use Rattle.iova_keep.specs.Events
use Rattle.iova_keep.specs.Events.{CallEvent, Ran, NotRun, Invalidated, Leads, sink_calls, Unmapping, run, not_run, Closing, stops, queues, CloseFirst, closed, closed_full, CloseAgain, closed_again, full_none_queued, full_again, CloseRest, last, another, Answered, in_one_hold, in_more, Draining, drains, none_left, DrainAll, drained, no_worker, idle, not_flushed, flushed_and_drained}
use Rattle.iova_keep.specs.Answers.{ClosesFirst, ClosesAgain, Leaves, DoesRest, DoesEndClient, DoesFlush, DrainsAll, DoesTimeout}
use Rattle.iova_keep.proofs.Doing.{known_both, known_one}

pub leads_more : (s m t : State) (es fs : List CallEvent) → Leads s es m → Leads m fs t → Leads s (es ++ fs) t
leads_more s m t [] fs l d = subst (λ x. Leads x fs t) l d
leads_more s m t (Ran st r ∷ es) fs l d = let rest = l.2 in (l.0, l.1, leads_more l.0 m t es fs rest d)
leads_more s m t (NotRun st held ∷ es) fs l d = (l.0, leads_more s m t es fs l.1 d)
leads_more s m t (Invalidated n ok ∷ es) fs l d = leads_more s m t es fs l d

pub sink_calls-more : (number : ℕ) (es fs : List CallEvent) → sink_calls number (es ++ fs) ≡ sink_calls number es ++ sink_calls number fs
sink_calls-more number [] fs = refl
sink_calls-more number (Ran st r ∷ es) fs = sink_calls-more number es fs
sink_calls-more number (NotRun st held ∷ es) fs = sink_calls-more number es fs
sink_calls-more number (Invalidated n ok ∷ es) fs = ap (λ cs. Invalidation number n ok ∷ cs) (sink_calls-more number es fs)

-- No hold calls the sink.

silent : (number : ℕ) {st : Step} {held : Totals} {r : Reply} {es : List CallEvent} → Unmapping st held r es → sink_calls number es ≡ []
silent number (run r) = refl
silent number not_run = refl

closing_silent : (number : ℕ) {st : Step} {held left : Totals} {r : Reply} {es : List CallEvent} → Closing st held left r es → sink_calls number es ≡ []
closing_silent number (stops held left r es same other u) = silent number u
closing_silent number (queues held mid left q r es moved c) = closing_silent number c

then_begin_silent : (number : ℕ) (es : List CallEvent) (b : Reply) → sink_calls number es ≡ [] → sink_calls number (es ++ Ran step.Begin b ∷ []) ≡ []
then_begin_silent number es b e = sink_calls-more number es (Ran step.Begin b ∷ []) ∙ ap (λ cs. cs ++ []) e

first_silent : (number : ℕ) {st : Step} {held left : Totals} {o b : Option Reply} {es : List CallEvent} → CloseFirst st held left o b es → sink_calls number es ≡ []
first_silent number (closed r es other c) = closing_silent number c
first_silent number (closed_full begin es c) = then_begin_silent number es begin (closing_silent number c)

again_silent : (number : ℕ) {st : Step} {n : ℕ} {ok : Bool} {held left : Totals} {o b : Option Reply} {es : List CallEvent} → CloseAgain st n ok held left o b es → sink_calls number es ≡ []
again_silent number (closed_again end r es other c) = closing_silent number c
again_silent number (full_none_queued end es none c) = closing_silent number c
again_silent number (full_again end begin es some c) = then_begin_silent number es begin (closing_silent number c)

-- All further holds.

call_of : ℕ → ℕ → Bool → Call
call_of number n ok = Invalidation number n ok

rest_last : (seat : SeatState) (left : Totals) (id n : ℕ) (ok : Bool) (o b : Option Reply) (number : ℕ) (before now : List Call) (s t : State)
    → now ≡ before ++ Invalidation number n ok ∷ [] → ClosesAgain seat left id n ok o b s t → DoesRest seat left id n ok o b number before now s t
rest_last seat left id n ok o b number before now s t told d = record {
  events = Invalidated n ok ∷ d.events;
  allowed = (
    last n ok seat.held left o b d.events d.allowed,
    told ∙ ap (λ cs. before ++ Invalidation number n ok ∷ cs) (sym (again_silent number d.allowed)),
  );
  leads = d.leads;
}

pub known_rest_last : (a c : Option State) (seat : SeatState) (left : Totals) (id n : ℕ) (ok : Bool) (o b : Option Reply) (number : ℕ) (before now : List Call)
    → now ≡ before ++ Invalidation number n ok ∷ [] → WhereKnown a c (ClosesAgain seat left id n ok o b) → WhereKnown a c (DoesRest seat left id n ok o b number before now)
known_rest_last a c seat left id n ok o b number before now told p =
    known_one a c (ClosesAgain seat left id n ok o b) (DoesRest seat left id n ok o b number before now) p (λ s t d. rest_last seat left id n ok o b number before now s t told d)

rest_more : (seat next : SeatState) (left : Totals) (id n m : ℕ) (ok well : Bool) (o b : Option Reply) (number : ℕ) (before mid now : List Call) (s u t : State)
    → mid ≡ before ++ Invalidation number n ok ∷ [] → next.worker ≡ seat.worker
    → ClosesAgain seat next.held id n ok (Some (reply.Refused refusal.RingFull)) (Some (reply.Begun m)) s u → DoesRest next left id m well o b number mid now u t
    → DoesRest seat left id n well o b number before now s t
rest_more seat next left id n m ok well o b number before mid now s u t told same d k =
    let es = d.events in let fs = k.events in
    let rest : CloseRest (step.CloseOne seat.worker id) m next.held left well o b fs = subst (λ w. CloseRest (step.CloseOne w id) m next.held left well o b fs) same k.allowed.0 in
    let quiet : sink_calls number (es ++ fs) ≡ sink_calls number fs = sink_calls-more number es fs ∙ ap (λ cs. cs ++ sink_calls number fs) (again_silent number d.allowed) in
    let c : Call = Invalidation number n ok in
    let calls : now ≡ before ++ c ∷ sink_calls number (es ++ fs) =
    k.allowed.1 ∙ (ap (λ cs. cs ++ sink_calls number fs) told ∙ (append_assoc before (c ∷ []) (sink_calls number fs) ∙ ap (λ cs. before ++ c ∷ cs) (sym quiet))) in
    record {
      events = Invalidated n ok ∷ (es ++ fs);
      allowed = (another n m ok well seat.held next.held left o b es fs d.allowed rest, calls);
      leads = leads_more s u t es fs d.leads k.leads;
    }

pub known_rest_more : (a c e : Option State) (seat next : SeatState) (left : Totals) (id n m : ℕ) (ok well : Bool) (ho hb o b : Option Reply) (number : ℕ) (before mid now : List Call)
    → mid ≡ before ++ Invalidation number n ok ∷ [] → next.worker ≡ seat.worker → ho ≡ Some (reply.Refused refusal.RingFull) → hb ≡ Some (reply.Begun m)
    → WhereKnown a c (ClosesAgain seat next.held id n ok ho hb) → WhereKnown c e (DoesRest next left id m well o b number mid now) → WhereKnown a e (DoesRest seat left id n well o b number before now)
known_rest_more a c e seat next left id n m ok well ho hb o b number before mid now told same full begun p q =
    known_both a c e (ClosesAgain seat next.held id n ok (Some (reply.Refused refusal.RingFull)) (Some (reply.Begun m))) (DoesRest next left id m well o b number mid now) (DoesRest seat left id n well o b number before now)
    (rw (full, begun) at p) q (λ s u t x y. rest_more seat next left id n m ok well o b number before mid now s u t told same x y)

-- Ends.

known_and : (a b : Option State) (P Q : State → State → Type 0) → WhereKnown a b P → WhereKnown a b Q → WhereKnown a b (λ s t. P s t × Q s t)
known_and None b P Q p q = tt
known_and (Some s) None P Q p q = absurd p
known_and (Some s) (Some t) P Q p q = (p, q)

end_one : (seat : SeatState) (left : Totals) (id queued remains : ℕ) (o b : Option Reply) (result : Result Ending Refusal) (number : ℕ) (calls : List Call) (s t : State)
    → seat.held.count ≡ left.count + queued → Answered queued remains None o b result → ClosesFirst seat left id o b s t → remains ≡ left_of id t
    → DoesEndClient seat left id result number calls calls s t
end_one seat left id queued remains o b result number calls s t counted answer d is = record {
  events = d.events;
  allowed = (
    in_one_hold queued o b result d.events counted d.allowed (subst (λ n. Answered queued n None o b result) is answer),
    sym (ap (λ cs. calls ++ cs) (first_silent number d.allowed) ∙ append-nil calls),
  );
  leads = d.leads;
}

pub known_end_one : (a c : Option State) (seat : SeatState) (left : Totals) (id queued remains : ℕ) (o b : Option Reply) (result : Result Ending Refusal) (number : ℕ) (calls : List Call)
    → seat.held.count ≡ left.count + queued → Answered queued remains None o b result → WhereKnown a c (ClosesFirst seat left id o b) → WhereKnown a c (Leaves id remains)
    → WhereKnown a c (DoesEndClient seat left id result number calls calls)
known_end_one a c seat left id queued remains o b result number calls counted answer p q =
    known_one a c (λ s t. ClosesFirst seat left id o b s t × Leaves id remains s t) (DoesEndClient seat left id result number calls calls)
    (known_and a c (ClosesFirst seat left id o b) (Leaves id remains) p q) (λ s t x. end_one seat left id queued remains o b result number calls s t counted answer x.0 x.1)

end_more : (seat next : SeatState) (left : Totals) (id queued remains n : ℕ) (ok : Bool) (o b : Option Reply) (result : Result Ending Refusal) (number : ℕ) (before now : List Call) (s u t : State)
    → seat.held.count ≡ left.count + queued → Answered queued remains (Some ok) o b result → next.worker ≡ seat.worker
    → ClosesFirst seat next.held id (Some (reply.Refused refusal.RingFull)) (Some (reply.Begun n)) s u → DoesRest next left id n ok o b number before now u t → remains ≡ left_of id t
    → DoesEndClient seat left id result number before now s t
end_more seat next left id queued remains n ok o b result number before now s u t counted answer same d k is =
    let es = d.events in let fs = k.events in
    let rest : CloseRest (step.CloseOne seat.worker id) n next.held left ok o b fs = subst (λ w. CloseRest (step.CloseOne w id) n next.held left ok o b fs) same k.allowed.0 in
    let quiet : sink_calls number (es ++ fs) ≡ sink_calls number fs = sink_calls-more number es fs ∙ ap (λ cs. cs ++ sink_calls number fs) (first_silent number d.allowed) in
    record {
      events = es ++ fs;
      allowed = (
        in_more queued n ok next.held o b result es fs counted d.allowed rest (subst (λ x. Answered queued x (Some ok) o b result) is answer),
        k.allowed.1 ∙ ap (λ cs. before ++ cs) (sym quiet),
      );
      leads = leads_more s u t es fs d.leads k.leads;
    }

pub known_end_more : (a c e : Option State) (seat next : SeatState) (left : Totals) (id queued remains n : ℕ) (ok : Bool) (ho hb o b : Option Reply) (result : Result Ending Refusal) (number : ℕ) (before now : List Call)
    → seat.held.count ≡ left.count + queued → Answered queued remains (Some ok) o b result → next.worker ≡ seat.worker → ho ≡ Some (reply.Refused refusal.RingFull) → hb ≡ Some (reply.Begun n)
    → WhereKnown a c (ClosesFirst seat next.held id ho hb) → WhereKnown c e (DoesRest next left id n ok o b number before now) → WhereKnown c e (Leaves id remains)
    → WhereKnown a e (DoesEndClient seat left id result number before now)
known_end_more a c e seat next left id queued remains n ok ho hb o b result number before now counted answer same full begun p q leaves =
    known_both a c e (ClosesFirst seat next.held id (Some (reply.Refused refusal.RingFull)) (Some (reply.Begun n))) (λ s t. DoesRest next left id n ok o b number before now s t × Leaves id remains s t)
    (DoesEndClient seat left id result number before now) (rw (full, begun) at p)
    (known_and c e (DoesRest next left id n ok o b number before now) (Leaves id remains) q leaves)
    (λ s u t x y. end_more seat next left id queued remains n ok o b result number before now s u t counted answer same x y.0 y.1)

-- What is answered.

tells_count : (queued remains count : ℕ) (flushed : Option Bool) {o b : Option Reply} {result : Result Ending Refusal} → queued ≡ count → Answered queued remains flushed o b result → Tells result count
tells_count queued remains count flushed e Events.ended = e
tells_count queued remains count flushed e (Events.unknown r known none) = (sym e ∙ none, known)
tells_count queued remains count flushed e (Events.gone r known some) = e
tells_count queued remains count flushed e Events.share = tt
tells_count queued remains count flushed e (Events.sink_failed is) = tt
tells_count queued remains count flushed e (Events.overlap is) = tt
tells_count queued remains count flushed e Events.flights_full = tt
tells_count queued remains count flushed e Events.worn = tt

pub told_lowered : (held left : Totals) (queued remains : ℕ) (flushed : Option Bool) (o b : Option Reply) (result : Result Ending Refusal) → ((ranges : List Frames) × IsLowered ranges held left)
    → held.count ≡ left.count + queued → Answered queued remains flushed o b result → LowersTold result held left
told_lowered held left queued remains flushed o b result lowered counted answer =
    let e = ap (λ (t : Totals). t.count) lowered.1 in
    let same : queued ≡ length lowered.0 = omega (arith, e, counted) in
    (lowered.0, lowered.1, tells_count queued remains (length lowered.0) flushed same answer)

pub failed_sink : (queued remains left : ℕ) (flushed : Option Bool) {o b : Option Reply} {result : Result Ending Refusal} → Answered queued remains flushed o b result
    → result ≡ Ok (ending.Waiting left why.SinkFailed) → flushed ≡ Some false
failed_sink queued remains left flushed Events.ended e = absurd cc
failed_sink queued remains left flushed (Events.unknown r known none) e = absurd cc
failed_sink queued remains left flushed (Events.gone r known some) e = absurd cc
failed_sink queued remains left flushed Events.share e = absurd cc
failed_sink queued remains left flushed (Events.sink_failed is) e = is
failed_sink queued remains left flushed (Events.overlap is) e = absurd cc
failed_sink queued remains left flushed Events.flights_full e = absurd cc
failed_sink queued remains left flushed Events.worn e = absurd cc

-- Failed calls.

pub failed-add : (calls : List Call) (c : Call) → failed_calls (calls ++ c ∷ []) ≡ failed_calls calls + failed_in c
failed-add [] c = omega arith
failed-add (x ∷ xs) c = let h = failed-add xs c in omega (arith, h)

pub failed_once : (number n : ℕ) (ok : Bool) (before now : List Call) → now ≡ before ++ Invalidation number n ok ∷ []
    → failed_calls now ≡ failed_calls before + (if ok then 0 else 1)
failed_once number n ok before now told = ap failed_calls told ∙ failed-add before (Invalidation number n ok)

pub failed_at_most : (number n : ℕ) (ok : Bool) (before now : List Call) → now ≡ before ++ Invalidation number n ok ∷ [] → failed_calls before ≤ failed_calls now
failed_at_most number n ok before now told = let k = failed_once number n ok before now told in omega (arith, k)

pub failed_then : (number n : ℕ) (ok : Bool) (before now : List Call) → now ≡ before ++ Invalidation number n ok ∷ [] → ok ≡ false → failed_calls before < failed_calls now
failed_then number n true before now told e = absurd cc
failed_then number n false before now told e = let k = failed_once number n false before now told in omega (arith, k)

-- Rounds of a flusher.

takes_workers : StepsKeepTheDomain → (s : State) (st : Step) (r : Reply) (t : State) → Takes s st r t → t.workers ≡ s.workers
unfolding Takes
takes_workers kept s st r t h = ap (λ (u : State). u.workers) h.2 ∙ (kept s st h.0).1

leads_workers : StepsKeepTheDomain → (s t : State) (es : List CallEvent) → Leads s es t → t.workers ≡ s.workers
leads_workers kept s t [] l = ap (λ (u : State). u.workers) l
leads_workers kept s t (Ran st r ∷ es) l = leads_workers kept l.0 t es l.2 ∙ takes_workers kept s st r l.0 l.1
leads_workers kept s t (NotRun st held ∷ es) l = leads_workers kept s t es l.1
leads_workers kept s t (Invalidated n ok ∷ es) l = leads_workers kept s t es l

draining_silent : (number : ℕ) {by : ℕ} {rings : List ℕ} {freed : ℕ} {es : List CallEvent} → Draining by rings freed es → sink_calls number es ≡ []
draining_silent number none_left = refl
draining_silent number (drains q rings n more es d) = draining_silent number d

drain_silent : (number : ℕ) {workers by : ℕ} {result : Result ℕ Refusal} {es : List CallEvent} → DrainAll workers by result es → sink_calls number es ≡ []
drain_silent number (drained freed es some d) = draining_silent number d
drain_silent number (no_worker none) = refl

pub known_idle : (a : Option State) (x : Stat) (number : ℕ) (calls : List Call) → IfSome a (λ s. x ≡ stat_of s) → x.ring ≡ 0 → WhereKnown a a (DoesTimeout (Ok 0) number calls calls)
known_idle None x number calls is none = tt
known_idle (Some s) x number calls is none = record {
  events = [];
  allowed = (idle (sym (ap (λ (y : Stat). y.ring) is) ∙ none), sym (append-nil calls));
  leads = refl;
}

some_queued : (s : State) (x : Stat) → x ≡ stat_of s → 1 ≤ x.ring → 1 ≤ (counts s).ring
some_queued s x is some = let e = ap (λ (y : Stat). y.ring) is in omega (arith, e, some)

pub known_not_flushed : (a c : Option State) (x : Stat) (e : Refusal) (number : ℕ) (before now : List Call) → IfSome a (λ s. x ≡ stat_of s) → 1 ≤ x.ring
    → WhereKnown a c (DoesFlush (Err e) number before now) → WhereKnown a c (DoesTimeout (Err e) number before now)
known_not_flushed None c x e number before now is some p = tt
known_not_flushed (Some s) None x e number before now is some p = absurd p
known_not_flushed (Some s) (Some t) x e number before now is some d = record {
  events = d.events;
  allowed = (not_flushed e d.events (some_queued s x is some) d.allowed.0, d.allowed.1);
  leads = d.leads;
}

not_ok : (r : Refusal) → IsOk {T = ℕ} {E = Refusal} (Err r) → ⊥
not_ok r h = let e : false ≡ true = h in absurd cc

timeout_drained : (s m t : State) (n freed number : ℕ) (before now : List Call) → StepsKeepTheDomain → 1 ≤ (counts s).ring → DoesFlush (Ok n) number before now s m → DrainsAll 0 (Ok freed) m t
    → DoesTimeout (Ok freed) number before now s t
timeout_drained s m t n freed number before now kept some d k =
    let es = d.events in let fs = k.events in
    let all : DrainAll s.workers 0 (Ok freed) fs = subst (λ w. DrainAll w 0 (Ok freed) fs) (leads_workers kept s m es d.leads) k.allowed in
    let quiet : sink_calls number (es ++ fs) ≡ sink_calls number es =
    sink_calls-more number es fs ∙ (ap (λ cs. sink_calls number es ++ cs) (drain_silent number k.allowed) ∙ append-nil (sink_calls number es)) in
    record {
      events = es ++ fs;
      allowed = (flushed_and_drained n freed es fs some d.allowed.0 all, d.allowed.1 ∙ ap (λ cs. before ++ cs) (sym quiet));
      leads = leads_more s m t es fs d.leads k.leads;
    }

pub known_drained : (a c e : Option State) (x : Stat) (n : ℕ) (result : Result ℕ Refusal) (number : ℕ) (before now : List Call) → StepsKeepTheDomain → IfSome a (λ s. x ≡ stat_of s) → 1 ≤ x.ring → IsOk result
    → WhereKnown a c (DoesFlush (Ok n) number before now) → WhereKnown c e (DrainsAll 0 result) → WhereKnown a e (DoesTimeout result number before now)
known_drained None c e x n result number before now kept is some good p q = tt
known_drained (Some s) None e x n result number before now kept is some good p q = absurd p
known_drained (Some s) (Some m) None x n result number before now kept is some good p q = absurd q
known_drained (Some s) (Some m) (Some t) x n (Err r) number before now kept is some good p q = absurd (not_ok r good)
known_drained (Some s) (Some m) (Some t) x n (Ok freed) number before now kept is some good p q = timeout_drained s m t n freed number before now kept (some_queued s x is some) p q
