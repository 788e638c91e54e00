-- The end of a client where nobody else holds a range and the sink answers well: it is reported as `Ended`, or there is no such client.
use Rattle.std.proofs.Common.{ℕ, ◌≡◌, ◌+◌, ◌<◌, ◌≤◌, ◌⊎◌, inl, inr, Bool, true, false, List, [], ◌∷◌, ◌++◌, Option, Some, None, refl, sym, ap, ◌∙◌, subst, arith, length-append}
use Rattle.std.specs.Prelude.{Result, length, sum_by}
use Rattle.std.proofs.lemmas.Bool.Decides.{nat_tests}
use Rattle.std.proofs.lemmas.List.Sums.{sum_by-append}
use Rattle.iova_range.specs.declared.limits.TheConstants.{MAX_SERIAL}
use Rattle.iova_range.specs.declared.refusal.Refusal.{Refusal}
use Rattle.iova_range.specs.declared.refusal.Refusal.TheVariants as refusal
use Rattle.iova_range.specs.Frames.{Frames}
use Rattle.iova_model.specs.declared.step.Step.TheVariants as step
use Rattle.iova_model.specs.declared.step.Reply.{Reply}
use Rattle.iova_model.specs.declared.step.Reply.TheVariants as reply
use Rattle.iova_model.specs.declared.totals.Totals.{Totals}
use Rattle.iova_model.specs.Clients.{Client, client_with, client_of, has_id, without_client, totals, all_holdings}
use Rattle.iova_model.specs.State.{State}
use Rattle.iova_model.specs.Valid.{IsValid}
use Rattle.iova_model.specs.Next
use Rattle.iova_model.specs.Effects.{to_queue}
use Rattle.iova_model.specs.Laws.{StepsKeepValidity}
use Rattle.iova_laws.proofs.Finds.{owned}
use Rattle.iova_laws.proofs.Kept.{found_valid}
use Rattle.iova_sink.specs.Calls.{Call, Invalidation, failed_calls}
use Rattle.iova_keep.specs.declared.ending.Ending.{Ending}
use Rattle.iova_keep.specs.Steps.{Takes}
use Rattle.iova_keep.specs.Views.{IsUnknown, SeatState}
use Rattle.iova_keep.specs.Answers.{DoesEndClient}
use Rattle.iova_keep.specs.Events.{CallEvent, Ran, NotRun, Invalidated, Leads, IsShort, sink_calls, run, not_run, Closing, stops, queues, CloseFirst, closed, closed_full, CloseAgain, closed_again, full_none_queued, full_again, CloseRest, last, another, Answered, ended, unknown, gone, share, EndClient, in_one_hold, in_more}
use Rattle.iova_session.specs.Gone.{HasAtLeast}
use Rattle.iova_session.specs.Leaving.{still_waits}
use Rattle.iova_session.proofs.Gone.{takes_valid, leads_split, some_reply}
use Rattle.iova_session.proofs.LoneSteps.{Lone, Full, Left, Says, Flying, Fresh, takes_lone, never_short, begin_lone, end_lone}

-- The calls of the sink.

pub failed_append : (xs ys : List Call) → failed_calls (xs ++ ys) ≡ failed_calls xs + failed_calls ys
failed_append [] ys = omega arith
failed_append (x ∷ xs) ys = let more = failed_append xs ys in omega (arith, more)

calls_append : (number : ℕ) (es fs : List CallEvent) → sink_calls number (es ++ fs) ≡ sink_calls number es ++ sink_calls number fs
calls_append number [] fs = refl
calls_append number (Ran st r ∷ es) fs = calls_append number es fs
calls_append number (NotRun st held ∷ es) fs = calls_append number es fs
calls_append number (Invalidated n ok ∷ es) fs = ap (λ cs. Invalidation number n ok ∷ cs) (calls_append number es fs)

failures_append : (number : ℕ) (es fs : List CallEvent) → failed_calls (sink_calls number (es ++ fs)) ≡ failed_calls (sink_calls number es) + failed_calls (sink_calls number fs)
failures_append number es fs = ap failed_calls (calls_append number es fs) ∙ failed_append (sink_calls number es) (sink_calls number fs)

-- a call among them was good
call_good : (number n : ℕ) (ok : Bool) (es : List CallEvent) → failed_calls (sink_calls number (Invalidated n ok ∷ es)) ≡ 0 → (ok ≡ true) × (failed_calls (sink_calls number es) ≡ 0)
call_good number n true es none = (refl, omega (arith, none))
call_good number n false es none = absurd (omega (arith, none))

-- Holds.

-- what a row of closings says, by its last reply
record Closed (w id : ℕ) (rest : List Client) (left : Totals) (r : Reply) (t : State) : Type 0 where
  valid : IsValid t
  gone : r ≡ reply.Empty → Left rest left MAX_SERIAL t
  full : r ≡ reply.Refused refusal.RingFull → Full w id rest left MAX_SERIAL t
  only : (e : Refusal) → r ≡ reply.Refused e → e ≡ refusal.RingFull

-- what a hold says, by its last reply and that of a flush that begins
record Holds (w id : ℕ) (rest : List Client) (left : Totals) (o b : Option Reply) (t : State) : Type 0 where
  valid : IsValid t
  gone : o ≡ Some reply.Empty → Left rest left MAX_SERIAL t
  full : o ≡ Some (reply.Refused refusal.RingFull) → (n : ℕ) × (b ≡ Some (reply.Begun n)) × Flying w id rest left n t
  only : (e : Refusal) → o ≡ Some (reply.Refused e) → e ≡ refusal.RingFull

same_number : {n m : ℕ} → ◌≡◌ {A = Option Reply} (Some (reply.Begun m)) (Some (reply.Begun n)) → n ≡ m
same_number e = cc

-- closings only lower the shares
closing_lowers : {w id : ℕ} {held left : Totals} {r : Reply} {es : List CallEvent} → Closing (step.CloseOne w id) held left r es → left.count ≤ held.count
closing_lowers (stops held left r es even other u) = let c = ap (λ (x : Totals). x.count) even in omega (arith, c)
closing_lowers (queues held mid left q r es sum k) =
    let c = ap (λ (x : Totals). x.count) sum in
    let more = closing_lowers k in
    omega (arith, c, more)

module _ (law : StepsKeepValidity) (w id : ℕ) (rest : List Client) where
  closing_closes : {held left : Totals} {r : Reply} {es : List CallEvent} (s t : State) → Closing (step.CloseOne w id) held left r es → IsValid s → Lone w id rest held MAX_SERIAL s → Leads s es t
      → Closed w id rest left r t
  closing_closes s t (stops held left r es even other (run q)) valid lone l =
      let says : (q : Reply) → r ≡ q → Says w id rest held MAX_SERIAL s lone.client q l.0 = λ q e. subst (λ (x : Reply). Says w id rest held MAX_SERIAL s lone.client x l.0) e (takes_lone w id rest held MAX_SERIAL s r l.0 lone l.1) in
      let now = takes_valid law s (step.CloseOne w id) r l.0 valid l.1 in
      subst (λ x. Closed w id rest left r x) (sym l.2) (subst (λ (x : Totals). Closed w id rest x r l.0) (sym even) (record {
        valid = now;
        gone = λ e. (says reply.Empty e).1;
        full = λ e. (says (reply.Refused refusal.RingFull) e).1;
        only = λ e is. (says (reply.Refused e) is).0;
      }))
  closing_closes s t (stops held left r es even other not_run) valid lone l = absurd (never_short w id rest held MAX_SERIAL s lone l.0)
  closing_closes s t (queues held mid left q r es sum k) valid lone l =
      let says = takes_lone w id rest held MAX_SERIAL s (reply.Queued q) l.0 lone l.1 in
      let now = takes_valid law s (step.CloseOne w id) (reply.Queued q) l.0 valid l.1 in
      closing_closes l.0 t k now (says mid MAX_SERIAL sum (omega arith)) l.2

  -- after a flush that ended well the ring takes a range at least
  record FreshClosed (held left : Totals) (r : Reply) (t : State) : Type 0 where
    closed : Closed w id rest left r t
    less : r ≡ reply.Refused refusal.RingFull → left.count < held.count

  fresh_closes : {held left : Totals} {r : Reply} {es : List CallEvent} (s t : State) → Closing (step.CloseOne w id) held left r es → IsValid s → Fresh w id rest held s → Leads s es t
      → FreshClosed held left r t
  fresh_closes s t (stops held left r es even other (run q)) valid fresh l =
      let says : (q : Reply) → r ≡ q → Says w id rest held (MAX_SERIAL + 1) s fresh.full.lone.client q l.0 =
      λ q e. subst (λ (x : Reply). Says w id rest held (MAX_SERIAL + 1) s fresh.full.lone.client x l.0) e (takes_lone w id rest held (MAX_SERIAL + 1) s r l.0 fresh.full.lone l.1) in
      let now = takes_valid law s (step.CloseOne w id) r l.0 valid l.1 in
      let some = fresh.full.some in
      record {
        closed = record {
          valid = subst IsValid (sym l.2) now;
          gone = λ e. absurd (let none = ap length (says reply.Empty e).0 in omega (arith, none, some));
          full = λ e. absurd ((says (reply.Refused refusal.RingFull) e).2 fresh.room);
          only = λ e is. (says (reply.Refused e) is).0;
        };
        less = λ e. absurd ((says (reply.Refused refusal.RingFull) e).2 fresh.room);
      }
  fresh_closes s t (stops held left r es even other not_run) valid fresh l = absurd (never_short w id rest held (MAX_SERIAL + 1) s fresh.full.lone l.0)
  fresh_closes s t (queues held mid left q r es sum k) valid fresh l =
      let says = takes_lone w id rest held (MAX_SERIAL + 1) s (reply.Queued q) l.0 fresh.full.lone l.1 in
      let now = takes_valid law s (step.CloseOne w id) (reply.Queued q) l.0 valid l.1 in
      let c = ap (λ (x : Totals). x.count) sum in
      let more = closing_lowers k in
      record {
        closed = closing_closes l.0 t k now (says mid MAX_SERIAL sum (omega arith)) l.2;
        less = λ e. omega (arith, c, more);
      }

  -- where the ring was full, the flush begins
  begun_holds : (left : Totals) (es : List CallEvent) (s t : State) (begin : Reply) → ((m : State) → Leads s es m → Closed w id rest left (reply.Refused refusal.RingFull) m) → Leads s (es ++ Ran step.Begin begin ∷ []) t
      → Holds w id rest left (Some (reply.Refused refusal.RingFull)) (Some begin) t
  begun_holds left es s t begin closes l =
      let h = leads_split es (Ran step.Begin begin ∷ []) s t l in
      let before = closes h.0 h.1 in
      let b = begin_lone w id rest left h.0 begin h.2.0 before.valid (before.full refl) h.2.1 in
      subst (λ x. Holds w id rest left (Some (reply.Refused refusal.RingFull)) (Some begin) x) (sym h.2.2) (record {
        valid = takes_valid law h.0 step.Begin begin h.2.0 before.valid h.2.1;
        gone = λ e. absurd cc;
        full = λ e. (b.0, ap Some b.1, b.2);
        only = λ e is. before.only e (some_reply is);
      })

  closed_holds : {left : Totals} {r : Reply} {t : State} → (r ≡ reply.Refused refusal.RingFull → ⊥) → Closed w id rest left r t → Holds w id rest left (Some r) None t
  closed_holds other c = record {
    valid = c.valid;
    gone = λ e. c.gone (some_reply e);
    full = λ e. absurd (other (some_reply e));
    only = λ e is. c.only e (some_reply is);
  }

  first_holds : {held left : Totals} {o b : Option Reply} {es : List CallEvent} (s t : State) → CloseFirst (step.CloseOne w id) held left o b es → IsValid s → Lone w id rest held MAX_SERIAL s → Leads s es t
      → Holds w id rest left o b t
  first_holds s t (closed r es other k) valid lone l = closed_holds other (closing_closes s t k valid lone l)
  first_holds {left = left} s t (closed_full begin es k) valid lone l = begun_holds left es s t begin (λ m lm. closing_closes s m k valid lone lm) l

  again_holds : {held left : Totals} {n : ℕ} {o b : Option Reply} {es : List CallEvent} (s t : State) → CloseAgain (step.CloseOne w id) n true held left o b es → IsValid s → Flying w id rest held n s → Leads s es t
      → Holds w id rest left o b t
  again_holds {held = held} {n = n} s t (closed_again end r es other k) valid fly l =
      closed_holds other (fresh_closes l.0 t k (takes_valid law s (step.End n true) end l.0 valid l.1) (end_lone w id rest held n s end l.0 fly l.1) l.2).closed
  again_holds {held = held} {n = n} s t (full_none_queued end es even k) valid fly l =
      let h = fresh_closes l.0 t k (takes_valid law s (step.End n true) end l.0 valid l.1) (end_lone w id rest held n s end l.0 fly l.1) l.2 in
      absurd (let less = h.less refl in omega (arith, less, even))
  again_holds {held = held} {left = left} {n = n} s t (full_again end begin es less k) valid fly l =
      begun_holds left es l.0 t begin (λ m lm. (fresh_closes l.0 m k (takes_valid law s (step.End n true) end l.0 valid l.1) (end_lone w id rest held n s end l.0 fly l.1) lm).closed) l.2

  rest_holds : {n : ℕ} {held left : Totals} {ok : Bool} {o b : Option Reply} {es : List CallEvent} (number : ℕ) (s t : State) → CloseRest (step.CloseOne w id) n held left ok o b es → IsValid s → Flying w id rest held n s
      → failed_calls (sink_calls number es) ≡ 0 → Leads s es t → Holds w id rest left o b t
  rest_holds number s t (last n ok held left o b es k) valid fly none l =
      let good = call_good number n ok es none in
      again_holds s t (subst (λ (x : Bool). CloseAgain (step.CloseOne w id) n x held left o b es) good.0 k) valid fly l
  rest_holds number s t (another n m ok well held mid left o b es fs a c) valid fly none l =
      let good = call_good number n ok (es ++ fs) none in
      let both = failures_append number es fs in
      let later : failed_calls (sink_calls number fs) ≡ 0 = (let g = good.1 in omega (arith, both, g)) in
      let split = leads_split es fs s t l in
      let h = again_holds s split.0 (subst (λ (x : Bool). CloseAgain (step.CloseOne w id) n x held mid (Some (reply.Refused refusal.RingFull)) (Some (reply.Begun m)) es) good.0 a) valid fly split.1 in
      let f = h.full refl in
      rest_holds number split.0 t c h.valid (subst (λ (x : ℕ). Flying w id rest mid x split.0) (same_number f.1) f.2) later split.2

  -- what such an end is answered
  record Ends (left : Totals) (result : Result Ending Refusal) (t : State) : Type 0 where
    over : still_waits result ≡ false
    valid : IsValid t
    left_so : Left rest left MAX_SERIAL t

  not_full : (e : Refusal) → IsUnknown e → e ≡ refusal.RingFull → ⊥
  not_full e u full = let both : refusal.NoClient ≡ refusal.RingFull = sym u ∙ full in cc

  answered_ends : {queued remains : ℕ} {left : Totals} {flushed : Option Bool} {o b : Option Reply} {result : Result Ending Refusal} {t : State} → Answered queued remains flushed o b result → Holds w id rest left o b t
      → Ends left result t
  answered_ends ended h = record { over = refl; valid = h.valid; left_so = h.gone refl }
  answered_ends (unknown e u none) h = absurd (not_full e u (h.only e refl))
  answered_ends (gone e u some) h = absurd (not_full e u (h.only e refl))
  answered_ends share h = absurd (let no = h.only refusal.NotHeld refl in cc)
  answered_ends a h = absurd (let no = (h.full refl).1 in cc)

  end_ends : {held left : Totals} {remains : ℕ} {result : Result Ending Refusal} {es : List CallEvent} (number : ℕ) (s t : State) → EndClient (step.CloseOne w id) held left remains result es → IsValid s
      → Lone w id rest held MAX_SERIAL s → failed_calls (sink_calls number es) ≡ 0 → Leads s es t → Ends left result t
  end_ends number s t (in_one_hold queued o b result es sum c a) valid lone none l = answered_ends a (first_holds s t c valid lone l)
  end_ends number s t (in_more queued n ok mid o b result es fs sum c r a) valid lone none l =
      let both = failures_append number es fs in
      let later : failed_calls (sink_calls number fs) ≡ 0 = omega (arith, both, none) in
      let split = leads_split es fs s t l in
      let h = first_holds s split.0 c valid lone split.1 in
      let f = h.full refl in
      answered_ends a (rest_holds number split.0 t r h.valid (subst (λ (x : ℕ). Flying w id rest mid x split.0) (same_number f.1) f.2) later split.2)

-- A client that isn't there.

data IsUnseen : Reply → Type 0 where
  no_worker : IsUnseen (reply.Refused refusal.NoWorker)
  no_client : IsUnseen (reply.Refused refusal.NoClient)

record Unseen (s : State) (r : Reply) (t : State) : Type 0 where
  reply : IsUnseen r
  same : t ≡ s

unseen_of : (s : State) (w id : ℕ) (b : Bool) → Next.no_worker s w ≡ b → client_of w id s.clients ≡ None → Unseen s (Next.close_one s w id).reply (Next.close_one s w id).state
unseen_of s w id true worker none =
    let goes : Next.close_one s w id ≡ Next.refuse_step refusal.NoWorker s = rw worker refl in
    subst (λ (n : Next.Next). Unseen s n.reply n.state) (sym goes) (record { reply = no_worker; same = refl })
unseen_of s w id false worker none =
    let goes : Next.close_one s w id ≡ Next.refuse_step refusal.NoClient s = rw (worker, none) refl in
    subst (λ (n : Next.Next). Unseen s n.reply n.state) (sym goes) (record { reply = no_client; same = refl })

takes_unseen : (s : State) (w id : ℕ) (r : Reply) (t : State) → client_of w id s.clients ≡ None → Takes s (step.CloseOne w id) r t → Unseen s r t
unfolding Takes
takes_unseen s w id r t none h = rw (h.1, h.2) (unseen_of s w id (Next.no_worker s w) refl none)

nothing_to_queue : (s : State) (w id : ℕ) (b : Bool) → Next.no_worker s w ≡ b → client_of w id s.clients ≡ None → to_queue s (step.CloseOne w id) ≡ None
nothing_to_queue s w id true worker none = rw worker refl
nothing_to_queue s w id false worker none = rw (worker, none) refl

unseen_short : (s : State) (w id : ℕ) (held : Totals) → client_of w id s.clients ≡ None → IsShort held (to_queue s (step.CloseOne w id)) → ⊥
unseen_short s w id held none short = let both : None ≡ Some short.0 = sym (nothing_to_queue s w id (Next.no_worker s w) refl none) ∙ short.1 in cc

not_queued : {q : Frames} → IsUnseen (reply.Queued q) → ⊥
not_queued u = elim u [ ]

not_ring : IsUnseen (reply.Refused refusal.RingFull) → ⊥
not_ring u = elim u [ ]

record Unmoved (s : State) (held left : Totals) (r : Reply) (t : State) : Type 0 where
  reply : IsUnseen r
  same : t ≡ s
  shares : left ≡ held

closing_unseen : {w id : ℕ} {held left : Totals} {r : Reply} {es : List CallEvent} (s t : State) → Closing (step.CloseOne w id) held left r es → client_of w id s.clients ≡ None → Leads s es t → Unmoved s held left r t
closing_unseen {w = w} {id = id} s t (stops held left r es even other (run q)) none l =
    let u = takes_unseen s w id r l.0 none l.1 in
    record { reply = u.reply; same = l.2 ∙ u.same; shares = even }
closing_unseen {w = w} {id = id} s t (stops held left r es even other not_run) none l = absurd (unseen_short s w id held none l.0)
closing_unseen {w = w} {id = id} s t (queues held mid left q r es sum k) none l = absurd (not_queued (takes_unseen s w id (reply.Queued q) l.0 none l.1).reply)

record UnmovedHold (s : State) (held left : Totals) (o : Option Reply) (t : State) : Type 0 where
  reply : Reply
  is : o ≡ Some reply
  unseen : IsUnseen reply
  same : t ≡ s
  shares : left ≡ held

first_unseen : {w id : ℕ} {held left : Totals} {o b : Option Reply} {es : List CallEvent} (s t : State) → CloseFirst (step.CloseOne w id) held left o b es → client_of w id s.clients ≡ None → Leads s es t → UnmovedHold s held left o t
first_unseen s t (closed r es other k) none l = let u = closing_unseen s t k none l in record { reply = r; is = refl; unseen = u.reply; same = u.same; shares = u.shares }
first_unseen s t (closed_full begin es k) none l =
    let h = leads_split es (Ran step.Begin begin ∷ []) s t l in
    absurd (not_ring (closing_unseen s h.0 k none h.1).reply)

unseen_some : {r q : Reply} → Some r ≡ Some q → IsUnseen q → IsUnseen r
unseen_some e u = let same : _ ≡ _ = some_reply e in subst IsUnseen (sym same) u

unseen_answered : {queued remains : ℕ} {flushed : Option Bool} {o b : Option Reply} {result : Result Ending Refusal} → Answered queued remains flushed o b result → (r : Reply) → o ≡ Some r → IsUnseen r → still_waits result ≡ false
unseen_answered ended r e u = refl
unseen_answered (unknown x known none) r e u = refl
unseen_answered (gone x known some) r e u = refl
unseen_answered share r e u = absurd (elim (unseen_some e u) [ ])
unseen_answered a r e u = absurd (not_ring (unseen_some e u))

record EndsUnseen (s : State) (held left : Totals) (result : Result Ending Refusal) (t : State) : Type 0 where
  over : still_waits result ≡ false
  same : t ≡ s
  shares : left ≡ held

end_unseen : {w id : ℕ} {held left : Totals} {remains : ℕ} {result : Result Ending Refusal} {es : List CallEvent} (s t : State) → EndClient (step.CloseOne w id) held left remains result es → client_of w id s.clients ≡ None → Leads s es t
    → EndsUnseen s held left result t
end_unseen s t (in_one_hold queued o b result es sum c a) none l =
    let u = first_unseen s t c none l in
    record { over = unseen_answered a u.reply u.is u.unseen; same = u.same; shares = u.shares }
end_unseen s t (in_more queued n ok mid o b result es fs sum c r a) none l =
    let split = leads_split es fs s t l in
    let u = first_unseen s split.0 c none split.1 in
    absurd (not_ring (unseen_some u.is u.unseen))

-- A domain between two ends.

-- the seat has the shares of all that is held, no flush is in flight, and there are numbers for those that may begin
pub record Calm (held : Totals) (s : State) : Type 0 where
  pub valid : IsValid s
  pub shares : HasAtLeast held (totals s.clients)
  pub quiet : s.flushes.in_flight ≡ []
  pub numbers : s.flushes.start + length (all_holdings s.clients) ≤ MAX_SERIAL

-- what all clients hold is what one holds, and what the others do
measured_step : (m : List Frames → ℕ) → ((xs ys : List Frames) → m (xs ++ ys) ≡ m xs + m ys) → (id : ℕ) (c x : Client) (cs : List Client) (b : Bool) → has_id id x ≡ b → client_with id (x ∷ cs) ≡ Some c
    → (client_with id cs ≡ Some c → m (all_holdings cs) ≡ m c.holdings + m (all_holdings (without_client id cs))) → m (all_holdings (x ∷ cs)) ≡ m c.holdings + m (all_holdings (without_client id (x ∷ cs)))
measured_step m adds id c x cs true e found further =
    let here = rw e at found in
    let one : x ≡ c = cc (here) in
    rw e (adds x.holdings (all_holdings cs) ∙ ap (λ (y : Client). m y.holdings + m (all_holdings cs)) one)
measured_step m adds id c x cs false e found further =
    let more = further (rw e at found) in
    let first = adds x.holdings (all_holdings cs) in
    let last = adds x.holdings (all_holdings (without_client id cs)) in
    rw e (omega (arith, more, first, last))

measured : (m : List Frames → ℕ) → ((xs ys : List Frames) → m (xs ++ ys) ≡ m xs + m ys) → (id : ℕ) (c : Client) (cs : List Client) → client_with id cs ≡ Some c
    → m (all_holdings cs) ≡ m c.holdings + m (all_holdings (without_client id cs))
measured m adds id c [] is = absurd cc
measured m adds id c (x ∷ cs) is = measured_step m adds id c x cs (has_id id x) refl is (λ further. measured m adds id c cs further)

calm_lone : (w id : ℕ) (held : Totals) (s : State) (c : Client) → Calm held s → client_of w id s.clients ≡ Some c → Lone w id (without_client id s.clients) held MAX_SERIAL s
calm_lone w id held s c calm is =
    let own = owned w id s.clients c is in
    let known = found_valid s.workers id c s.clients s.serial own.is calm.valid.clients in
    let below = known.worker in
    let mine = own.worker in
    let count = measured length (λ xs ys. length-append xs ys) id c s.clients own.is in
    let frames = measured (sum_by (λ (x : Frames). x.len)) (λ xs ys. sum_by-append (λ (x : Frames). x.len) xs ys) id c s.clients own.is in
    let sum_lo = measured (sum_by (λ (x : Frames). x.lo)) (λ xs ys. sum_by-append (λ (x : Frames). x.lo) xs ys) id c s.clients own.is in
    let h = calm.shares in
    let n = calm.numbers in
    record {
      client = c;
      is = own.is;
      mine = own.worker;
      worker = grind (arith, nat_tests, below, mine);
      others = refl;
      shares = record { count = omega (arith, count, h.count); frames = omega (arith, frames, h.frames); sum_lo = omega (arith, sum_lo, h.sum_lo) };
      quiet = calm.quiet;
      numbers = omega (arith, n, count);
    }

-- What the end of a client leaves.
pub record LoneEnd (w id : ℕ) (left : Totals) (result : Result Ending Refusal) (s t : State) : Type 0 where
  pub over : still_waits result ≡ false
  pub calm : Calm left t
  pub clients : (t.clients ≡ without_client id s.clients) ⊎ ((t ≡ s) × (client_of w id s.clients ≡ None))

module _ (law : StepsKeepValidity) (seat : SeatState) (left : Totals) (id number : ℕ) (result : Result Ending Refusal) (before now : List Call) (s t : State) where
  ends_of : (o : Option Client) → client_of seat.worker id s.clients ≡ o → Calm seat.held s → failed_calls now ≡ failed_calls before → DoesEndClient seat left id result number before now s t
      → LoneEnd seat.worker id left result s t
  ends_of None is calm good d =
      let u = end_unseen s t d.allowed.0 is d.leads in
      record {
        over = u.over;
        calm = subst (λ (x : State). Calm left x) (sym u.same) (subst (λ (x : Totals). Calm x s) (sym u.shares) calm);
        clients = inr (u.same, is);
      }
  ends_of (Some c) is calm good d =
      let sum = ap failed_calls d.allowed.1 ∙ failed_append before (sink_calls number d.events) in
      let none : failed_calls (sink_calls number d.events) ≡ 0 = omega (arith, sum, good) in
      let e = end_ends law seat.worker id (without_client id s.clients) number s t d.allowed.0 calm.valid (calm_lone seat.worker id seat.held s c calm is) none d.leads in
      let l = e.left_so in
      record {
        over = e.over;
        calm = record {
          valid = e.valid;
          shares = subst (λ (cs : List Client). HasAtLeast left (totals cs)) (sym l.clients) l.shares;
          quiet = l.quiet;
          numbers = subst (λ (cs : List Client). t.flushes.start + length (all_holdings cs) ≤ MAX_SERIAL) (sym l.clients) l.numbers;
        };
        clients = inl l.clients;
      }

  pub lone_end : Calm seat.held s → failed_calls now ≡ failed_calls before → DoesEndClient seat left id result number before now s t → LoneEnd seat.worker id left result s t
  lone_end calm good d = ends_of (client_of seat.worker id s.clients) refl calm good d

  -- a client's end only adds calls
  pub end_rises : DoesEndClient seat left id result number before now s t → failed_calls before ≤ failed_calls now
  end_rises d = let sum = ap failed_calls d.allowed.1 ∙ failed_append before (sink_calls number d.events) in omega (arith, sum)
