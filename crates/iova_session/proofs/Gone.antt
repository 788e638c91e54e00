-- A client whose end is reported as `Ended` is gone.
use Rattle.std.proofs.Common.{ℕ, ◌≡◌, ◌+◌, ◌≤◌, Bool, true, false, List, [], ◌∷◌, ◌++◌, Option, Some, None, refl, sym, ap, ◌∙◌, subst, arith}
use Rattle.std.specs.Prelude.{Result, Ok, length, option_and_then, nat_le}
use Rattle.iova_range.specs.declared.limits.TheConstants.{MAX_ENTRIES}
use Rattle.std.proofs.lemmas.Bool.{cond_both}
use Rattle.std.proofs.lemmas.Bool.Decides.{nat_tests}
use Rattle.iova_range.specs.declared.refusal.Refusal.{Refusal}
use Rattle.iova_range.specs.declared.refusal.Refusal.TheVariants as refusal
use Rattle.iova_range.specs.Frames.{Frames}
use Rattle.iova_model.specs.declared.step.Step.{Step}
use Rattle.iova_model.specs.declared.step.Step.TheVariants as step
use Rattle.iova_model.specs.declared.step.Reply.{Reply}
use Rattle.iova_model.specs.declared.step.Reply.TheVariants as reply
use Rattle.iova_model.specs.declared.totals.Totals.{Totals}
use Rattle.iova_model.specs.Clients.{Client, client_with, client_of, if_owned, change_client, without_client, without_holding, with_mark}
use Rattle.iova_model.specs.State.{State}
use Rattle.iova_model.specs.Valid.{IsValid, SerialsRise}
use Rattle.iova_model.specs.Next
use Rattle.iova_model.specs.Laws.{StepsKeepValidity}
use Rattle.iova_model.proofs.Unless.{unless_cases}
use Rattle.iova_laws.proofs.Finds.{owned, changed_found}
use Rattle.iova_keep.specs.declared.ending.Ending.{Ending}
use Rattle.iova_keep.specs.declared.ending.Ending.TheVariants as ending
use Rattle.iova_keep.specs.Steps.{Takes}
use Rattle.iova_keep.specs.Views.{IsUnknown}
use Rattle.iova_keep.specs.Events.{CallEvent, Ran, NotRun, Invalidated, Leads, run, not_run, Closing, stops, queues, CloseFirst, closed, closed_full, CloseAgain, closed_again, full_none_queued, full_again, CloseRest, last, another, Answered, ended, unknown, gone, EndClient, in_one_hold, in_more}

-- what is at most the lower bound is no client's serial
none_below : (id low : ℕ) (clients : List Client) (top : ℕ) → SerialsRise low clients top → id ≤ low → client_with id clients ≡ None
none_below id low [] top rise le = refl
none_below id low (x ∷ cs) top rise le = grind (arith, nat_tests, none_below id x.id cs top rise.1)

-- a client that is forgotten is gone
pub forgotten_is_gone : (id low : ℕ) (clients : List Client) (top : ℕ) → SerialsRise low clients top → client_with id (without_client id clients) ≡ None
forgotten_is_gone id low [] top rise = refl
forgotten_is_gone id low (x ∷ cs) top rise = grind (arith, nat_tests, forgotten_is_gone id x.id cs top rise.1, none_below id x.id cs top rise.1)

-- the worker's client is there
record IsThere (w id : ℕ) (s : State) : Type 0 where
  client : Client
  is : client_with id s.clients ≡ Some client
  mine : client.worker ≡ w
  worker : Next.no_worker s w ≡ false

found_mine : (w : ℕ) (c : Client) → c.worker ≡ w → if_owned w c ≡ Some c
found_mine w c mine = grind (arith, nat_tests)

found_there : (w id : ℕ) (s : State) (there : IsThere w id s) → client_of w id s.clients ≡ Some there.client
found_there w id s there = ap (λ o. option_and_then (if_owned w) o) there.is ∙ found_mine w there.client there.mine

full_is_known : (e : Refusal) → IsUnknown e → ◌≡◌ {A = Reply} (reply.Refused refusal.RingFull) (reply.Refused e) → ⊥
full_is_known e u same = let h = same ∙ ap reply.Refused u in cc

short_is_known : (e : Refusal) → IsUnknown e → ◌≡◌ {A = Reply} (reply.Refused refusal.NotHeld) (reply.Refused e) → ⊥
short_is_known e u same = let h = same ∙ ap reply.Refused u in cc

-- What the reply to a closing says of the client: gone where it is `Empty`, there where a range was queued or the ring is full; and
-- it is known where it was there.
abbrev Says : ℕ → ℕ → State → Reply → State → Type 0
Says w id s reply.Empty t = client_with id t.clients ≡ None
Says w id s (reply.Queued q) t = IsThere w id t
Says w id s (reply.Refused e) t = (e ≡ refusal.RingFull → IsThere w id t) × (IsThere w id s → IsUnknown e → ⊥)
Says w id s r t = Unit {0}

module _ (s : State) (w id : ℕ) (rise : SerialsRise 0 s.clients s.serial) where
  no_worker_says : Next.no_worker s w ≡ true → Says w id s (reply.Refused refusal.NoWorker) s
  no_worker_says b = ((λ e. absurd cc), (λ there u. let both : true ≡ false = sym b ∙ there.worker in cc))

  no_client_says : client_of w id s.clients ≡ None → Says w id s (reply.Refused refusal.NoClient) s
  no_client_says none = ((λ e. absurd cc), (λ there u. let both : None ≡ Some there.client = sym none ∙ found_there w id s there in cc))

  full_says : (t : State) → IsThere w id t → Says w id s (reply.Refused refusal.RingFull) t
  full_says t there = ((λ e. there), (λ was u. full_is_known refusal.RingFull u refl))

  lowest_says : (c : Client) → client_of w id s.clients ≡ Some c → Next.no_worker s w ≡ false → (rs : List Frames)
      → Says w id s (Next.close_lowest rs s w id).reply (Next.close_lowest rs s w id).state
  lowest_says c is worker [] = forgotten_is_gone id 0 s.clients s.serial rise
  lowest_says c is worker (r ∷ rs) =
      let own = owned w id s.clients c is in
      let m = Next.with_clients s (change_client id with_mark s.clients) in
      let d = Next.after_drain m w w in
      let now : client_with id (change_client id with_mark s.clients) ≡ Some (with_mark c) = changed_found id with_mark c s.clients own.is refl in
      cond_both (nat_le MAX_ENTRIES (length (Next.ring_at d w))) (Next.refuse_step refusal.RingFull m) (record { reply = reply.Queued r; state = Next.with_entry d w id r }) (λ n. Says w id s n.reply n.state)
      (λ b. full_says m (record { client = with_mark c; is = now; mine = own.worker; worker = worker }))
      (λ b. record { client = without_holding r.lo (with_mark c); is = changed_found id (without_holding r.lo) (with_mark c) (change_client id with_mark s.clients) now refl; mine = own.worker; worker = worker })

  client_says : (o : Option Client) → client_of w id s.clients ≡ o → Next.no_worker s w ≡ false
      → Says w id s (Next.close_one_of o s w id).reply (Next.close_one_of o s w id).state
  client_says None is worker = no_client_says is
  client_says (Some c) is worker = lowest_says c is worker c.holdings

  close_says : Says w id s (Next.close_one s w id).reply (Next.close_one s w id).state
  close_says =
      cond_both (Next.no_worker s w) (Next.refuse_step refusal.NoWorker s) (Next.close_one_of (client_of w id s.clients) s w id) (λ n. Says w id s n.reply n.state)
      no_worker_says (λ b. client_says (client_of w id s.clients) refl b)

-- Steps in a valid domain.

pub takes_valid : StepsKeepValidity → (s : State) (st : Step) (r : Reply) (t : State) → IsValid s → Takes s st r t → IsValid t
unfolding Takes
takes_valid law s st r t valid h = subst IsValid (sym h.2) (law s st h.0 valid)

takes_says : (s : State) (w id : ℕ) (r : Reply) (t : State) → IsValid s → Takes s (step.CloseOne w id) r t → Says w id s r t
unfolding Takes
takes_says s w id r t valid h = rw (h.1, h.2) (close_says s w id valid.clients.serials)

begin_there : (s : State) (w id : ℕ) (r : Reply) (t : State) → Takes s step.Begin r t → IsThere w id s → IsThere w id t
unfolding Takes
begin_there s w id r t h there =
    rw h.2 (unless_cases (λ n. IsThere w id n.state) s (Next.begin_tests s.flushes) _ (λ e. there) (λ all. record { client = there.client; is = there.is; mine = there.mine; worker = there.worker }))

end_there : (s : State) (w id n : ℕ) (ok : Bool) (r : Reply) (t : State) → Takes s (step.End n ok) r t → IsThere w id s → IsThere w id t
unfolding Takes
end_there s w id n ok r t h there =
    rw h.2 (unless_cases (λ x. IsThere w id x.state) s (Next.end_tests s.flushes n) _ (λ e. there) (λ all. record { client = there.client; is = there.is; mine = there.mine; worker = there.worker }))

-- Holds.

pub leads_split : (es fs : List CallEvent) (s t : State) → Leads s (es ++ fs) t → (mid : State) × Leads s es mid × Leads mid fs t
leads_split [] fs s t l = (s, refl, l)
leads_split (Ran st r ∷ es) fs s t l = let h = leads_split es fs l.0 t l.2 in (h.0, (l.0, l.1, h.1), h.2)
leads_split (NotRun st held ∷ es) fs s t l = let h = leads_split es fs s t l.1 in (h.0, (l.0, h.1), h.2)
leads_split (Invalidated n ok ∷ es) fs s t l = leads_split es fs s t l

-- what a hold of a client's end says of the client, by its last reply
record Hears (w id : ℕ) (s : State) (o : Option Reply) (held left : Totals) (t : State) : Type 0 where
  valid : IsValid t
  gone : o ≡ Some reply.Empty → client_with id t.clients ≡ None
  full : o ≡ Some (reply.Refused refusal.RingFull) → IsThere w id t
  same : (e : Refusal) → IsUnknown e → o ≡ Some (reply.Refused e) → left ≡ held
  known : IsThere w id s → (e : Refusal) → IsUnknown e → o ≡ Some (reply.Refused e) → ⊥

pub some_reply : {a b : Reply} → Some a ≡ Some b → a ≡ b
some_reply e = cc

module _ (law : StepsKeepValidity) (w id : ℕ) where
  closing_hears : {held left : Totals} {r : Reply} {es : List CallEvent} (s t : State) → Closing (step.CloseOne w id) held left r es → IsValid s → Leads s es t → Hears w id s (Some r) held left t
  closing_hears s t (stops held left r es even other (run q)) valid l =
      let there : (q : Reply) → r ≡ q → Says w id s q l.0 = λ q e. subst (λ (x : Reply). Says w id s x l.0) e (takes_says s w id r l.0 valid l.1) in
      let now = takes_valid law s (step.CloseOne w id) r l.0 valid l.1 in
      subst (λ x. Hears w id s (Some r) held left x) (sym l.2) (record {
        valid = now;
        gone = λ e. there reply.Empty (some_reply e);
        full = λ e. (there (reply.Refused refusal.RingFull) (some_reply e)).0 refl;
        same = λ e u is. even;
        known = λ was e u is. (there (reply.Refused e) (some_reply is)).1 was u;
      })
  closing_hears s t (stops held left r es even other not_run) valid l = record {
    valid = subst IsValid (sym l.1) valid;
    gone = λ e. absurd cc;
    full = λ e. absurd cc;
    same = λ e u is. even;
    known = λ was e u is. short_is_known e u (some_reply is);
  }
  closing_hears s t (queues held mid left q r es sum k) valid l =
      let there = takes_says s w id (reply.Queued q) l.0 valid l.1 in
      let rest = closing_hears l.0 t k (takes_valid law s (step.CloseOne w id) (reply.Queued q) l.0 valid l.1) l.2 in
      record {
        valid = rest.valid;
        gone = rest.gone;
        full = rest.full;
        same = λ e u is. absurd (rest.known there e u is);
        known = λ was e u is. rest.known there e u is;
      }

  -- closings, and then a flush begins
  begun_hears : {held left : Totals} {es : List CallEvent} (s t : State) (begin : Reply) → Closing (step.CloseOne w id) held left (reply.Refused refusal.RingFull) es → IsValid s → Leads s (es ++ Ran step.Begin begin ∷ []) t
      → Hears w id s (Some (reply.Refused refusal.RingFull)) held left t
  begun_hears {held = held} {left = left} {es = es} s t begin k valid l =
      let h = leads_split es (Ran step.Begin begin ∷ []) s t l in
      let before = closing_hears s h.0 k valid h.1 in
      subst (λ x. Hears w id s (Some (reply.Refused refusal.RingFull)) held left x) (sym h.2.2) (record {
        valid = takes_valid law h.0 step.Begin begin h.2.0 before.valid h.2.1;
        gone = λ e. absurd cc;
        full = λ e. begin_there h.0 w id begin h.2.0 h.2.1 (before.full refl);
        same = before.same;
        known = before.known;
      })

  first_hears : {held left : Totals} {o b : Option Reply} {es : List CallEvent} (s t : State) → CloseFirst (step.CloseOne w id) held left o b es → IsValid s → Leads s es t → Hears w id s o held left t
  first_hears s t (closed r es other k) valid l = closing_hears s t k valid l
  first_hears s t (closed_full begin es k) valid l = begun_hears s t begin k valid l

  -- a flush ends, and then as before
  ended_hears : {held left : Totals} {o : Option Reply} (n : ℕ) (ok : Bool) (end : Reply) (s m t : State) → Takes s (step.End n ok) end m → Hears w id m o held left t → Hears w id s o held left t
  ended_hears n ok end s m t h rest = record {
    valid = rest.valid;
    gone = rest.gone;
    full = rest.full;
    same = rest.same;
    known = λ was e u is. rest.known (end_there s w id n ok end m h was) e u is;
  }

  again_hears : {held left : Totals} {n : ℕ} {ok : Bool} {o b : Option Reply} {es : List CallEvent} (s t : State) → CloseAgain (step.CloseOne w id) n ok held left o b es → IsValid s → Leads s es t → Hears w id s o held left t
  again_hears {n = n} {ok = ok} s t (closed_again end r es other k) valid l =
      ended_hears n ok end s l.0 t l.1 (closing_hears l.0 t k (takes_valid law s (step.End n ok) end l.0 valid l.1) l.2)
  again_hears {n = n} {ok = ok} s t (full_none_queued end es even k) valid l =
      ended_hears n ok end s l.0 t l.1 (closing_hears l.0 t k (takes_valid law s (step.End n ok) end l.0 valid l.1) l.2)
  again_hears {n = n} {ok = ok} s t (full_again end begin es less k) valid l =
      ended_hears n ok end s l.0 t l.1 (begun_hears l.0 t begin k (takes_valid law s (step.End n ok) end l.0 valid l.1) l.2)

  -- what all further holds say of a client that was there
  record Rests (o : Option Reply) (t : State) : Type 0 where
    gone : o ≡ Some reply.Empty → client_with id t.clients ≡ None
    known : (e : Refusal) → IsUnknown e → o ≡ Some (reply.Refused e) → ⊥

  rest_hears : {n : ℕ} {held left : Totals} {ok : Bool} {o b : Option Reply} {es : List CallEvent} (s t : State) → CloseRest (step.CloseOne w id) n held left ok o b es → IsValid s → IsThere w id s → Leads s es t → Rests o t
  rest_hears s t (last n ok held left o b es k) valid there l = let h = again_hears s t k valid l in record { gone = h.gone; known = h.known there }
  rest_hears s t (another n m ok well held mid left o b es fs a c) valid there l =
      let split = leads_split es fs s t l in
      let h = again_hears s split.0 a valid split.1 in
      rest_hears split.0 t c h.valid (h.full refl) split.2

  answered_gone : {P : Type 0} {queued left q : ℕ} {flushed : Option Bool} {o b : Option Reply} {result : Result Ending Refusal} → result ≡ Ok (ending.Ended q) → Answered queued left flushed o b result
      → (o ≡ Some reply.Empty → P) → ((e : Refusal) → IsUnknown e → 1 ≤ queued → o ≡ Some (reply.Refused e) → ⊥) → P
  answered_gone e ended f g = f refl
  answered_gone e (unknown x known none) f g = absurd cc
  answered_gone e (gone x known some) f g = absurd (g x known some refl)
  answered_gone e a f g = absurd cc

  more_than_none : {held left : Totals} (queued : ℕ) → held.count ≡ left.count + queued → 1 ≤ queued → left ≡ held → ⊥
  more_than_none queued sum some even = let c = ap (λ (x : Totals). x.count) even in omega (arith, sum, some, c)

  pub ended_is_gone : {held left : Totals} {remains q : ℕ} {result : Result Ending Refusal} {es : List CallEvent} (s t : State) → result ≡ Ok (ending.Ended q) → EndClient (step.CloseOne w id) held left remains result es
      → IsValid s → Leads s es t → client_with id t.clients ≡ None
  ended_is_gone s t is (in_one_hold queued o b result es sum c a) valid l =
      let h = first_hears s t c valid l in
      answered_gone is a h.gone (λ e u some same. more_than_none queued sum some (h.same e u same))
  ended_is_gone s t is (in_more queued n ok mid o b result es fs sum c r a) valid l =
      let split = leads_split es fs s t l in
      let h = first_hears s split.0 c valid split.1 in
      let rest = rest_hears split.0 t r h.valid (h.full refl) split.2 in
      answered_gone is a rest.gone (λ e u some same. rest.known e u same)
