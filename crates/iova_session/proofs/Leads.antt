-- How the pairs of a session lead a domain that is known.
use Rattle.std.proofs.Common.{ℕ, ◌≡◌, ◌+◌, inl, inr, List, [], ◌∷◌, ◌++◌, Option, Some, None, refl, sym, ap, ◌∙◌, subst, append-nil}
use Rattle.std.proofs.Math.Logic.{∥∥₁_map}
use Rattle.std.specs.Prelude.{Result, Ok, Err, Bool, true, false}
use Rattle.iova_range.specs.declared.refusal.Refusal.{Refusal}
use Rattle.iova_range.specs.declared.refusal.Refusal.TheVariants as refusal
use Rattle.iova_range.specs.Frames.{Frames}
use Rattle.iova_model.specs.declared.step.Step.{Step}
use Rattle.iova_model.specs.declared.step.Step.TheVariants as step
use Rattle.iova_model.specs.declared.step.Reply.{Reply}
use Rattle.iova_model.specs.declared.step.Reply.TheVariants as reply
use Rattle.iova_model.specs.declared.totals.Totals.{Totals}
use Rattle.iova_model.specs.State.{State}
use Rattle.iova_model.specs.Laws.{RefusalsKeepTheState}
use Rattle.iova_sink.specs.Calls.{Call}
use Rattle.iova_keep.specs.declared.ask.Ask.{Ask}
use Rattle.iova_keep.specs.declared.ask.Ask.TheVariants as ask
use Rattle.iova_keep.specs.declared.ask.Told.{Told}
use Rattle.iova_keep.specs.declared.ask.Told.TheVariants as lock_told
use Rattle.iova_keep.specs.declared.ending.Ending.{Ending}
use Rattle.iova_keep.specs.declared.unmapped.Unmapped.TheVariants as unmapped
use Rattle.iova_keep.specs.Steps.{Takes}
use Rattle.iova_keep.specs.Views.{WhereKnown, SeatState, TallyState}
use Rattle.iova_keep.specs.Events.{CallEvent, Leads, Does, Unmapping, run, not_run, sink_calls}
use Rattle.iova_keep.specs.Releases.{FlushFollows, no_flush, stays, refused_first, queued_first, DoesRelease}
use Rattle.iova_keep.specs.Answers.{Allocs}
use Rattle.iova_keep.specs.Batches.{DoesAsks, StopsAt, Batched, IsReplyTold, IsToldOf, MovesTold, may_do}
use Rattle.iova_proto.specs.declared.answer.Answer.{Answer}
use Rattle.iova_proto.specs.declared.request.Request.{Request}
use Rattle.iova_proto.specs.declared.request.Request.TheVariants as request
use Rattle.iova_session.specs.Pairs.{Pair}
use Rattle.iova_session.specs.Desks.{SessionState, next_client, count_listed, client_after, listed_after, asks_in, answer_of, told_pairs, AreTold}
use Rattle.iova_session.specs.Domains.{FreesRange}
use Rattle.iova_session.specs.declared.leaving.Leaving.{Leaving}
use Rattle.iova_session.specs.Leaving.{Departs}
use Rattle.iova_session.specs.Leading.{Moment, moment, IsSame, alloc_answer, FirstDoes, ClientDoes, PairDoes, MovesSeat, PairsLead, LeadsFrom, GoesOn, EndDoes, SessionLeads}
use Rattle.iova_session.specs.Leaving.{still_waits}
use Rattle.iova_session.specs.Posts.{TellsFitting, kept_if}
use Rattle.iova_session.proofs.Others.{known_both, known_one}
use Rattle.iova_session.proofs.ToldPairs.{told_moves, length0}

-- Pairs, one after another.

pub leads_nowhere : (strict : Bool) (number : ℕ) (client : Option ℕ) (listed : ℕ) (a b : Moment) → b ≡ a → PairsLead strict number client listed [] a b
unfolding PairsLead
leads_nowhere strict number client listed a b e = e

pub leads_once : (strict : Bool) (number : ℕ) (client : Option ℕ) (listed : ℕ) (p : Pair) (a b : Moment)
    → PairDoes strict number client listed p a b → MovesSeat p.answer a.seat b.seat → PairsLead strict number client listed (p ∷ []) a b
unfolding PairsLead
leads_once strict number client listed p a b does moves = (b, does, moves, refl)

pub leads_join : (strict : Bool) (number : ℕ) (client : Option ℕ) (listed : ℕ) (ps qs : List Pair) (a b c : Moment)
    → PairsLead strict number client listed ps a b → PairsLead strict number (client_after client ps) (listed_after listed ps) qs b c
    → PairsLead strict number client listed (ps ++ qs) a c
unfolding PairsLead client_after listed_after
leads_join strict number client listed [] qs a b c h k = subst (λ (x : Moment). PairsLead strict number client listed qs x c) h k
leads_join strict number client listed (p ∷ ps) qs a b c h k =
    (h.0, h.1, h.2, leads_join strict number (next_client client p.answer) (listed + count_listed p.answer) ps qs h.0 b c h.3 k)

-- A session goes on.

pub goes_nowhere : (strict : Bool) (was now : SessionState) (old new : SeatState) (calls : List Call) (a b : Option State)
    → now ≡ was → new ≡ old → WhereKnown a b IsSame → WhereKnown a b (GoesOn strict was now old new calls calls)
goes_nowhere strict was now old new calls a b same seat h =
    known_one a b IsSame (GoesOn strict was now old new calls calls) h
    (λ s t e. (
      [],
      ap (λ (x : SessionState). x.pairs) same ∙ sym (append-nil was.pairs),
      leads_nowhere strict was.number was.client was.listed (moment old calls s) (moment new calls t)
          (λ i. record { seat = seat i; calls = calls; domain = e i }),
    ))

pub same_state : (a : Option State) → WhereKnown a a IsSame
same_state None = tt
same_state (Some s) = refl

-- where the first of two calls changes nothing
same_first : (P : State → State → Type 0) (a m b : Option State) → WhereKnown a m IsSame → WhereKnown m b P → WhereKnown a b P
same_first P a m b h k = known_both a m b IsSame P P h k (λ s x t e p. subst (λ (y : State). P y t) e p)

-- by one pair, without a client and with one
pub first_goes : (strict : Bool) (number : ℕ) (was now : SessionState) (r : Request) (x : Answer) (old new : SeatState) (calls : List Call) (a b : Option State)
    → was.number ≡ number → was.client ≡ None → now.pairs ≡ was.pairs ++ record { request = r; answer = x } ∷ [] → MovesSeat x old new
    → WhereKnown a b (FirstDoes number old.worker r x) → WhereKnown a b (GoesOn strict was now old new calls calls)
first_goes strict number was now r x old new calls a b named none more moves h =
    let p : Pair = record { request = r; answer = x } in
    known_one a b (FirstDoes number old.worker r x) (GoesOn strict was now old new calls calls) h
    (λ s t d. (
      p ∷ [],
      more,
      subst (λ (n : ℕ). PairsLead strict n was.client was.listed (p ∷ []) (moment old calls s) (moment new calls t)) (sym named)
          (subst (λ (c : Option ℕ). PairsLead strict number c was.listed (p ∷ []) (moment old calls s) (moment new calls t)) (sym none)
          (leads_once strict number None was.listed p (moment old calls s) (moment new calls t) (d, refl) moves)),
    ))

client_goes : (strict : Bool) (number id listed : ℕ) (was now : SessionState) (r : Request) (x : Answer) (old new : SeatState) (before calls : List Call) (a b : Option State)
    → was.number ≡ number → was.client ≡ Some id → was.listed ≡ listed → now.pairs ≡ was.pairs ++ record { request = r; answer = x } ∷ [] → MovesSeat x old new
    → WhereKnown a b (ClientDoes strict number old id listed r x before calls) → WhereKnown a b (GoesOn strict was now old new before calls)
client_goes strict number id listed was now r x old new before calls a b named is so more moves h =
    let p : Pair = record { request = r; answer = x } in
    known_one a b (ClientDoes strict number old id listed r x before calls) (GoesOn strict was now old new before calls) h
    (λ s t d. (
      p ∷ [],
      more,
      subst (λ (n : ℕ). PairsLead strict n was.client was.listed (p ∷ []) (moment old before s) (moment new calls t)) (sym named)
          (subst (λ (c : Option ℕ). PairsLead strict number c was.listed (p ∷ []) (moment old before s) (moment new calls t)) (sym is)
          (subst (λ (l : ℕ). PairsLead strict number (Some id) l (p ∷ []) (moment old before s) (moment new calls t)) (sym so)
          (leads_once strict number (Some id) listed p (moment old before s) (moment new calls t) d moves))),
    ))

-- with one, after a hold that changed nothing
pub alone_goes : (strict here : Bool) (number there id listed : ℕ) (was now : SessionState) (r : Request) (x : Answer) (old mid new : SeatState) (before calls : List Call) (o a b : Option State)
    → here ≡ strict → there ≡ number → mid ≡ old → WhereKnown o a IsSame
    → was.number ≡ number → was.client ≡ Some id → was.listed ≡ listed → now.pairs ≡ was.pairs ++ record { request = r; answer = x } ∷ [] → MovesSeat x mid new
    → WhereKnown a b (ClientDoes here there mid id listed r x before calls) → WhereKnown o b (GoesOn strict was now old new before calls)
alone_goes strict here number there id listed was now r x old mid new before calls o a b strictly numbered seat nothing named is so more moves h =
    let does : WhereKnown a b (ClientDoes strict number old id listed r x before calls) =
    subst (λ (v : Bool). WhereKnown a b (ClientDoes v number old id listed r x before calls)) strictly
    (subst (λ (n : ℕ). WhereKnown a b (ClientDoes here n old id listed r x before calls)) numbered
    (subst (λ (y : SeatState). WhereKnown a b (ClientDoes here there y id listed r x before calls)) seat h)) in
    client_goes strict number id listed was now r x old new before calls o b named is so more (subst (λ (y : SeatState). MovesSeat x y new) seat moves)
    (same_first (ClientDoes strict number old id listed r x before calls) o a b nothing does)

-- from its beginning
pub leads_on : (strict now_strict : Bool) (number : ℕ) (was now : SessionState) (first old new : SeatState) (start before calls : List Call) (o a b : Option State)
    → now_strict ≡ strict → was.number ≡ number → (was.client ≡ client_after None was.pairs) × (was.listed ≡ listed_after 0 was.pairs)
    → ∥ WhereKnown o a (LeadsFrom strict number was.pairs first old start before) ∥₁
    → WhereKnown a b (GoesOn now_strict was now old new before calls)
    → ∥ WhereKnown o b (LeadsFrom strict number now.pairs first new start calls) ∥₁
leads_on strict now_strict number was now first old new start before calls o a b same named after h k =
    ∥∥₁_map h (λ g.
    known_both o a b (LeadsFrom strict number was.pairs first old start before) (GoesOn now_strict was now old new before calls) (LeadsFrom strict number now.pairs first new start calls) g k
    (λ s m t x y.
    subst (λ (ps : List Pair). LeadsFrom strict number ps first new start calls s t) (sym y.1)
    (leads_join strict number None 0 was.pairs y.0 (moment first start s) (moment old before m) (moment new calls t) x
    (subst (λ (v : Bool). PairsLead v number (client_after None was.pairs) (listed_after 0 was.pairs) y.0 (moment old before m) (moment new calls t)) same
    (subst (λ (n : ℕ). PairsLead now_strict n (client_after None was.pairs) (listed_after 0 was.pairs) y.0 (moment old before m) (moment new calls t)) named
    (subst (λ (c : Option ℕ). PairsLead now_strict was.number c (listed_after 0 was.pairs) y.0 (moment old before m) (moment new calls t)) after.0
    (subst (λ (l : ℕ). PairsLead now_strict was.number was.client l y.0 (moment old before m) (moment new calls t)) after.1 y.2)))))))

pub leads_yet : (strict : Bool) (number : ℕ) (ps : List Pair) (first old : SeatState) (start before : List Call) (o a : Option State)
    → ps ≡ [] → a ≡ o → old ≡ first → before ≡ start → ∥ WhereKnown o a (LeadsFrom strict number ps first old start before) ∥₁
leads_yet strict number ps first old start before o a none same seat calls =
    ∣ subst (λ (x : Option State). WhereKnown o x (LeadsFrom strict number ps first old start before)) (sym same)
    (known_one o o IsSame (LeadsFrom strict number ps first old start before) (same_state o)
    (λ s t e.
    subst (λ (qs : List Pair). LeadsFrom strict number qs first old start before s t) (sym none)
    (leads_nowhere strict number None 0 (moment first start s) (moment old before t) (λ i. record { seat = seat i; calls = calls i; domain = e i })))) ∣₁

-- What a batch does.

-- a free whose ring is full changes nothing
full_is_same : RefusalsKeepTheState → (s : State) (w id lo : ℕ) (r : Reply) (t : State) → r ≡ reply.Refused refusal.RingFull → Takes s (step.Unmap w id lo) r t → t ≡ s
unfolding Takes
full_is_same law s w id lo r t e h = h.2 ∙ law s (step.Unmap w id lo) h.0 refusal.RingFull (sym h.1 ∙ e)

unmapping_same : RefusalsKeepTheState → (w id lo : ℕ) {held : Totals} {r : Reply} {es : List CallEvent} (s t : State)
    → Unmapping (step.Unmap w id lo) held r es → r ≡ reply.Refused refusal.RingFull → Leads s es t → t ≡ s
unmapping_same law w id lo s t (run r) e l = l.2 ∙ full_is_same law s w id lo r l.0 e l.1
unmapping_same law w id lo s t not_run e l = l.1

stop_same : RefusalsKeepTheState → (w id : ℕ) (asks : List Ask) (held : Totals) (s t : State) → StopsAt w id asks held s t → t ≡ s
stop_same law w id [] held s t h = h
stop_same law w id (ask.Free lo ∷ asks) held s t h = unmapping_same law w id lo s t h.allowed refl h.leads
stop_same law w id (a ∷ asks) held s t h = absurd h

-- a request for frames
alloc_told : (w id frames limit : ℕ) (x : Told) (r : Reply) (s t : State) → IsToldOf (ask.Alloc frames limit) x → IsReplyTold r x
    → Takes s (step.Alloc w id frames limit) r t → (result : Result Frames Refusal) × Allocs w id frames limit result s t × (answer_of x ≡ alloc_answer result)
alloc_told w id frames limit (lock_told.Given q) (reply.Given r) s t of e h =
    (Ok q, subst (λ (f : Frames). Takes s (step.Alloc w id frames limit) (reply.Given f) t) (sym e) h, refl)
alloc_told w id frames limit (lock_told.Given q) r s t of e h = absurd e
alloc_told w id frames limit (lock_told.Refused f) (reply.Refused e) s t of same h =
    (Err f, subst (λ (x : Refusal). Takes s (step.Alloc w id frames limit) (reply.Refused x) t) (sym same) h, refl)
alloc_told w id frames limit (lock_told.Refused f) r s t of e h = absurd e
alloc_told w id frames limit x r s t of e h = absurd of

-- an unmap calls no sink
unmapping_calls : (number : ℕ) {st : Step} {held : Totals} {r : Reply} {es : List CallEvent} → Unmapping st held r es → sink_calls number es ≡ []
unmapping_calls number (run r) = refl
unmapping_calls number not_run = refl

-- no flush follows in a domain that isn't strict, unless the ring is full
not_followed : (r : Reply) → (r ≡ reply.Refused refusal.RingFull → ⊥) → FlushFollows false r → ⊥
not_followed r full (inl e) = full e
not_followed r full (inr strictly) = let h = strictly.0 in cc

not_full : (q : Frames) → ◌≡◌ {A = Reply} (reply.Queued q) (reply.Refused refusal.RingFull) → ⊥
not_full q e = cc

-- an unmap in a domain that isn't strict is a release
queued_release : (number : ℕ) (seat : SeatState) (id lo : ℕ) (q : Frames) (calls : List Call) (s t : State)
    → Does (Unmapping (step.Unmap seat.worker id lo) seat.held (reply.Queued q)) s t → DoesRelease false seat id lo (Ok (unmapped.Queued q)) number calls calls s t
queued_release number seat id lo q calls s t d = record {
  events = d.events ++ [];
  allowed = (
    queued_first q None (unmapped.Queued q) d.events [] (no_flush (reply.Queued q) d.events (not_followed (reply.Queued q) (not_full q)) d.allowed) stays,
    sym (append-nil calls) ∙ ap (λ (more : List Call). calls ++ more) (sym (ap (sink_calls number) (append-nil d.events) ∙ unmapping_calls number d.allowed)),
  );
  leads = subst (λ (es : List CallEvent). Leads s es t) (sym (append-nil d.events)) d.leads;
}

refused_release : (number : ℕ) (seat : SeatState) (id lo : ℕ) (e : Refusal) (calls : List Call) (s t : State)
    → (reply.Refused e ≡ reply.Refused refusal.RingFull → ⊥)
    → Does (Unmapping (step.Unmap seat.worker id lo) seat.held (reply.Refused e)) s t → DoesRelease false seat id lo (Err e) number calls calls s t
refused_release number seat id lo e calls s t full d = record {
  events = d.events;
  allowed = (
    refused_first e None d.events (no_flush (reply.Refused e) d.events (not_followed (reply.Refused e) full) d.allowed) refl,
    sym (append-nil calls) ∙ ap (λ (more : List Call). calls ++ more) (sym (unmapping_calls number d.allowed)),
  );
  leads = d.leads;
}

free_told : (number : ℕ) (seat : SeatState) (id lo : ℕ) (x : Told) (r : Reply) (calls : List Call) (s t : State) → IsToldOf (ask.Free lo) x → IsReplyTold r x
    → (r ≡ reply.Refused refusal.RingFull → ⊥) → Does (Unmapping (step.Unmap seat.worker id lo) seat.held r) s t
    → FreesRange false seat id lo (answer_of x) number calls calls s t
free_told number seat id lo (lock_told.Queued q) (reply.Queued r) calls s t of e full d =
    (Ok (unmapped.Queued q), queued_release number seat id lo q calls s t (subst (λ (f : Frames). Does (Unmapping (step.Unmap seat.worker id lo) seat.held (reply.Queued f)) s t) (sym e) d), refl)
free_told number seat id lo (lock_told.Queued q) r calls s t of e full d = absurd e
free_told number seat id lo (lock_told.Refused f) (reply.Refused e) calls s t of same full d = (
  Err f,
  refused_release number seat id lo f calls s t (λ h. full (ap reply.Refused (sym same) ∙ h))
      (subst (λ (x : Refusal). Does (Unmapping (step.Unmap seat.worker id lo) seat.held (reply.Refused x)) s t) (sym same) d),
  refl,
)
free_told number seat id lo (lock_told.Refused f) r calls s t of e full d = absurd e
free_told number seat id lo x r calls s t of e full d = absurd of

told_stays : (id : ℕ) (x : Told) → next_client (Some id) (answer_of x) ≡ Some id
told_stays id (lock_told.Given q) = refl
told_stays id x = refl

-- the seat of worker w with this tally, which has `held`
abbrev seat_with : ℕ → TallyState → Totals → SeatState
seat_with w tally held = record { worker = w; held = held; tally = tally }

module _ (law : RefusalsKeepTheState) (number w id : ℕ) (tally : TallyState) (calls : List Call) where
  -- one request more at the front
  told_then : (strict : Bool) (listed : ℕ) (r : Request) (x : Told) (ps : List Pair) (held now left : Totals) (s m t : State)
      → ClientDoes strict number (seat_with w tally held) id listed r (answer_of x) calls calls s m → MovesTold x held now
      → ((more : ℕ) → PairsLead strict number (Some id) more ps (moment (seat_with w tally now) calls m) (moment (seat_with w tally left) calls t))
      → PairsLead strict number (Some id) listed (record { request = r; answer = answer_of x } ∷ ps) (moment (seat_with w tally held) calls s) (moment (seat_with w tally left) calls t)
  unfolding PairsLead
  told_then strict listed r x ps held now left s m t does moves rest = (
    moment (seat_with w tally now) calls m,
    does,
    record { worker = refl; shares = told_moves x held now moves },
    subst (λ (c : Option ℕ). PairsLead strict number c (listed + count_listed (answer_of x)) ps (moment (seat_with w tally now) calls m) (moment (seat_with w tally left) calls t)) (sym (told_stays id x))
        (rest (listed + count_listed (answer_of x))),
  )

  asks_lead : (strict : Bool) (listed : ℕ) (rs : List Request) (xs : List Told) (held left : Totals) (s t : State)
      → AreTold rs xs → DoesAsks w id (may_do strict (asks_in rs)) xs held left s t
      → PairsLead strict number (Some id) listed (told_pairs rs xs) (moment (seat_with w tally held) calls s) (moment (seat_with w tally left) calls t)
  asks_lead strict listed rs [] held left s t each h =
      let same = stop_same law w id (may_do strict (asks_in rs)) held s t h.0 in
      leads_nowhere strict number (Some id) listed (moment (seat_with w tally held) calls s) (moment (seat_with w tally left) calls t)
      (λ i. moment (seat_with w tally (h.1 i)) calls (same i))
  asks_lead strict listed [] (x ∷ xs) held left s t each h = absurd each
  asks_lead true listed (request.Alloc frames limit ∷ rs) (x ∷ xs) held left s t each h =
      let told = alloc_told w id frames limit x h.2.0 s h.0 each.0 h.2.1 h.2.2 in
      told_then true listed (request.Alloc frames limit) x (told_pairs rs xs) held h.1 left s h.0 t (told.0, told.1, told.2, refl) h.3 (λ more. asks_lead true more rs xs h.1 left h.0 t each.1 h.4)
  asks_lead false listed (request.Alloc frames limit ∷ rs) (x ∷ xs) held left s t each h =
      let told = alloc_told w id frames limit x h.2.0 s h.0 each.0 h.2.1 h.2.2 in
      told_then false listed (request.Alloc frames limit) x (told_pairs rs xs) held h.1 left s h.0 t (told.0, told.1, told.2, refl) h.3 (λ more. asks_lead false more rs xs h.1 left h.0 t each.1 h.4)
  asks_lead true listed (request.Stat ∷ rs) (x ∷ xs) held left s t each h =
      told_then true listed request.Stat x (told_pairs rs xs) held h.1 left s h.0 t (ap answer_of h.2.0, refl, h.2.1) h.3 (λ more. asks_lead true more rs xs h.1 left h.0 t each.1 h.4)
  asks_lead false listed (request.Stat ∷ rs) (x ∷ xs) held left s t each h =
      told_then false listed request.Stat x (told_pairs rs xs) held h.1 left s h.0 t (ap answer_of h.2.0, refl, h.2.1) h.3 (λ more. asks_lead false more rs xs h.1 left h.0 t each.1 h.4)
  asks_lead true listed (request.Free lo ∷ rs) (x ∷ xs) held left s t each h = absurd h
  asks_lead false listed (request.Free lo ∷ rs) (x ∷ xs) held left s t each h =
      told_then false listed (request.Free lo) x (told_pairs rs xs) held h.1 left s h.0 t (free_told number (seat_with w tally held) id lo x h.2.0 calls s h.0 each.0 h.2.1 h.2.2 h.2.3) h.3 (λ more. asks_lead false more rs xs h.1 left h.0 t each.1 h.4)
  asks_lead strict listed (r ∷ rs) (x ∷ xs) held left s t each h = absurd each.0

pub same_seat : (old new : SeatState) → new.worker ≡ old.worker → new.held ≡ old.held → new.tally ≡ old.tally → new ≡ old
same_seat old new worker held tally = λ i. record { worker = worker i; held = held i; tally = tally i }

-- of nothing
pub batch_nothing : RefusalsKeepTheState → (w id : ℕ) (asks : List Ask) (before now : List Told) (count : ℕ) (held left : Totals) (a b : Option State) → count ≡ 0
    → WhereKnown a b (λ s t. Batched w id asks before now count held left s t) → WhereKnown a b IsSame
batch_nothing law w id asks before now count held left a b zero h =
    known_one a b (λ s t. Batched w id asks before now count held left s t) IsSame h
    (λ s t d. stop_same law w id asks held s t (subst (λ (xs : List Told). DoesAsks w id asks xs held left s t) (length0 d.more (d.counted ∙ zero)) d.does).0)

pub batch_goes : RefusalsKeepTheState → (strict : Bool) (id : ℕ) (rs : List Request) (asks : List Ask) (before told : List Told) (count : ℕ) (was now : SessionState) (old new : SeatState) (calls : List Call) (a b : Option State)
    → was.client ≡ Some id → asks ≡ asks_in rs → before ≡ [] → AreTold rs told → now.pairs ≡ was.pairs ++ told_pairs rs told
    → (new.worker ≡ old.worker) × (new.tally ≡ old.tally)
    → WhereKnown a b (λ s t. Batched old.worker id (may_do strict asks) before told count old.held new.held s t)
    → WhereKnown a b (GoesOn strict was now old new calls calls)
batch_goes law strict id rs asks before told count was now old new calls a b is front none each more rest h =
    known_one a b (λ s t. Batched old.worker id (may_do strict asks) before told count old.held new.held s t) (GoesOn strict was now old new calls calls) h
    (λ s t d.
    let all : told ≡ d.more = d.appended ∙ ap (λ (xs : List Told). xs ++ d.more) none in
    let does : DoesAsks old.worker id (may_do strict (asks_in rs)) told old.held new.held s t =
    subst (λ (xs : List Told). DoesAsks old.worker id (may_do strict (asks_in rs)) xs old.held new.held s t) (sym all)
    (subst (λ (qs : List Ask). DoesAsks old.worker id (may_do strict qs) d.more old.held new.held s t) front d.does) in
    let seat : seat_with old.worker old.tally new.held ≡ new = (λ i. record { worker = sym rest.0 i; held = new.held; tally = sym rest.1 i }) in (
      told_pairs rs told,
      more,
      subst (λ (c : Option ℕ). PairsLead strict was.number c was.listed (told_pairs rs told) (moment old calls s) (moment new calls t)) (sym is)
          (subst (λ (x : SeatState). PairsLead strict was.number (Some id) was.listed (told_pairs rs told) (moment old calls s) (moment x calls t)) seat
          (asks_lead law was.number old.worker id old.tally calls strict was.listed rs told old.held new.held s t each does)),
    ))

-- Whole sessions.

pub end_does : (number : ℕ) (id : ℕ) (told : Option Ending) (l : Leaving) (back : Option Totals) (was waiting : List ℕ) (old new : SeatState) (before now : List Call) (a b : Option State)
    → TellsFitting told l.ended back new.held → waiting ≡ was ++ kept_if (still_waits l.ended) id → WhereKnown a b (Departs old new.held id l number before now)
    → WhereKnown a b (λ s t. EndDoes number (Some id) told back was waiting (moment old before s) (moment new now t))
end_does number id told l back was waiting old new before now a b tells listed h =
    known_one a b (Departs old new.held id l number before now) (λ s t. EndDoes number (Some id) told back was waiting (moment old before s) (moment new now t)) h
    (λ s t d. (l, tells, listed, d))

pub session_leads : (strict : Bool) (number there id : ℕ) (ps : List Pair) (told : Option Ending) (was waiting : List ℕ) (old mid new : SeatState) (before calls now : List Call) (o a b : Option State)
    → client_after None ps ≡ Some id → there ≡ number → ∥ WhereKnown o a (LeadsFrom strict number ps old mid before calls) ∥₁
    → WhereKnown a b (λ s t. EndDoes there (Some id) told (Some old.held) was waiting (moment mid calls s) (moment new now t))
    → ∥ WhereKnown o b (SessionLeads strict number ps told old new was waiting before now) ∥₁
session_leads strict number there id ps told was waiting old mid new before calls now o a b is same h k =
    ∥∥₁_map h (λ g.
    known_both o a b (LeadsFrom strict number ps old mid before calls) (λ s t. EndDoes there (Some id) told (Some old.held) was waiting (moment mid calls s) (moment new now t))
    (SessionLeads strict number ps told old new was waiting before now) g k
    (λ s m t x y. record {
      here = moment mid calls m;
      asked = x;
      ended = subst (λ (c : Option ℕ). EndDoes number c told (Some old.held) was waiting (moment mid calls m) (moment new now t)) (sym is)
          (subst (λ (n : ℕ). EndDoes n (Some id) told (Some old.held) was waiting (moment mid calls m) (moment new now t)) same y);
    }))

pub unopened_leads : (strict : Bool) (number : ℕ) (ps : List Pair) (waiting : List ℕ) (old new : SeatState) (before now : List Call) (o a : Option State)
    → client_after None ps ≡ None → ∥ WhereKnown o a (LeadsFrom strict number ps old new before now) ∥₁
    → ∥ WhereKnown o a (SessionLeads strict number ps None old new waiting waiting before now) ∥₁
unopened_leads strict number ps waiting old new before now o a none h =
    ∥∥₁_map h (λ g.
    known_one o a (LeadsFrom strict number ps old new before now) (SessionLeads strict number ps None old new waiting waiting before now) g
    (λ s t x. record {
      here = moment new now t;
      asked = x;
      ended = subst (λ (c : Option ℕ). EndDoes number c None (Some old.held) waiting waiting (moment new now t) (moment new now t)) (sym none) (refl, refl, refl);
    }))

pub nothing_leads : (strict : Bool) (number : ℕ) (waiting : List ℕ) (seat : SeatState) (calls : List Call) (o : Option State)
    → ∥ WhereKnown o o (SessionLeads strict number [] None seat seat waiting waiting calls calls) ∥₁
unfolding client_after
nothing_leads strict number waiting seat calls o =
    unopened_leads strict number [] waiting seat seat calls calls o o refl (leads_yet strict number [] seat seat calls calls o o refl refl refl refl)
