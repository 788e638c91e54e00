-- The pairs of a session leave the holdings of all clients but its own.
use Rattle.std.proofs.Common.{ℕ, ◌≡◌, ◌+◌, inl, inr, List, [], ◌∷◌, Option, Some, None, refl, sym, ap, ◌∙◌, subst}
use Rattle.std.proofs.Math.Logic.{∥∥₁_elim}
use Rattle.std.specs.Prelude.{Result, Ok, Err, Bool}
use Rattle.iova_range.specs.declared.refusal.Refusal.{Refusal}
use Rattle.iova_model.specs.declared.step.Step.TheVariants as step
use Rattle.iova_model.specs.State.{State}
use Rattle.iova_model.specs.Effects.{held_by}
use Rattle.iova_model.specs.Laws.{OthersKeepTheirHoldings}
use Rattle.iova_sink.specs.Calls.{Call}
use Rattle.iova_keep.specs.Views.{WhereKnown, SeatState, opened_or, given_or}
use Rattle.iova_keep.specs.Answers.{DoesFlush, DrainsAll}
use Rattle.iova_proto.specs.declared.answer.Answer.{Answer}
use Rattle.iova_proto.specs.declared.answer.Answer.TheVariants as answer
use Rattle.iova_proto.specs.declared.request.Request.{Request}
use Rattle.iova_proto.specs.declared.request.Request.TheVariants as request
use Rattle.iova_session.specs.Pairs.{Pair}
use Rattle.iova_session.specs.Desks.{AreAnswers, next_client, count_listed, client_after}
use Rattle.iova_session.specs.Domains.{KeepsOthers, FlushesAndDrains, known_keeps-prop}
use Rattle.iova_session.specs.Leading.{Moment, moment, FirstDoes, ClientDoes, PairsLead, LeadsFrom}
use Rattle.iova_session.proofs.Named.{release_of, flush_of, drain_all_of}
use Rattle.iova_session.proofs.Others.{known_one, takes_keep, leads_keep, client_stays}

same_keeps : (client : Option ℕ) (s t : State) → t ≡ s → KeepsOthers client s t
same_keeps client s t e other ne = ap (λ (x : State). held_by other x.clients) e

then_keep : (client : Option ℕ) (s m t : State) → KeepsOthers client s m → KeepsOthers client m t → KeepsOthers client s t
then_keep client s m t x y other ne = y other ne ∙ x other ne

-- where no client's holdings changed, none but this one's did
none_keep : (client : Option ℕ) (s t : State) → KeepsOthers None s t → KeepsOthers client s t
none_keep client s t x other ne = x other (λ e. absurd cc)

first_keep : OthersKeepTheirHoldings → (number w : ℕ) (r : Request) (a : Answer) (s t : State) → FirstDoes number w r a s t → KeepsOthers None s t
first_keep law number w (request.Hello domain sac) a s t (inl h) = same_keeps None s t h.2
first_keep law number w (request.Hello domain sac) a s t (inr h) = λ other ne.
    takes_keep law s (step.Open w sac) (opened_or h.1.0) t h.1.1 other (λ e. absurd cc)
first_keep law number w r a s t h = same_keeps None s t h.1

flush_keeps : OthersKeepTheirHoldings → (result : Result ℕ Refusal) (number : ℕ) (before now : List Call) (s t : State) → DoesFlush result number before now s t → KeepsOthers None s t
flush_keeps law result number before now s t d = leads_keep law None d.events s t (flush_of None d.allowed.0) d.leads

drain_keeps : OthersKeepTheirHoldings → (by : ℕ) (result : Result ℕ Refusal) (s t : State) → DrainsAll by result s t → KeepsOthers None s t
drain_keeps law by result s t d = leads_keep law None d.events s t (drain_all_of None d.allowed) d.leads

flushes_keep : OthersKeepTheirHoldings → (w : ℕ) (a : Answer) (number : ℕ) (before now : List Call) (s t : State) → FlushesAndDrains w a number before now s t → KeepsOthers None s t
flushes_keep law w (answer.Flushed k freed) number before now s t h =
    then_keep None s h.0 t (flush_keeps law (Ok k) number before now s h.0 h.1) (drain_keeps law w (Ok freed) h.0 t h.2)
flushes_keep law w (answer.Refused e) number before now s t h = flush_keeps law (Err e) number before now s t h
flushes_keep law w a number before now s t h = absurd h

client_keep : OthersKeepTheirHoldings → (strict : Bool) (number : ℕ) (seat : SeatState) (id listed : ℕ) (r : Request) (a : Answer) (before now : List Call) (s t : State)
    → ClientDoes strict number seat id listed r a before now s t → KeepsOthers (Some id) s t
client_keep law strict number seat id listed (request.Alloc frames limit) a before now s t h = λ other ne.
    takes_keep law s (step.Alloc seat.worker id frames limit) (given_or h.0) t h.1 other (λ e. ne e)
client_keep law strict number seat id listed (request.Free lo) a before now s t h =
    leads_keep law (Some id) h.1.events s t (release_of (step.Unmap seat.worker id lo) h.1.allowed.0) h.1.leads
client_keep law strict number seat id listed request.Flush a before now s t h = none_keep (Some id) s t (flushes_keep law seat.worker a number before now s t h)
client_keep law strict number seat id listed r a before now s t h = same_keeps (Some id) s t h.2

-- a session that has a client keeps it
client_after_stays : (number id listed : ℕ) (ps : List Pair) → AreAnswers number (Some id) listed ps → client_after (Some id) ps ≡ Some id
unfolding AreAnswers client_after
client_after_stays number id listed [] h = refl
client_after_stays number id listed (p ∷ ps) h =
    let stays = client_stays listed id p.request p.answer h.0 in
    ap (λ (c : Option ℕ). client_after c ps) stays
    ∙ client_after_stays number id (listed + count_listed p.answer) ps (subst (λ (c : Option ℕ). AreAnswers number c (listed + count_listed p.answer) ps) stays h.1)

client_pairs_keep : OthersKeepTheirHoldings → (strict : Bool) (number id listed : ℕ) (ps : List Pair) (a b : Moment)
    → AreAnswers number (Some id) listed ps → PairsLead strict number (Some id) listed ps a b → KeepsOthers (Some id) a.domain b.domain
unfolding AreAnswers PairsLead
client_pairs_keep law strict number id listed [] a b h k = same_keeps (Some id) a.domain b.domain (ap (λ (x : Moment). x.domain) k)
client_pairs_keep law strict number id listed (p ∷ ps) a b h k =
    let stays = client_stays listed id p.request p.answer h.0 in
    let more = listed + count_listed p.answer in
    then_keep (Some id) a.domain k.0.domain b.domain (client_keep law strict number a.seat id listed p.request p.answer a.calls k.0.calls a.domain k.0.domain k.1)
    (client_pairs_keep law strict number id more ps k.0 b (subst (λ (c : Option ℕ). AreAnswers number c more ps) stays h.1)
    (subst (λ (c : Option ℕ). PairsLead strict number c more ps k.0 b) stays k.3))

-- pairs of any client
pub pairs_keep : OthersKeepTheirHoldings → (strict : Bool) (number : ℕ) (client : Option ℕ) (listed : ℕ) (ps : List Pair) (a b : Moment)
    → AreAnswers number client listed ps → PairsLead strict number client listed ps a b → KeepsOthers (client_after client ps) a.domain b.domain
unfolding AreAnswers PairsLead client_after
pairs_keep law strict number (Some id) listed ps a b h k =
    subst (λ (c : Option ℕ). KeepsOthers c a.domain b.domain) (sym (client_after_stays number id listed ps h)) (client_pairs_keep law strict number id listed ps a b h k)
pairs_keep law strict number None listed [] a b h k = same_keeps None a.domain b.domain (ap (λ (x : Moment). x.domain) k)
pairs_keep law strict number None listed (p ∷ ps) a b h k =
    let client = client_after (next_client None p.answer) ps in
    then_keep client a.domain k.0.domain b.domain (none_keep client a.domain k.0.domain (first_keep law number a.seat.worker p.request p.answer a.domain k.0.domain k.1.0))
    (pairs_keep law strict number (next_client None p.answer) (listed + count_listed p.answer) ps k.0 b h.1 k.3)

pub keeps_others : OthersKeepTheirHoldings → (strict : Bool) (number : ℕ) (ps : List Pair) (old new : SeatState) (before now : List Call) (o a : Option State)
    → AreAnswers number None 0 ps → ∥ WhereKnown o a (LeadsFrom strict number ps old new before now) ∥₁ → WhereKnown o a (KeepsOthers (client_after None ps))
keeps_others law strict number ps old new before now o a h k =
    ∥∥₁_elim k (known_keeps-prop o a (client_after None ps))
    (λ g. known_one o a (LeadsFrom strict number ps old new before now) (KeepsOthers (client_after None ps)) g (λ s t x. pairs_keep law strict number None 0 ps (moment old before s) (moment new now t) h x))
