-- Whose holdings the calls of the lock leave as they are.
use Rattle.std.proofs.Common.{ℕ, ◌≡◌, List, [], ◌∷◌, Option, Some, None, refl, sym, ap, ◌∙◌, subst}
use Rattle.std.specs.Prelude.{Result, Ok, Err, Bool, IfSome}
use Rattle.iova_range.specs.declared.refusal.Refusal.{Refusal}
use Rattle.iova_model.specs.declared.step.Step.{Step}
use Rattle.iova_model.specs.declared.step.Step.TheVariants as step
use Rattle.iova_model.specs.declared.step.Reply.{Reply}
use Rattle.iova_model.specs.declared.totals.Totals.{Totals}
use Rattle.std.specs.Prelude.{length}
use Rattle.iova_model.specs.Clients.{Client, client_of, client_with, holdings_in}
use Rattle.iova_model.specs.State.{State}
use Rattle.iova_model.specs.Effects.{held_by, client_named}
use Rattle.iova_model.specs.Laws.{OthersKeepTheirHoldings, StepsKeepValidity}
use Rattle.iova_laws.proofs.Finds.{owned}
use Rattle.iova_sink.specs.declared.sink.SinkFault.{SinkFault}
use Rattle.iova_sink.specs.Calls.{Call}
use Rattle.iova_keep.specs.declared.ending.Ending.{Ending}
use Rattle.iova_keep.specs.declared.ending.Ending.TheVariants as ending
use Rattle.iova_keep.specs.declared.ending.Why.{Why}
use Rattle.iova_keep.specs.Steps.{Takes}
use Rattle.iova_keep.specs.Views.{WhereKnown, SeatState, IsKept, left_in, left_of}
use Rattle.iova_keep.specs.Events.{CallEvent, Ran, NotRun, Invalidated, Leads, Answered, ended, unknown, gone, EndClient, in_one_hold, in_more}
use Rattle.iova_keep.specs.Answers.{DoesEndClient}
use Rattle.iova_proto.specs.declared.answer.Answer.{Answer}
use Rattle.iova_proto.specs.declared.answer.Answer.TheVariants as answer
use Rattle.iova_proto.specs.declared.request.Request.{Request}
use Rattle.iova_proto.specs.declared.request.Request.TheVariants as request
use Rattle.iova_session.specs.Desks.{IsClientAnswer, next_client, client_after}
use Rattle.iova_session.specs.declared.leaving.Leaving.{Leaving}
use Rattle.iova_session.specs.Leaving.{IsTold, EndsAfter, Departs}
use Rattle.iova_session.specs.Domains.{KeepsOthers, IsLeft, LeavesOthers}
use Rattle.iova_session.specs.Posts.{TellsFitting}
use Rattle.iova_session.proofs.Gone.{ended_is_gone}
use Rattle.iova_session.proofs.Named.{AreOf, end_client_of}

left_same : {m n : ℕ} {v w : Why} → ◌≡◌ {A = Result Ending Refusal} (Ok (ending.Waiting m v)) (Ok (ending.Waiting n w)) → n ≡ m
left_same e = cc

answered_left : {queued left n : ℕ} {why : Why} {flushed : Option Bool} {o b : Option Reply} {result : Result Ending Refusal} → result ≡ Ok (ending.Waiting n why) → Answered queued left flushed o b result → n ≡ left
answered_left e ended = absurd cc
answered_left e (unknown x known none) = absurd cc
answered_left e (gone x known some) = absurd cc
answered_left e a = left_same e

told_left : {st : Step} {held left : Totals} {remains n : ℕ} {why : Why} {es : List CallEvent} → EndClient st held left remains (Ok (ending.Waiting n why)) es → n ≡ remains
told_left (in_one_hold queued o b result es e c a) = answered_left refl a
told_left (in_more queued k ok mid o b result es fs e c r a) = answered_left refl a

-- What two calls of a keeper do, and one.

pub known_both : (a b c : Option State) (P Q R : State → State → Type 0) → WhereKnown a b P → WhereKnown b c Q → ((s m t : State) → P s m → Q m t → R s t) → WhereKnown a c R
known_both None b c P Q R p q f = tt
known_both (Some s) None c P Q R p q f = absurd p
known_both (Some s) (Some m) None P Q R p q f = absurd q
known_both (Some s) (Some m) (Some t) P Q R p q f = f s m t p q

pub known_one : (a b : Option State) (P R : State → State → Type 0) → WhereKnown a b P → ((s t : State) → P s t → R s t) → WhereKnown a b R
known_one None b P R p f = tt
known_one (Some s) None P R p f = absurd p
known_one (Some s) (Some t) P R p f = f s t p

pub takes_keep : OthersKeepTheirHoldings → (s : State) (st : Step) (r : Reply) (t : State) → Takes s st r t → (id : ℕ) → (client_named st ≡ Some id → ⊥) → held_by id t.clients ≡ held_by id s.clients
unfolding Takes
takes_keep law s st r t h id other = ap (λ (x : State). held_by id x.clients) h.2 ∙ law s st h.0 id other

pub leads_keep : OthersKeepTheirHoldings → (client : Option ℕ) (es : List CallEvent) (s t : State) → AreOf client es → Leads s es t → KeepsOthers client s t
leads_keep law client [] s t g l = λ other ne. ap (λ (x : State). held_by other x.clients) l
leads_keep law client (Ran st r ∷ es) s t g l = λ other ne.
    leads_keep law client es l.0 t g.1 l.2 other ne ∙ takes_keep law s st r l.0 l.1 other (λ e. ne (g.0 other e))
leads_keep law client (NotRun st h ∷ es) s t g l = leads_keep law client es s t g.1 l.1
leads_keep law client (Invalidated n ok ∷ es) s t g l = leads_keep law client es s t g.1 l

-- what is reported of a client's end is its result, or nothing
abbrev TellsAtMost : Option Ending → Result Ending Refusal → Type 0
TellsAtMost None result = Unit {0}
TellsAtMost (Some told) result = result ≡ Ok told

at_most : (told : Option Ending) (result : Result Ending Refusal) (back : Option Totals) (now : Totals) → TellsFitting told result back now → TellsAtMost told result
at_most None result back now h = tt
at_most (Some told) result back now h = h.0

-- what is left of a client whose end was tried
left_told : StepsKeepValidity → (id : ℕ) (seat : SeatState) (left : Totals) (told : Option Ending) (result : Result Ending Refusal) (number : ℕ) (before now : List Call) (s t : State) → IsKept s → TellsAtMost told result
    → DoesEndClient seat left id result number before now s t → IsLeft (Some id) told t
left_told law id seat left None result number before now s t kept h d = tt
left_told law id seat left (Some (ending.Ended queued)) result number before now s t kept h d = ended_is_gone law seat.worker id s t h d.allowed.0 kept.valid d.leads
left_told law id seat left (Some (ending.Waiting n why)) result number before now s t kept h d =
    told_left (subst (λ (r : Result Ending Refusal). EndClient (step.CloseOne seat.worker id) seat.held left (left_of id t) r d.events) h d.allowed.0)

-- what is known of a domain before two calls do something, and what they do
known_first : (a b : Option State) (Q : State → Type 0) (P R : State → State → Type 0) → IfSome a Q → WhereKnown a b P → ((s t : State) → Q s → P s t → R s t) → WhereKnown a b R
known_first None b Q P R q p f = tt
known_first (Some s) None Q P R q p f = absurd p
known_first (Some s) (Some t) Q P R q p f = f s t q p

left_there : (w id number : ℕ) (clients : List Client) (fault : SinkFault) (before now : List Call) (o : Option Client) → client_of w id clients ≡ o → IsTold number id (holdings_in o) (Err fault) before now
    → length (holdings_in o) ≡ left_in (client_with id clients)
left_there w id number clients fault before now None is told = absurd (let no = told.0 in cc)
left_there w id number clients fault before now (Some c) is told = let own = owned w id clients c is in sym (ap left_in own.is)

-- one of which a sink is notified in vain has as many ranges left as it holds
pub left_ill : (w id number : ℕ) (s : State) (fault : SinkFault) (before now : List Call) → IsTold number id (holdings_in (client_of w id s.clients)) (Err fault) before now
    → length (holdings_in (client_of w id s.clients)) ≡ left_in (client_with id s.clients)
left_ill w id number s fault before now told = left_there w id number s.clients fault before now (client_of w id s.clients) refl told

departed : OthersKeepTheirHoldings → StepsKeepValidity → (seat : SeatState) (left : Totals) (id : ℕ) (told : Option Ending) (l : Leaving) (number : ℕ) (answer : Result Unit SinkFault) (before calls now : List Call) (s t : State)
    → IsKept s → TellsAtMost told l.ended → IsTold number id (holdings_in (client_of seat.worker id s.clients)) answer before calls
    → EndsAfter answer seat left id (holdings_in (client_of seat.worker id s.clients)) l number calls now s t → LeavesOthers (Some id) told s t
departed law valid seat left id told l number (Ok u) before calls now s t k m is x =
    let d = x.1 in (leads_keep law (Some id) d.events s t (end_client_of (step.CloseOne seat.worker id) d.allowed.0) d.leads, left_told valid id seat left told l.ended number calls now s t k m d)
departed law valid seat left id told l number (Err e) before calls now s t k m is x =
    let same : t ≡ s = x.4 in (
      λ other ne. ap (λ (u : State). held_by other u.clients) same,
      waits_on told m,
    )
  where
    waits_on : (o : Option Ending) → TellsAtMost o l.ended → IsLeft (Some id) o t
    waits_on None m = tt
    waits_on (Some (ending.Ended queued)) m = absurd (let no = sym m ∙ x.1 in cc)
    waits_on (Some (ending.Waiting n why)) m =
        (let told = sym m ∙ x.1 in let same : n ≡ length (holdings_in (client_of seat.worker id s.clients)) = cc in same) ∙ left_ill seat.worker id number s e before calls is ∙ ap (λ (u : State). left_of id u) (sym x.4)

pub end_keeps : OthersKeepTheirHoldings → StepsKeepValidity → (seat : SeatState) (left : Totals) (id : ℕ) (told : Option Ending) (l : Leaving) (back : Option Totals) (shares : Totals) (number : ℕ) (before now : List Call) (a b : Option State)
    → IfSome a IsKept → TellsFitting told l.ended back shares → WhereKnown a b (Departs seat left id l number before now) → WhereKnown a b (LeavesOthers (Some id) told)
end_keeps law valid seat left id told l back shares number before now a b kept fits h =
    let m = at_most told l.ended back shares fits in
    known_first a b IsKept (Departs seat left id l number before now) (LeavesOthers (Some id) told) kept h
    (λ s t k d. departed law valid seat left id told l number d.answer before d.calls now s t k m d.told d.ended)

-- an answer to a session with a client opens none
pub client_stays : (listed id : ℕ) (r : Request) (a : Answer) → IsClientAnswer listed r a → next_client (Some id) a ≡ Some id
client_stays listed id (request.Hello domain sac) a h = ap (next_client (Some id)) h
client_stays listed id request.Bye a h = ap (next_client (Some id)) h
client_stays listed id r (answer.Opened n) h = absurd h
client_stays listed id r a h = refl

pub opened_keeps : (client : Option ℕ) (told : Option Ending) (o a b : Option State) (id : ℕ) → client ≡ Some id → WhereKnown o a (KeepsOthers client) → WhereKnown a b (LeavesOthers (Some id) told) → WhereKnown o b (LeavesOthers client told)
opened_keeps client told o a b id e h k =
    subst (λ (c : Option ℕ). WhereKnown o b (LeavesOthers c told)) (sym e)
    (known_both o a b (KeepsOthers (Some id)) (LeavesOthers (Some id) told) (LeavesOthers (Some id) told) (subst (λ (c : Option ℕ). WhereKnown o a (KeepsOthers c)) e h) k
    (λ s m t x y. ((λ other ne. y.0 other ne ∙ x other ne), y.1)))

pub unopened_keeps : (client : Option ℕ) (o a : Option State) → client ≡ None → WhereKnown o a (KeepsOthers client) → WhereKnown o a (LeavesOthers client None)
unopened_keeps client o a e h =
    subst (λ (c : Option ℕ). WhereKnown o a (LeavesOthers c None)) (sym e)
    (known_one o a (KeepsOthers None) (LeavesOthers None None) (subst (λ (c : Option ℕ). WhereKnown o a (KeepsOthers c)) e h) (λ s t x. (x, tt)))

pub nothing_left : (o : Option State) → WhereKnown o o (LeavesOthers (client_after None []) None)
unfolding client_after
nothing_left None = tt
nothing_left (Some s) = ((λ id other. refl), tt)
