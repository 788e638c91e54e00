-- What single requests do to a domain that is known.
use Rattle.std.proofs.Common.{ℕ, ◌≡◌, inr, List, Option, Some, None, refl, sym, subst}
use Rattle.std.specs.Prelude.{Result, Ok, Err, Bool, IfSome}
use Rattle.iova_range.specs.declared.refusal.Refusal.{Refusal}
use Rattle.iova_model.specs.State.{State}
use Rattle.iova_sink.specs.Calls.{Call}
use Rattle.iova_keep.specs.declared.unmapped.Unmapped.{Unmapped}
use Rattle.iova_keep.specs.Views.{WhereKnown, SeatState}
use Rattle.iova_keep.specs.Answers.{DoesFlush, DrainsAll, Opens}
use Rattle.iova_keep.specs.Releases.{DoesRelease}
use Rattle.iova_proto.specs.declared.answer.Answer.{Answer}
use Rattle.iova_proto.specs.declared.answer.Answer.TheVariants as answer
use Rattle.iova_proto.specs.declared.request.Request.{Request}
use Rattle.iova_proto.specs.declared.request.Request.TheVariants as request
use Rattle.iova_session.specs.Domains.{FlushesAndDrains, Lists, release_answer}
use Rattle.iova_session.specs.Leading.{ClientDoes, FirstDoes, open_answer}
use Rattle.iova_session.proofs.Others.{known_both, known_one}

pub free_does : (a b : Option State) (strict : Bool) (number : ℕ) (seat : SeatState) (id listed lo : ℕ) (r : Request) (result : Result Unmapped Refusal) (x : Answer) (before now : List Call)
    → r ≡ request.Free lo → x ≡ release_answer result
    → WhereKnown a b (DoesRelease strict seat id lo result number before now) → WhereKnown a b (ClientDoes strict number seat id listed r x before now)
free_does a b strict number seat id listed lo r result x before now is same does =
    subst (λ (q : Request). WhereKnown a b (ClientDoes strict number seat id listed q x before now)) (sym is)
    (known_one a b (DoesRelease strict seat id lo result number before now) (ClientDoes strict number seat id listed (request.Free lo) x before now) does (λ s t d. (result, d, same)))

pub list_does : (a : Option State) (strict : Bool) (number : ℕ) (seat : SeatState) (id listed : ℕ) (r : Request) (x : Answer) (calls : List Call)
    → r ≡ request.List → IfSome a (Lists seat.worker id listed x) → WhereKnown a a (ClientDoes strict number seat id listed r x calls calls)
list_does None strict number seat id listed r x calls is h = tt
list_does (Some s) strict number seat id listed r x calls is h =
    subst (λ (q : Request). ClientDoes strict number seat id listed q x calls calls s s) (sym is) (h, refl, refl)

-- a request whose call does nothing
pub nothing_does : (a : Option State) (strict : Bool) (number : ℕ) (seat : SeatState) (id listed : ℕ) (r q : Request) (x : Answer) (calls : List Call)
    → r ≡ q → ((s : State) → ClientDoes strict number seat id listed q x calls calls s s) → WhereKnown a a (ClientDoes strict number seat id listed r x calls calls)
nothing_does None strict number seat id listed r q x calls is h = tt
nothing_does (Some s) strict number seat id listed r q x calls is h = subst (λ (p : Request). ClientDoes strict number seat id listed p x calls calls s s) (sym is) (h s)

-- Without a client.

pub greets : (a b : Option State) (number w domain : ℕ) (sac : Bool) (r : Request) (result : Result ℕ Refusal) (x : Answer)
    → r ≡ request.Hello domain sac → domain ≡ number → x ≡ open_answer result → WhereKnown a b (Opens w sac result) → WhereKnown a b (FirstDoes number w r x)
greets a b number w domain sac r result x is here same opens =
    subst (λ (q : Request). WhereKnown a b (FirstDoes number w q x)) (sym is)
    (known_one a b (Opens w sac result) (FirstDoes number w (request.Hello domain sac) x) opens (λ s t h. inr (here, (result, h, same))))

pub flush_fails : (a b : Option State) (w : ℕ) (r : Result ℕ Refusal) (e : Refusal) (number : ℕ) (before now : List Call) → r ≡ Err e
    → WhereKnown a b (DoesFlush r number before now) → WhereKnown a b (FlushesAndDrains w (answer.Refused e) number before now)
flush_fails a b w r e number before now is does =
    known_one a b (DoesFlush r number before now) (FlushesAndDrains w (answer.Refused e) number before now) does
    (λ s t d. subst (λ (x : Result ℕ Refusal). DoesFlush x number before now s t) is d)

pub flush_drains : (a m b : Option State) (v w : ℕ) (r q : Result ℕ Refusal) (k n : ℕ) (number : ℕ) (before now : List Call) → v ≡ w → r ≡ Ok k → q ≡ Ok n
    → WhereKnown a m (DoesFlush r number before now) → WhereKnown m b (DrainsAll v q)
    → WhereKnown a b (FlushesAndDrains w (answer.Flushed k n) number before now)
flush_drains a m b v w r q k n number before now same is drained does drains =
    known_both a m b (DoesFlush r number before now) (DrainsAll v q) (FlushesAndDrains w (answer.Flushed k n) number before now) does drains
    (λ s u t d e.
    (u, subst (λ (x : Result ℕ Refusal). DoesFlush x number before now s u) is d, subst (λ (x : Result ℕ Refusal). DrainsAll w x u t) drained (subst (λ (i : ℕ). DrainsAll i q u t) same e)))
