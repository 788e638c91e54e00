-- What holds do, one after another.
use Rattle.std.proofs.Common.{ℕ, ◌≡◌, Bool, List, [], ◌∷◌, ◌++◌, Option, Some, None, refl, sym, ap, ◌∙◌, subst, append-nil, arith}
use Rattle.std.specs.Prelude.{Ok, Err, MatchOption, if◌then◌else◌, true, false, ◌+◌, ◌≤◌}
use Rattle.iova_range.specs.declared.refusal.Refusal.{Refusal}
use Rattle.iova_range.specs.declared.refusal.Refusal.TheVariants as refusal
use Rattle.iova_model.specs.declared.step.Step.{Step}
use Rattle.iova_model.specs.declared.step.Step.TheVariants as step
use Rattle.iova_model.specs.declared.step.Reply.{Reply}
use Rattle.iova_model.specs.declared.step.Reply.TheVariants as reply
use Rattle.iova_model.specs.declared.totals.Totals.{Totals}
use Rattle.iova_model.specs.State.{State}
use Rattle.iova_sink.specs.Calls.{Invalidation, Call, good_in, good_calls}
use Rattle.iova_model.specs.Effects.{ended_well}
use Rattle.iova_keep.specs.Steps.{Takes}
use Rattle.iova_keep.specs.Views.{WhereKnown, IsBeginHeard}
use Rattle.iova_keep.specs.Events.{CallEvent, Ran, Invalidated, Leads, sink_calls, Does, Unmapping, run, not_run, UnmapFirst, tried, full, UnmapAgain, again, Unmap, once, not_begun, flushed, refused, done, failed}
use Rattle.iova_keep.specs.Answers.{UnmapsWith, FlushesWith}

-- what two calls of a keeper do, one after the other
pub known_both : (a b c : Option State) (P Q R : State → State → Type 0) → WhereKnown a b P → WhereKnown b c Q → ((s m t : State) → P s m → Q m t → R s t) → WhereKnown a c R
known_both None b c P Q R p q f = tt
known_both (Some s) None c P Q R p q f = absurd p
known_both (Some s) (Some m) None P Q R p q f = absurd q
known_both (Some s) (Some m) (Some t) P Q R p q f = f s m t p q

pub known_one : (a b : Option State) (P R : State → State → Type 0) → WhereKnown a b P → ((s t : State) → P s t → R s t) → WhereKnown a b R
known_one None b P R p f = tt
known_one (Some s) None P R p f = absurd p
known_one (Some s) (Some t) P R p f = f s t p

-- No hold calls the sink.

silent : (domain : ℕ) {st : Step} {held : Totals} {r : Reply} {es : List CallEvent} → Unmapping st held r es → sink_calls domain es ≡ []
silent domain (run r) = refl
silent domain not_run = refl

silent_first : (domain : ℕ) {st : Step} {held : Totals} {o b : Option Reply} {es : List CallEvent} → UnmapFirst st held o b es → sink_calls domain es ≡ []
silent_first domain (tried r es other u) = silent domain u
silent_first domain (full b) = refl

pub in_one_hold : (st : Step) (held : Totals) (o b : Option Reply) (r : Reply) (domain : ℕ) (calls : List Call) (s t : State) → o ≡ Some r → b ≡ None
    → Does (UnmapFirst st held o b) s t → Does (UnmapsWith st held r domain calls calls) s t
in_one_hold st held o b r domain calls s t is none d = record {
  events = d.events;
  allowed = (
    once r d.events (subst (λ x. UnmapFirst st held x None d.events) is (subst (λ x. UnmapFirst st held o x d.events) none d.allowed)),
    sym (ap (λ cs. calls ++ cs) (silent_first domain d.allowed) ∙ append-nil calls),
  );
  leads = d.leads;
}

begins_none : (st : Step) (held : Totals) (e : Refusal) {o b : Option Reply} {es : List CallEvent} → UnmapFirst st held o b es → b ≡ Some (reply.Refused e) → Unmap st held (reply.Refused refusal.RingFull) es
begins_none st held e (tried r es other u) is = absurd cc
begins_none st held e (full begin) is =
    let same : begin ≡ reply.Refused e = cc in
    subst (λ x. Unmap st held (reply.Refused refusal.RingFull) (Ran st (reply.Refused refusal.RingFull) ∷ Ran step.Begin x ∷ [])) (sym same) (not_begun e)

pub in_vain : (st : Step) (held : Totals) (o b : Option Reply) (e : Refusal) (domain : ℕ) (calls : List Call) (s t : State) → b ≡ Some (reply.Refused e)
    → Does (UnmapFirst st held o b) s t → Does (UnmapsWith st held (reply.Refused refusal.RingFull) domain calls calls) s t
in_vain st held o b e domain calls s t is d = record {
  events = d.events;
  allowed = (begins_none st held e d.allowed is, sym (ap (λ cs. calls ++ cs) (silent_first domain d.allowed) ∙ append-nil calls));
  leads = d.leads;
}

silent_again : (domain : ℕ) {st : Step} {held : Totals} {n : ℕ} {ok : Bool} {o : Option Reply} {es : List CallEvent} → UnmapAgain st held n ok o es → sink_calls domain es ≡ []
silent_again domain (again end r es u) = silent domain u

two_holds : (st : Step) (held : Totals) (n : ℕ) (ok : Bool) (r : Reply) (domain : ℕ) (before now : List Call) (s m t : State) {o b : Option Reply} {es : List CallEvent} → UnmapFirst st held o b es → b ≡ Some (reply.Begun n)
    → Leads s es m → now ≡ before ++ Invalidation domain n ok ∷ [] → Does (UnmapAgain st held n ok (Some r)) m t → Does (UnmapsWith st held r domain before now) s t
two_holds st held n ok r domain before now s m t (tried q es other u) is l told d = absurd cc
two_holds st held n ok r domain before now s m t (full begin) is l told d =
    let same : begin ≡ reply.Begun n = cc in
    let k = l.2 in
    record {
      events = Ran st (reply.Refused refusal.RingFull) ∷ Ran step.Begin (reply.Begun n) ∷ Invalidated n ok ∷ d.events;
      allowed = (
        flushed n ok r d.events d.allowed,
        told ∙ ap (λ cs. before ++ Invalidation domain n ok ∷ cs) (sym (silent_again domain d.allowed)),
      );
      leads = (l.0, l.1, (k.0, subst (λ x. Takes l.0 step.Begin x k.0) same k.1, subst (λ x. Leads x d.events t) k.2 d.leads));
    }

pub in_two_holds : (st : Step) (held : Totals) (n : ℕ) (ok : Bool) (o b : Option Reply) (r : Reply) (domain : ℕ) (before now : List Call) (s m t : State) → b ≡ Some (reply.Begun n)
    → now ≡ before ++ Invalidation domain n ok ∷ []
    → Does (UnmapFirst st held o b) s m → Does (UnmapAgain st held n ok (Some r)) m t → Does (UnmapsWith st held r domain before now) s t
in_two_holds st held n ok o b r domain before now s m t is told d e = two_holds st held n ok r domain before now s m t d.allowed is d.leads told e

-- Flushes.

pub flush_refused : (e : Refusal) (domain : ℕ) (calls : List Call) (s t : State) → Takes s step.Begin (reply.Refused e) t → Does (FlushesWith (Err e) domain calls calls) s t
flush_refused e domain calls s t h = record { events = Ran step.Begin (reply.Refused e) ∷ []; allowed = (refused e, sym (append-nil calls)); leads = (t, h, refl) }

pub flush_done : (n : ℕ) (end : Reply) (domain : ℕ) (before now : List Call) (s m t : State) → Takes s step.Begin (reply.Begun n) m → now ≡ before ++ Invalidation domain n true ∷ []
    → Takes m (step.End n true) end t → Does (FlushesWith (Ok n) domain before now) s t
flush_done n end domain before now s m t h told k = record {
  events = Ran step.Begin (reply.Begun n) ∷ Invalidated n true ∷ Ran (step.End n true) end ∷ [];
  allowed = (done n end, told);
  leads = (m, h, (t, k, refl));
}

pub flush_failed : (n : ℕ) (end : Reply) (domain : ℕ) (before now : List Call) (s m t : State) → Takes s step.Begin (reply.Begun n) m → now ≡ before ++ Invalidation domain n false ∷ []
    → Takes m (step.End n false) end t → Does (FlushesWith (Err refusal.SinkFault) domain before now) s t
flush_failed n end domain before now s m t h told k = record {
  events = Ran step.Begin (reply.Begun n) ∷ Invalidated n false ∷ Ran (step.End n false) end ∷ [];
  allowed = (failed n end, told);
  leads = (m, h, (t, k, refl));
}

-- a reply that was heard was one
heard_end : (o : Option Reply) (n : ℕ) (ok : Bool) (s t : State) → MatchOption o ⊥ (λ r. Takes s (step.End n ok) r t) → (r : Reply) × Takes s (step.End n ok) r t
heard_end None n ok s t h = absurd h
heard_end (Some r) n ok s t h = (r, h)

pub flush_all_done : (n : ℕ) (o : Option Reply) (domain : ℕ) (before now : List Call) (s m t : State) → Takes s step.Begin (reply.Begun n) m → now ≡ before ++ Invalidation domain n true ∷ []
    → MatchOption o ⊥ (λ r. Takes m (step.End n true) r t) → Does (FlushesWith (Ok n) domain before now) s t
flush_all_done n o domain before now s m t h told k = let e = heard_end o n true m t k in flush_done n e.0 domain before now s m t h told e.1

pub flush_all_failed : (n : ℕ) (o : Option Reply) (domain : ℕ) (before now : List Call) (s m t : State) → Takes s step.Begin (reply.Begun n) m → now ≡ before ++ Invalidation domain n false ∷ []
    → MatchOption o ⊥ (λ r. Takes m (step.End n false) r t) → Does (FlushesWith (Err refusal.SinkFault) domain before now) s t
flush_all_failed n o domain before now s m t h told k = let e = heard_end o n false m t k in flush_failed n e.0 domain before now s m t h told e.1

-- Good calls.

pub good-add : (calls : List Call) (c : Call) → good_calls (calls ++ c ∷ []) ≡ good_calls calls + good_in c
good-add [] c = omega arith
good-add (x ∷ xs) c = let h = good-add xs c in omega (arith, h)

pub ended_at_most : (n : ℕ) (ok : Bool) (r : Reply) → ended_well (step.End n ok) r ≤ (if ok then 1 else 0)
ended_at_most n true reply.Ended = omega arith
ended_at_most n false reply.Ended = omega arith
ended_at_most n ok r = omega arith

pub good_within : (n : ℕ) (ok : Bool) (old new domain : ℕ) (before now : List Call) → new ≤ old + (if ok then 1 else 0)
    → now ≡ before ++ Invalidation domain n ok ∷ [] → new + good_calls before ≤ old + good_calls now
good_within n ok old new domain before now h told =
    let c : Call = Invalidation domain n ok in
    let k : good_calls now ≡ good_calls before + (if ok then 1 else 0) = ap good_calls told ∙ good-add before c in
    omega (arith, h, k)

-- Where the keeper's domain may not be known.

pub known_flush_refused : (a b : Option State) (begun : Option Reply) (e : Refusal) (domain : ℕ) (calls : List Call) → begun ≡ Some (reply.Refused e)
    → WhereKnown a b (λ s t. MatchOption begun ⊥ (λ x. Takes s step.Begin x t)) → WhereKnown a b (Does (FlushesWith (Err e) domain calls calls))
known_flush_refused a b begun e domain calls is p =
    known_one a b (λ s t. Takes s step.Begin (reply.Refused e) t) (Does (FlushesWith (Err e) domain calls calls)) (rw is at p) (λ s t h. flush_refused e domain calls s t h)

pub known_flush_done : (a b c : Option State) (n : ℕ) (begun o : Option Reply) (ok : Bool) (domain : ℕ) (before now : List Call) → begun ≡ Some (reply.Begun n) → ok ≡ true
    → now ≡ before ++ Invalidation domain n ok ∷ []
    → WhereKnown a b (λ s t. MatchOption begun ⊥ (λ x. Takes s step.Begin x t)) → WhereKnown b c (λ s t. MatchOption o ⊥ (λ r. Takes s (step.End n ok) r t)) → WhereKnown a c (Does (FlushesWith (Ok n) domain before now))
known_flush_done a b c n begun o ok domain before now is well told p q =
    known_both a b c (λ s t. Takes s step.Begin (reply.Begun n) t) (λ s t. MatchOption o ⊥ (λ r. Takes s (step.End n true) r t)) (Does (FlushesWith (Ok n) domain before now))
    (rw is at p) (rw well at q) (λ s m t x y. flush_all_done n o domain before now s m t x (rw well at told) y)

pub known_flush_failed : (a b c : Option State) (n : ℕ) (begun o : Option Reply) (ok : Bool) (domain : ℕ) (before now : List Call) → begun ≡ Some (reply.Begun n) → ok ≡ false
    → now ≡ before ++ Invalidation domain n ok ∷ []
    → WhereKnown a b (λ s t. MatchOption begun ⊥ (λ x. Takes s step.Begin x t)) → WhereKnown b c (λ s t. MatchOption o ⊥ (λ r. Takes s (step.End n ok) r t)) → WhereKnown a c (Does (FlushesWith (Err refusal.SinkFault) domain before now))
known_flush_failed a b c n begun o ok domain before now is well told p q =
    known_both a b c (λ s t. Takes s step.Begin (reply.Begun n) t) (λ s t. MatchOption o ⊥ (λ r. Takes s (step.End n false) r t)) (Does (FlushesWith (Err refusal.SinkFault) domain before now))
    (rw is at p) (rw well at q) (λ s m t x y. flush_all_failed n o domain before now s m t x (rw well at told) y)

pub known_in_one : (a b : Option State) (st : Step) (held : Totals) (o begun : Option Reply) (r : Reply) (domain : ℕ) (calls : List Call) → o ≡ Some r → begun ≡ None
    → WhereKnown a b (Does (UnmapFirst st held o begun)) → WhereKnown a b (Does (UnmapsWith st held r domain calls calls))
known_in_one a b st held o begun r domain calls is none p =
    known_one a b (Does (UnmapFirst st held o begun)) (Does (UnmapsWith st held r domain calls calls)) p (λ s t d. in_one_hold st held o begun r domain calls s t is none d)

pub known_in_vain : (a b : Option State) (st : Step) (held : Totals) (o begun : Option Reply) (r : Reply) (e : Refusal) (domain : ℕ) (calls : List Call) → begun ≡ Some (reply.Refused e) → o ≡ Some r → IsBeginHeard o begun
    → WhereKnown a b (Does (UnmapFirst st held o begun)) → WhereKnown a b (Does (UnmapsWith st held r domain calls calls))
known_in_vain a b st held o begun r e domain calls is ends heard p =
    let full = rw is at heard in
    let same : r ≡ reply.Refused refusal.RingFull = let f = full.0 in cc in
    rw same (known_one a b (Does (UnmapFirst st held o begun)) (Does (UnmapsWith st held (reply.Refused refusal.RingFull) domain calls calls)) p (λ s t d. in_vain st held o begun e domain calls s t is d))

pub known_in_two : (a b c : Option State) (st : Step) (held : Totals) (n : ℕ) (ok : Bool) (o begun last : Option Reply) (r : Reply) (domain : ℕ) (before now : List Call) → begun ≡ Some (reply.Begun n) → last ≡ Some r
    → now ≡ before ++ Invalidation domain n ok ∷ []
    → WhereKnown a b (Does (UnmapFirst st held o begun)) → WhereKnown b c (Does (UnmapAgain st held n ok last)) → WhereKnown a c (Does (UnmapsWith st held r domain before now))
known_in_two a b c st held n ok o begun last r domain before now is ends told p q =
    known_both a b c (Does (UnmapFirst st held o begun)) (Does (UnmapAgain st held n ok (Some r))) (Does (UnmapsWith st held r domain before now))
    p (rw ends at q) (λ s m t x y. in_two_holds st held n ok o begun r domain before now s m t is told x y)
