-- Rounds: none, one, and further ones after others.
use Rattle.std.proofs.Common.{ℕ, ◌≡◌, Bool, List, [], ◌∷◌, ◌++◌, refl, sym, ap, ◌∙◌, append-nil, append_assoc}
use Rattle.iova_model.specs.declared.step.Step.TheVariants as step
use Rattle.iova_model.specs.declared.step.Reply.{Reply}
use Rattle.iova_sink.specs.Calls.{Invalidation, Call}
use Rattle.iova_keep.specs.declared.flush_history.FlushEvent.{FlushEvent}
use Rattle.iova_keep.specs.declared.flush_history.FlushEvent.TheVariants as flush_event
use Rattle.iova_keep.specs.FlushEvents.{flush_events, Round, events_of, calls_of, MakesRounds}

-- no round was made
pub no_round : (domain : ℕ) (es : List FlushEvent) (cs : List Call) → MakesRounds domain es es cs cs
no_round domain es cs = record { rounds = []; events = sym (append-nil es); calls = sym (append-nil cs) }

-- one round was made
pub one_round : (domain n : ℕ) (ok : Bool) (end : Reply) (old new : List FlushEvent) (before now : List Call)
    → new ≡ ((old ++ flush_event.Began n ∷ []) ++ flush_event.Asked n ok ∷ []) ++ flush_events (step.End n ok) end
    → now ≡ before ++ Invalidation domain n ok ∷ [] → MakesRounds domain old new before now
one_round domain n ok end old new before now is told =
    let ends : List FlushEvent = flush_events (step.End n ok) end in
    let a : ((old ++ flush_event.Began n ∷ []) ++ flush_event.Asked n ok ∷ []) ++ ends
    ≡ (old ++ flush_event.Began n ∷ []) ++ (flush_event.Asked n ok ∷ ends) = append_assoc (old ++ flush_event.Began n ∷ []) (flush_event.Asked n ok ∷ []) ends in
    let b : (old ++ flush_event.Began n ∷ []) ++ (flush_event.Asked n ok ∷ ends) ≡ old ++ (flush_event.Began n ∷ flush_event.Asked n ok ∷ ends) =
    append_assoc old (flush_event.Began n ∷ []) (flush_event.Asked n ok ∷ ends) in
    let c : old ++ (flush_event.Began n ∷ flush_event.Asked n ok ∷ ends) ≡ old ++ (flush_event.Began n ∷ flush_event.Asked n ok ∷ (ends ++ [])) =
    ap (λ (es : List FlushEvent). old ++ (flush_event.Began n ∷ flush_event.Asked n ok ∷ es)) (sym (append-nil ends)) in
    record {
      rounds = record { number = n; ok = ok; end = end } ∷ [];
      events = is ∙ a ∙ b ∙ c;
      calls = told;
    }

-- rounds after rounds
pub events_of-more : (rs ss : List Round) → events_of (rs ++ ss) ≡ events_of rs ++ events_of ss
events_of-more [] ss = refl
events_of-more (r ∷ rs) ss =
    let ends : List FlushEvent = flush_events (step.End r.number r.ok) r.end in
    ap (λ (es : List FlushEvent). flush_event.Began r.number ∷ flush_event.Asked r.number r.ok ∷ es)
    (ap (λ (es : List FlushEvent). ends ++ es) (events_of-more rs ss) ∙ sym (append_assoc ends (events_of rs) (events_of ss)))

pub calls_of-more : (domain : ℕ) (rs ss : List Round) → calls_of domain (rs ++ ss) ≡ calls_of domain rs ++ calls_of domain ss
calls_of-more domain [] ss = refl
calls_of-more domain (r ∷ rs) ss = ap (λ (cs : List Call). Invalidation domain r.number r.ok ∷ cs) (calls_of-more domain rs ss)

pub then_rounds : (domain : ℕ) (old mid new : List FlushEvent) (before between now : List Call)
    → MakesRounds domain old mid before between → MakesRounds domain mid new between now
    → MakesRounds domain old new before now
then_rounds domain old mid new before between now one more = record {
  rounds = one.rounds ++ more.rounds;
  events = more.events ∙ ap (λ (es : List FlushEvent). es ++ events_of more.rounds) one.events
      ∙ append_assoc old (events_of one.rounds) (events_of more.rounds)
      ∙ ap (λ (es : List FlushEvent). old ++ es) (sym (events_of-more one.rounds more.rounds));
  calls = more.calls ∙ ap (λ (cs : List Call). cs ++ calls_of domain more.rounds) one.calls
      ∙ append_assoc before (calls_of domain one.rounds) (calls_of domain more.rounds)
      ∙ ap (λ (cs : List Call). before ++ cs) (sym (calls_of-more domain one.rounds more.rounds));
}
