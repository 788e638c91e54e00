-- A run goes on by one step, and keeps the promises.
use Rattle.std.proofs.Common.{◌≡◌, List, [], ◌∷◌, ◌++◌, refl, sym, ap, ◌∙◌, append_assoc}
use Rattle.std.specs.Prelude.{map}
use Rattle.std.proofs.lemmas.List.{append-nil}
use Rattle.iova_model.specs.declared.step.Step.{Step}
use Rattle.iova_model.specs.declared.step.Reply.{Reply}
use Rattle.iova_model.specs.declared.step.Point.{Point}
use Rattle.iova_model.specs.State.{State}
use Rattle.iova_model.specs.Next.{next}
use Rattle.iova_model.specs.Valid.{IsValid}
use Rattle.iova_model.specs.Transcript.{Pair, IsTranscript, after, IsRun}
use Rattle.iova_model.specs.Promises.{PromisesAreKept, Runs}

-- one pair more
pub transcript_push : (s : State) (ps : List Pair) (p : Pair) → IsTranscript s ps → p.reply ≡ (next (after s ps) p.step p.point).reply → IsTranscript s (ps ++ p ∷ [])
transcript_push s [] p t e = (e, tt)
transcript_push s (x ∷ ps) p t e = (t.0, transcript_push (next s x.step x.point).state ps p t.1 e)

pub after_push : (s : State) (ps : List Pair) (p : Pair) → after s (ps ++ p ∷ []) ≡ (next (after s ps) p.step p.point).state
after_push s [] p = refl
after_push s (x ∷ ps) p = after_push (next s x.step x.point).state ps p

steps_push : (ps : List Pair) (p : Pair) → map (λ x. x.step) (ps ++ p ∷ []) ≡ map (λ x. x.step) ps ++ p.step ∷ []
steps_push [] p = refl
steps_push (x ∷ ps) p = ap (λ l. x.step ∷ l) (steps_push ps p)

replies_push : (ps : List Pair) (p : Pair) → map (λ x. x.reply) (ps ++ p ∷ []) ≡ map (λ x. x.reply) ps ++ p.reply ∷ []
replies_push [] p = refl
replies_push (x ∷ ps) p = ap (λ l. x.reply ∷ l) (replies_push ps p)

-- of no step
pub run_none : (s : State) (replies : List Reply) → IsRun s s [] replies replies
run_none s replies = record { pairs = []; transcript = tt; state = refl; steps = refl; replies = append-nil replies }

pub run_more : (old mid new : State) (steps : List Step) (before replies : List Reply) (st : Step) (m : Point) (r : Reply) → IsRun old mid steps before replies → r ≡ (next mid st m).reply → new ≡ (next mid st m).state → IsRun old new (steps ++ st ∷ []) before (replies ++ r ∷ [])
run_more old mid new steps before replies st m r h e f =
    let p : Pair = record { step = st; point = m; reply = r } in
    record {
      pairs = h.pairs ++ p ∷ [];
      transcript = transcript_push old h.pairs p h.transcript (e ∙ ap (λ s. (next s st m).reply) (sym h.state));
      state = after_push old h.pairs p ∙ (ap (λ s. (next s st m).state) h.state ∙ sym f);
      steps = steps_push h.pairs p ∙ ap (λ l. l ++ st ∷ []) h.steps;
      replies = ap (λ l. before ++ l) (replies_push h.pairs p) ∙ (sym (append_assoc before (map (λ x. x.reply) h.pairs) (r ∷ [])) ∙ ap (λ l. l ++ r ∷ []) h.replies);
    }

-- by the law of promises
pub run_keeps : PromisesAreKept → (old new : State) (taken : List Step) (before now : List Reply) → IsValid old → IsRun old new taken before now → Runs old new taken before now
run_keeps law old new taken before now valid run = record { run = run; kept = law old run.pairs valid run.transcript }
