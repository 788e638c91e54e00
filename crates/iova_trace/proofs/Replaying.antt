-- Two runs of the same steps are alike where memory was refused in neither.
use Rattle.std.proofs.Common.{◌≡◌, ◌≢◌, ◌∙◌, List, [], ◌∷◌, map, refl, sym, ap, subst, inl, inr, Some, ℕ, ◌++◌}
use Rattle.iova_range.specs.declared.refusal.Refusal.TheVariants as refusal
use Rattle.iova_model.specs.declared.step.Step.{Step}
use Rattle.iova_model.specs.declared.step.Reply.{Reply}
use Rattle.iova_model.specs.declared.step.Reply.TheVariants as reply
use Rattle.iova_model.specs.declared.step.Point.TheVariants as point
use Rattle.iova_model.specs.Laws.{PointsOnlyRefuse}
use Rattle.iova_model.specs.Next.{Next, next}
use Rattle.iova_model.specs.State.{State, new_domain}
use Rattle.iova_model.specs.Transcript.{Pair, IsTranscript, after}
use Rattle.iova_line.specs.declared.trace.Trace.{Trace}
use Rattle.iova_trace.specs.Recorded.{HadMemory, RecordsReplay, TranscriptsReplay}
use Rattle.iova_line.specs.Recorded.{trace_of}
use Rattle.iova_trace.specs.Replay.{IsReplayed, IsDone}
use Rattle.iova_trace.proofs.Spellings.{same_trace}
use Rattle.iova_line.specs.Traces.{trace_text}

abbrev replies_of : List Pair → List Reply
replies_of ps = map (λ p. p.reply) ps

abbrev steps_of : List Pair → List Step
steps_of ps = map (λ p. p.step) ps

-- a step with memory does what it does at no point
at_never : PointsOnlyRefuse → (s : State) (p : Pair) → p.reply ≡ (next s p.step p.point).reply → p.reply ≢ reply.Refused refusal.NoMemory
    → next s p.step p.point ≡ next s p.step point.Never
at_never law s p is not = elim (law s p.step p.point) [
  | inl refused ↦ absurd (not (is ∙ refused))
  | inr same ↦ same
]

alike : PointsOnlyRefuse → (s : State) (ps qs : List Pair) → IsTranscript s ps → IsTranscript s qs → steps_of ps ≡ steps_of qs
    → HadMemory (replies_of ps) → HadMemory (replies_of qs) → (replies_of qs ≡ replies_of ps) × (after s qs ≡ after s ps)
alike law s [] [] a b e m n = (refl, refl)
alike law s [] (q ∷ qs) a b e m n = absurd cc
alike law s (p ∷ ps) [] a b e m n = absurd cc
alike law s (p ∷ ps) (q ∷ qs) a b e m n =
    let step_is : p.step ≡ q.step = cc in
    let rest_is : steps_of ps ≡ steps_of qs = cc in
    let same : next s q.step q.point ≡ next s p.step p.point =
    at_never law s q b.0 n.0 ∙ (ap (λ (x : Step). next s x point.Never) (sym step_is) ∙ sym (at_never law s p a.0 m.0)) in
    let states : (next s q.step q.point).state ≡ (next s p.step p.point).state = ap (λ (o : Next). o.state) same in
    let replies : q.reply ≡ p.reply = b.0 ∙ (ap (λ (o : Next). o.reply) same ∙ sym a.0) in
    let rest = alike law (next s p.step p.point).state ps qs a.1 (subst (λ (t : State). IsTranscript t qs) states b.1) rest_is m.1 n.1 in (
      ap (λ (r : Reply). r ∷ replies_of qs) replies ∙ ap (λ (rs : List Reply). p.reply ∷ rs) rest.0,
      ap (λ (t : State). after t qs) states ∙ rest.1,
    )

pub records : PointsOnlyRefuse → RecordsReplay
records law bounds workers pairs written state steps transcript good done =
    let same : trace_of bounds workers pairs ≡ done.trace = same_trace (trace_of bounds workers pairs) done.trace good done.good done.whole in
    let replayed : IsReplayed (Some (trace_of bounds workers pairs)) (Some state) written =
    subst (λ (t : Trace). IsReplayed (Some t) (Some state) written) (sym same) done.replayed in
    let run = replayed.1.run in
    record {
      replies = replayed.0;
      whole = replayed.2;
      alike = λ stored now.
          let printed : replies_of run.pairs ≡ replayed.0 = run.replies in
          let both = alike law (new_domain bounds workers) pairs run.pairs transcript run.transcript (sym run.steps) stored
          (subst HadMemory (sym printed) now) in
          (sym printed ∙ both.0, sym run.state ∙ both.1);
    }

tail_of : List ℕ → List ℕ
tail_of [] = []
tail_of (x ∷ xs) = xs

same_tails : (x : ℕ) (us vs : List ℕ) → (x ∷ us) ≡ (x ∷ vs) → us ≡ vs
unfolding tail_of
same_tails x us vs e = ap tail_of e

same_rest : (front xs ys : List ℕ) → front ++ xs ≡ front ++ ys → xs ≡ ys
same_rest [] xs ys e = e
same_rest (x ∷ front) xs ys e = same_rest front xs ys (same_tails x (front ++ xs) (front ++ ys) e)

pub transcripts_replay : RecordsReplay → TranscriptsReplay
transcripts_replay law = λ bounds workers n steps pairs old new text written state h appended few done.
    let is : text ≡ trace_text (trace_of bounds workers pairs) = same_rest old text (trace_text (trace_of bounds workers pairs)) (sym appended ∙ h.text.0) in
    law bounds workers pairs written state steps h.transcript (h.trace few) (subst (λ (t : List ℕ). IsDone t written state steps) is done)
