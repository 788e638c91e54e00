-- A step more on a log.
use Rattle.std.proofs.Common.{◌≡◌, ◌≤◌, ◌⊎◌, inl, inr, true, false, [], ◌∷◌, ◌++◌, length, Option, Some, None, refl, sym, ap, ◌∙◌, subst, arith, append-nil}
use Rattle.std.proofs.lemmas.List.{length_push}
use Rattle.iova_model.specs.declared.step.Step.{Step}
use Rattle.iova_model.specs.declared.step.Reply.{Reply}
use Rattle.iova_model.specs.declared.step.Point.{Point}
use Rattle.iova_model.specs.State.{State, new_domain}
use Rattle.iova_model.specs.Next.{next}
use Rattle.iova_model.specs.Transcript.{Pair, IsTranscript, after}
use Rattle.iova_model.specs.Laws.{StepsKeepTheDomain}
use Rattle.iova_model.proofs.Runs.{transcript_push, after_push}
use Rattle.iova_keep.specs.Steps.{Takes}
use Rattle.iova_keep.specs.StepLogs.{StepLog, StoresPair, Stores, LogGoesOn, GoesOn, unrecorded, recorded, IsLogOf, IsRecorded}

pub takes : (s : State) (st : Step) (m : Point) (r : Reply) (t : State) → r ≡ (next s st m).reply → t ≡ (next s st m).state → Takes s st r t
unfolding Takes
takes s st m r t e f = (m, e, f)

same_domain : (s t : State) → t.bounds ≡ s.bounds → t.workers ≡ s.workers → new_domain t.bounds t.workers ≡ new_domain s.bounds s.workers
same_domain s t e f = λ i. new_domain (e i) (f i)

-- the log has the pair, or ends
log_goes_on : (s t : State) (st : Step) (m : Point) (r : Reply) (log new : StepLog) → IsLogOf log s → r ≡ (next s st m).reply → t ≡ (next s st m).state
    → new_domain t.bounds t.workers ≡ new_domain s.bounds s.workers → StoresPair log (record { step = st; point = m; reply = r }) new → IsLogOf new t
log_goes_on s t st m r log new is e f same (inl more) =
    let d = new_domain s.bounds s.workers in
    let p : Pair = record { step = st; point = m; reply = r } in
    let here : after d log.pairs ≡ s = is.leaves more.0 in
    let pushed : IsTranscript d (log.pairs ++ p ∷ []) = transcript_push d log.pairs p is.transcript (e ∙ ap (λ u. (next u st m).reply) (sym here)) in
    let left : after d (log.pairs ++ p ∷ []) ≡ t = after_push d log.pairs p ∙ (ap (λ u. (next u st m).state) here ∙ sym f) in
    subst (λ l. IsLogOf l t) (sym more.2) (record {
      fits = omega (arith, length_push log.pairs p, more.1);
      transcript = subst (λ u. IsTranscript u (log.pairs ++ p ∷ [])) (sym same) pushed;
      leaves = λ (h : true ≡ true). ap (λ u. after u (log.pairs ++ p ∷ [])) same ∙ left;
    })
log_goes_on s t st m r log new is e f same (inr stops) =
    subst (λ l. IsLogOf l t) (sym stops.1) (record { fits = is.fits; transcript = subst (λ d. IsTranscript d log.pairs) (sym same) is.transcript; leaves = λ (h : false ≡ true). cc })

pub recorded_goes_on : (s t : State) (st : Step) (m : Point) (r : Reply) (old new : Option StepLog) → StepsKeepTheDomain → IsRecorded old s → r ≡ (next s st m).reply → t ≡ (next s st m).state
    → Stores old (record { step = st; point = m; reply = r }) new → IsRecorded new t
recorded_goes_on s t st m r None new kept is e f stores = subst (λ o. IsRecorded o t) (sym stores) tt
recorded_goes_on s t st m r (Some log) None kept is e f stores = absurd stores
recorded_goes_on s t st m r (Some log) (Some new) kept is e f stores =
    let k = kept s st m in
    log_goes_on s t st m r log new is e f (same_domain s t (ap (λ u. u.bounds) f ∙ k.0) (ap (λ u. u.workers) f ∙ k.1)) stores

-- What steps make of a log is what any one of them makes of it, none, or some and then others.

pair_goes_on : (old new : StepLog) (p : Pair) → StoresPair old p new → LogGoesOn old new
pair_goes_on old new p (inl more) = subst (λ l. LogGoesOn old l) (sym more.2) (record {
  more = p ∷ [];
  appended = refl;
  room = refl;
  full = λ (h : old.recording ≡ true) (k : true ≡ false). cc;
  ended = λ (h : old.recording ≡ false). cc;
})
pair_goes_on old new p (inr stops) = subst (λ l. LogGoesOn old l) (sym stops.1) (record {
  more = [];
  appended = sym (append-nil old.pairs);
  room = refl;
  full = λ (h : old.recording ≡ true) (k : false ≡ false). is_full stops.0 h;
  ended = λ (h : old.recording ≡ false). λ i. record { recording = sym h i; room = old.room; pairs = old.pairs };
})
  where
    is_full : (old.recording ≡ false) ⊎ (old.room ≤ length old.pairs) → old.recording ≡ true → old.room ≤ length old.pairs
    is_full (inl e) h = absurd cc
    is_full (inr f) h = f

pub stores_goes_on : (old new : Option StepLog) (p : Pair) → Stores old p new → GoesOn old new
stores_goes_on None new p e = subst (λ o. GoesOn None o) (sym e) unrecorded
stores_goes_on (Some old) None p e = absurd e
stores_goes_on (Some old) (Some new) p e = recorded old new (pair_goes_on old new p e)
