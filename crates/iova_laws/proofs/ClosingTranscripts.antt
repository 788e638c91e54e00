-- Clients that close, and those that are gone, in whole transcripts.
use Rattle.std.proofs.Common.{ℕ, zero, suc, ◌≡◌, ◌≤◌, ◌⊎◌, inl, inr, true, List, [], ◌∷◌, ◌++◌, Some, None, refl, sym, ap, ◌∙◌, subst, arith, append_assoc}
use Rattle.std.specs.Prelude.{slice_get}
use Rattle.std.proofs.lemmas.Bool.Decides.{nat_tests}
use Rattle.iova_range.specs.declared.refusal.Refusal.{Refusal}
use Rattle.iova_range.specs.Frames.{Frames}
use Rattle.iova_model.specs.declared.step.Step.{Step}
use Rattle.iova_model.specs.declared.step.Step.TheVariants as step
use Rattle.iova_model.specs.declared.step.Reply.{Reply}
use Rattle.iova_model.specs.declared.step.Reply.TheVariants as reply
use Rattle.iova_model.specs.Clients.{Client, client_with}
use Rattle.iova_model.specs.State.{State}
use Rattle.iova_model.specs.Valid.{IsValid}
use Rattle.iova_model.specs.Next.{next}
use Rattle.iova_model.specs.Transcript.{Pair, IsTranscript, after}
use Rattle.iova_model.specs.Effects.{queued_in, queued_by_closing, Marks, Empties, IsEmptiedAt, IsClosing, IsGone, client_named, unknown_refusal}
use Rattle.iova_model.specs.Laws.{ClientsCloseInOrder, GoneClientsStayGone}
use Rattle.iova_laws.proofs.ClosingSerials.{serial_grows, gone-next}
use Rattle.iova_laws.proofs.Serials.{serial_given}
use Rattle.iova_laws.proofs.Valid.{steps_keep_validity}
use Rattle.iova_laws.proofs.ClosingSteps.{Closes, RefusalLeaves, ClosesOrLeaves, closing_step}
use Rattle.iova_laws.proofs.Outcomes.{Outcome, turned_down, gives, gives_nothing, unmaps, closes, queues_lowest, only_marks, forgets, outcome, found_not_gone}
use Rattle.iova_laws.proofs.RefusalState.{domain_kept}

-- the state after a pair
abbrev next_of : State → Pair → State
next_of s p = (next s p.step p.point).state

-- A client that is gone.

-- each step that names it is refused
gone_refused : (s : State) {st : Step} {r : Reply} {t : State} → Outcome s st r t → (id : ℕ) → client_with id s.clients ≡ None → client_named st ≡ Some id → r ≡ reply.Refused (unknown_refusal s st)
gone_refused s (turned_down st r why) id gone named = ap (λ x. reply.Refused x) (why.unknown id named gone)
gone_refused s (gives w other frames limit c r caches own still_open) id gone named = absurd (found_not_gone w other id s.clients c own named gone)
gone_refused s (gives_nothing w other frames limit c r caches own leaves) id gone named = absurd (found_not_gone w other id s.clients c own named gone)
gone_refused s (unmaps w other lo c r known own still_open held) id gone named = absurd (found_not_gone w other id s.clients c own named gone)
gone_refused s (closes w other c own) id gone named = absurd (found_not_gone w other id s.clients c own named gone)
gone_refused s (queues_lowest w other c r rs known own lowest) id gone named = absurd (found_not_gone w other id s.clients c own named gone)
gone_refused s (only_marks w other c own) id gone named = absurd (found_not_gone w other id s.clients c own named gone)
gone_refused s (forgets w other c own empty) id gone named = absurd (found_not_gone w other id s.clients c own named gone)
gone_refused s o id gone named = absurd cc

-- and queues nothing
refused_queues : (id : ℕ) (st : Step) (r : Reply) (q : Refusal) → (client_named st ≡ Some id → r ≡ reply.Refused q) → queued_in id st r ≡ []
refused_queues id (step.CloseOne w other) (reply.Queued r) q refused = grind (arith, nat_tests, unnamed)
  where
    unnamed : other ≡ id → ⊥
    unnamed same = let both = refused (ap (λ i. Some i) same) in cc
refused_queues id st r q refused = refl

-- in states with as many workers the same refusal is due
unknown_same : (s t : State) (st : Step) → t.workers ≡ s.workers → unknown_refusal t st ≡ unknown_refusal s st
unknown_same s t (step.Alloc w id frames limit) e = ap (λ k. unknown_refusal (record s { workers = k }) (step.Alloc w id frames limit)) e
unknown_same s t (step.Unmap w id lo) e = ap (λ k. unknown_refusal (record s { workers = k }) (step.Unmap w id lo)) e
unknown_same s t (step.Close w id) e = ap (λ k. unknown_refusal (record s { workers = k }) (step.Close w id)) e
unknown_same s t (step.CloseOne w id) e = ap (λ k. unknown_refusal (record s { workers = k }) (step.CloseOne w id)) e
unknown_same s t st e = refl

-- the pairs that name it are refused
abbrev AreRefused : State → ℕ → List Pair → Type 0
AreRefused s id ps = (i : ℕ) (p : Pair) → slice_get ps i ≡ Some p → client_named p.step ≡ Some id → p.reply ≡ reply.Refused (unknown_refusal s p.step)

-- one pair more before those
refused_more : (s t : State) (id : ℕ) (p : Pair) (ps : List Pair) → t.workers ≡ s.workers → (client_named p.step ≡ Some id → p.reply ≡ reply.Refused (unknown_refusal s p.step)) → AreRefused t id ps
    → AreRefused s id (p ∷ ps)
refused_more s t id p ps same now rest zero q is named =
    let one : p ≡ q = cc in
    subst (λ x. client_named x.step ≡ Some id → x.reply ≡ reply.Refused (unknown_refusal s x.step)) one now named
refused_more s t id p ps same now rest (suc i) q is named = rest i q is named ∙ ap (λ r. reply.Refused r) (unknown_same s t q.step same)

-- after the pairs it is still gone, they are refused, and nothing of it is queued
record StaysGone (s : State) (ps : List Pair) (id : ℕ) : Type 0 where
  known : id ≤ (after s ps).serial
  gone : client_with id (after s ps).clients ≡ None
  refused : AreRefused s id ps
  nothing : queued_by_closing id ps ≡ []

-- so it stays, by induction over the pairs
stays_gone : (s : State) (ps : List Pair) (id : ℕ) → IsTranscript s ps → id ≤ s.serial → client_with id s.clients ≡ None → StaysGone s ps id
stays_gone s [] id t given gone = record { known = given; gone = gone; refused = λ i p is named. absurd cc; nothing = refl }
stays_gone s (p ∷ ps) id t given gone =
    let o = outcome s p.step p.point in
    let now = subst (λ r. client_named p.step ≡ Some id → r ≡ reply.Refused (unknown_refusal s p.step)) (sym t.0) (gone_refused s o id gone) in
    let grows = serial_grows s o in
    let rest = stays_gone (next_of s p) ps id t.1 (omega arith) (gone-next s o id given gone) in
    record {
      known = rest.known;
      gone = rest.gone;
      refused = refused_more s (next_of s p) id p ps (domain_kept s o).1 now rest.refused;
      nothing = ap (λ l. l ++ queued_by_closing id ps) (refused_queues id p.step p.reply (unknown_refusal s p.step) now) ∙ rest.nothing;
    }

-- a client that is gone stays so, and the steps that name it are refused
pub gone_clients_stay_gone : GoneClientsStayGone
gone_clients_stay_gone = λ s ps id valid t given gone.
    let stays = stays_gone s ps id t given gone in
    (stays.gone, stays.refused)

-- A client that closes.

-- it is closing after the pairs, or gone
abbrev IsClosed : ℕ → List Frames → State → List Pair → Type 0
IsClosed id old s ps = IsClosing id old ps (after s ps) ⊎ IsGone id old ps (after s ps)

-- with one pair more before those
closing_more : (s : State) (p : Pair) (ps : List Pair) (id : ℕ) (old : List Frames) (k : Closes id old p.step p.reply (next_of s p)) → IsClosed id k.client.holdings (next_of s p) ps
    → IsClosed id old s (p ∷ ps)
closing_more s p ps id old k (inl on) = inl (record {
  client = on.client;
  is = on.is;
  closing = on.closing;
  left = append_assoc (queued_in id p.step p.reply) (queued_by_closing id ps) on.client.holdings ∙ (ap (λ l. queued_in id p.step p.reply ++ l) on.left ∙ k.left);
  none_emptied = none_at;
})
  where
    none_at : (i : ℕ) → IsEmptiedAt (p ∷ ps) i id → ⊥
    none_at zero e =
        let is = e.is in
        let one : p ≡ e.pair = cc in
        k.not_emptied (subst (λ x. Empties id x.step x.reply) (sym one) e.empties)
    none_at (suc i) e = on.none_emptied i (record { pair = e.pair; is = e.is; empties = e.empties })
closing_more s p ps id old k (inr gone) = inr (record {
  known = gone.known;
  gone = gone.gone;
  all = ap (λ l. queued_in id p.step p.reply ++ l) gone.all ∙ k.left;
  index = suc gone.index;
  emptied = record { pair = gone.emptied.pair; is = gone.emptied.is; empties = gone.emptied.empties };
})

-- with the pair that empties it before those
emptied_first : (s : State) (p : Pair) (ps : List Pair) (id : ℕ) (old : List Frames) → RefusalLeaves id old p.step p.reply (next_of s p) → StaysGone (next_of s p) ps id → IsGone id old (p ∷ ps) (after s (p ∷ ps))
emptied_first s p ps id old l stays = record {
  known = stays.known;
  gone = stays.gone;
  all = ap (λ x. x ++ queued_by_closing id ps) l.nothing_queued ∙ (stays.nothing ∙ sym l.nothing);
  index = 0;
  emptied = record { pair = p; is = refl; empties = l.empties };
}

-- with either
closed_first : (s : State) (p : Pair) (ps : List Pair) (id : ℕ) (old : List Frames) → ClosesOrLeaves id old p.step p.reply (next_of s p)
    → ((k : Closes id old p.step p.reply (next_of s p)) → IsClosed id k.client.holdings (next_of s p) ps)
    → (client_with id (next_of s p).clients ≡ None → StaysGone (next_of s p) ps id)
    → IsClosed id old s (p ∷ ps)
closed_first s p ps id old (inl k) on stays = closing_more s p ps id old k (on k)
closed_first s p ps id old (inr l) on stays = inr (emptied_first s p ps id old l (stays l.gone))

-- before any pair
closing_now : (s : State) (id : ℕ) (c : Client) → client_with id s.clients ≡ Some c → c.closing ≡ true → IsClosed id c.holdings s []
closing_now s id c is closing = inl (record { client = c; is = is; closing = closing; left = refl; none_emptied = λ i e. absurd (let none = e.is in cc) })

-- A pair of a client that is closing, or that it marks.
module _ (s : State) (p : Pair) (id : ℕ) (c : Client) (valid : IsValid s) (reply_is : p.reply ≡ (next s p.step p.point).reply) (is : client_with id s.clients ≡ Some c) where
  -- its result
  first_pair : (c.closing ≡ true) ⊎ Marks id p.step p.reply → ClosesOrLeaves id c.holdings p.step p.reply (next_of s p)
  first_pair why = closing_step s id c is (subst (λ r. Outcome s p.step r (next_of s p)) (sym reply_is) (outcome s p.step p.point)) valid.clients.serials why

  -- the client's serial was given
  given_after : id ≤ (next_of s p).serial
  given_after =
      let given = serial_given id 0 c s.clients s.serial valid.clients.serials is in
      let grows = serial_grows s (outcome s p.step p.point) in
      omega arith

-- a client that is closing, or that the first pair marks, closes in order
closes_in_order : (s : State) (p : Pair) (ps : List Pair) (id : ℕ) (c : Client) → IsValid s → IsTranscript s (p ∷ ps) → client_with id s.clients ≡ Some c
    → (c.closing ≡ true) ⊎ Marks id p.step p.reply → IsClosed id c.holdings s (p ∷ ps)
closes_in_order s p [] id c valid t is why =
    closed_first s p [] id c.holdings (first_pair s p id c valid t.0 is why)
    (λ k. closing_now (next_of s p) id k.client k.is k.closing)
    (λ gone. stays_gone (next_of s p) [] id t.1 (given_after s p id c valid t.0 is) gone)
closes_in_order s p (q ∷ ps) id c valid t is why =
    closed_first s p (q ∷ ps) id c.holdings (first_pair s p id c valid t.0 is why)
    (λ k. closes_in_order (next_of s p) q ps id k.client (steps_keep_validity s p.step p.point valid) t.1 k.is (inl k.closing))
    (λ gone. stays_gone (next_of s p) (q ∷ ps) id t.1 (given_after s p id c valid t.0 is) gone)

-- from the pair that marks it on, a client closes in order
pub clients_close_in_order : ClientsCloseInOrder
clients_close_in_order = λ s p ps id c valid t is marks. closes_in_order s p ps id c valid t is (inr marks)
