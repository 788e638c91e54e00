-- What a step may be answered, what it queues, and how it moves the number of good flushes.
use Rattle.std.proofs.Common.{ℕ, ◌≡◌, ◌+◌, ◌==◌, inl, inr, true, false, List, [], ◌∷◌, ◌++◌, Option, Some, None, refl, ap, arith, ◌≢◌, ◌∙◌, Bool}
use Rattle.std.specs.Prelude.{find, if◌then◌else◌}
use Rattle.std.proofs.lemmas.Bool.Decides.{nat_tests}
use Rattle.iova_range.specs.declared.refusal.Refusal.{Refusal}
use Rattle.iova_range.specs.declared.refusal.Refusal.TheVariants as refusal
use Rattle.iova_range.specs.Frames.{Frames}
use Rattle.iova_range.specs.Sizes.{need}
use Rattle.iova_model.specs.declared.step.Step.{Step}
use Rattle.iova_model.specs.declared.step.Step.TheVariants as step
use Rattle.iova_model.specs.declared.step.Reply.{Reply}
use Rattle.iova_model.specs.declared.step.Reply.TheVariants as reply
use Rattle.iova_model.specs.declared.step.Point.{Point}
use Rattle.iova_model.specs.Clients.{Client, client_of, begins_at, change_client, with_mark, new_client, with_holding, without_holding}
use Rattle.iova_model.specs.State.{State}
use Rattle.iova_model.specs.Next
use Rattle.iova_model.specs.Effects.{IsReplyTo, ended_well, to_queue, client_named, held_in, held_by}
use Rattle.iova_model.specs.Laws.{StepsAreAnsweredInKind, StepsMoveGood, QueuedWereHeld, OthersKeepTheirHoldings}
use Rattle.iova_laws.proofs.ClosingSerials.{found-changed_other, found-forgotten_other}
use Rattle.iova_laws.proofs.Tests.{unless_each}
use Rattle.iova_laws.proofs.ValidFound.{found_at}
use Rattle.iova_laws.proofs.Outcomes.{Outcome, IsOwned, turned_down, opens, gives, unmaps, ends, closes, queues_lowest, only_marks, forgets, outcome}

-- Good flushes.

refused_ends_none : (st : Step) (r : Refusal) → ended_well st (reply.Refused r) ≡ 0
refused_ends_none (step.End n ok) r = refl
refused_ends_none st r = refl

good_moves : (s : State) {st : Step} {r : Reply} {t : State} → Outcome s st r t → t.flushes.good ≡ s.flushes.good + ended_well st r
good_moves s (turned_down st r why) = let e = refused_ends_none st r in omega (arith, e)
good_moves s (ends n true is) = refl
good_moves s (ends n false is) = omega arith
good_moves s o = omega arith

pub steps_move_good : StepsMoveGood
steps_move_good = λ s st m. good_moves s (outcome s st m)

-- What is queued.

-- a worker's own client is found for it
owner_finds : (w id : ℕ) (clients : List Client) (c : Client) → IsOwned w id clients c → client_of w id clients ≡ Some c
owner_finds w id clients c own =
    let mine : (c.worker == w) ≡ true = let e = own.worker in grind (arith, nat_tests) in rw (own.is, mine) refl

same_range : (r q : Frames) → reply.Queued r ≡ reply.Queued q → r ≡ q
same_range r q e = cc

queued_held : (s : State) {st : Step} {r : Reply} {t : State} → Outcome s st r t → (q : Frames) → r ≡ reply.Queued q → to_queue s st ≡ Some q
queued_held s (unmaps w id lo c r known own still_open found) q e =
    rw (known, owner_finds w id s.clients c own, still_open, found) (ap (λ x. Some x) (same_range r q e))
queued_held s (queues_lowest w id c r rs known own lowest) q e =
    rw (known, owner_finds w id s.clients c own, lowest) (ap (λ x. Some x) (same_range r q e))
queued_held s o q e = absurd cc

pub queued_were_held : QueuedWereHeld
queued_were_held = λ s st m r e. queued_held s (outcome s st m) r e

-- Other clients.

held-push : (id : ℕ) (clients : List Client) (w serial : ℕ) (sac : Bool) → held_by id (clients ++ new_client serial w sac ∷ []) ≡ held_by id clients
held-push id [] w serial sac = from_new (serial == id)
  where
    from_new : (b : Bool) → held_in (if b then Some (new_client serial w sac) else None) ≡ []
    from_new true = refl
    from_new false = refl
held-push id (c ∷ cs) w serial sac = grind (arith, nat_tests, held-push id cs w serial sac)

-- a client that the step doesn't name keeps what it has
others_keep : (s : State) {st : Step} {r : Reply} {t : State} → Outcome s st r t → (id : ℕ) → (client_named st ≡ Some id → ⊥) → held_by id t.clients ≡ held_by id s.clients
others_keep s (opens w sac) id unnamed = held-push id s.clients w (s.serial + 1) sac
others_keep s (gives w other frames limit c r caches own still_open) id unnamed =
    ap held_in (found-changed_other id other (with_holding r) s.clients (λ x. refl) (λ same. unnamed (ap (λ i. Some i) same)))
others_keep s (unmaps w other lo c r known own still_open found) id unnamed =
    ap held_in (found-changed_other id other (without_holding r.lo) s.clients (λ x. refl) (λ same. unnamed (ap (λ i. Some i) same)))
others_keep s (closes w other c own) id unnamed =
    ap held_in (found-changed_other id other with_mark s.clients (λ x. refl) (λ same. unnamed (ap (λ i. Some i) same)))
others_keep s (queues_lowest w other c r rs known own lowest) id unnamed =
    let apart : other ≢ id = λ same. unnamed (ap (λ i. Some i) same) in
    ap held_in (found-changed_other id other (without_holding r.lo) (change_client other with_mark s.clients) (λ x. refl) apart ∙ found-changed_other id other with_mark s.clients (λ x. refl) apart)
others_keep s (only_marks w other c own) id unnamed =
    ap held_in (found-changed_other id other with_mark s.clients (λ x. refl) (λ same. unnamed (ap (λ i. Some i) same)))
others_keep s (forgets w other c own empty) id unnamed =
    ap held_in (found-forgotten_other id other s.clients (λ same. unnamed (ap (λ i. Some i) same)))
others_keep s o id unnamed = refl

pub others_keep_their_holdings : OthersKeepTheirHoldings
others_keep_their_holdings = λ s st m id unnamed. others_keep s (outcome s st m) id unnamed

-- Answers in kind.

abbrev InKind : Step → Next.Next → Type 0
InKind st n = IsReplyTo st n.reply

module _ (s : State) where
  if_worker : (st : Step) (w : ℕ) (n : Next.Next) → IsReplyTo st (reply.Refused refusal.NoWorker) → InKind st n → InKind st (Next.unless (Next.worker_tests s w) s n)
  if_worker st w n none comes = unless_each (InKind st) s (Next.worker_tests s w) n ((λ e. none), λ e. tt) (λ all. comes)

  given_kind : (found : Next.Found) (u : State) (w id frames limit size : ℕ) → InKind (step.Alloc w id frames limit) (Next.give found u id size)
  given_kind Next.Nowhere u w id frames limit size = inr (inr (inr (inr (inr (inr (inr (inl refl)))))))
  given_kind Next.OutOfMemory u w id frames limit size = inr (inr (inr (inr (inr (inr (inl refl))))))
  given_kind (Next.At lo) u w id frames limit size = tt

  alloc_to_kind : (o : Option Client) (w id frames limit : ℕ) (m : Point) → InKind (step.Alloc w id frames limit) (Next.alloc_to o s w id (need frames) limit m)
  alloc_to_kind None w id frames limit m = inr (inr (inr (inl refl)))
  alloc_to_kind (Some c) w id frames limit m =
      let size = need frames in
      unless_each (InKind (step.Alloc w id frames limit)) s (Next.ledger_tests c m) (Next.give_from (Next.walk s w c.sac size limit m) id size)
      ((λ e. inr (inr (inr (inr (inl refl))))), λ e. ((λ e. inr (inr (inr (inr (inr (inl refl)))))), λ e. ((λ e. inr (inr (inr (inr (inr (inr (inl refl))))))), λ e. tt)))
      (λ all. let t = Next.walk s w c.sac size limit m in given_kind t.found t.state w id frames limit size)

  queue_kind : (st : Step) (u : State) (w id : ℕ) (r : Frames) → IsReplyTo st (reply.Refused refusal.RingFull) → IsReplyTo st (reply.Queued r) → InKind st (Next.queue u w id r)
  queue_kind st u w id r full queued =
      let d = Next.after_drain u w w in
      let n : Next.Next = record { reply = reply.Queued r; state = Next.with_entry d w id r } in
      unless_each (InKind st) u (Next.full_tests d w) n ((λ e. full), λ e. tt) (λ all. queued)

  unmap_held_kind : (held : Option Frames) (w id lo : ℕ) (holdings : List Frames) → find (begins_at lo) holdings ≡ held → InKind (step.Unmap w id lo) (Next.unmap_held held s w id)
  unmap_held_kind None w id lo holdings is = inr (inr (inr (inl refl)))
  unmap_held_kind (Some r) w id lo holdings is = queue_kind (step.Unmap w id lo) s w id r (inr (inr (inr (inr (inl refl))))) (found_at lo r holdings is)

  unmap_of_kind : (o : Option Client) (w id lo : ℕ) → InKind (step.Unmap w id lo) (Next.unmap_of o s w id lo)
  unmap_of_kind None w id lo = inr (inl refl)
  unmap_of_kind (Some c) w id lo =
      let held = find (begins_at lo) c.holdings in
      unless_each (InKind (step.Unmap w id lo)) s (Next.closing_tests c) (Next.unmap_held held s w id) ((λ e. inr (inr (inl refl))), λ e. tt) (λ all. unmap_held_kind held w id lo c.holdings refl)

  close_of_kind : (o : Option Client) (w id : ℕ) → InKind (step.Close w id) (Next.close_of o s id)
  close_of_kind None w id = inr (inl refl)
  close_of_kind (Some c) w id = tt

  close_lowest_kind : (rs : List Frames) (w id : ℕ) → InKind (step.CloseOne w id) (Next.close_lowest rs s w id)
  close_lowest_kind [] w id = tt
  close_lowest_kind (r ∷ rs) w id = queue_kind (step.CloseOne w id) (Next.with_clients s (change_client id with_mark s.clients)) w id r (inr (inr (inl refl))) tt

  close_one_of_kind : (o : Option Client) (w id : ℕ) → InKind (step.CloseOne w id) (Next.close_one_of o s w id)
  close_one_of_kind None w id = inr (inl refl)
  close_one_of_kind (Some c) w id = close_lowest_kind c.holdings w id

in_kind : (s : State) (st : Step) (m : Point) → InKind st (Next.next s st m)
in_kind s (step.Reserve lo hi) m =
    unless_each (InKind (step.Reserve lo hi)) s (Next.reserve_tests s lo hi m) (Next.reserve_window s (Next.from_to lo hi))
    ((λ e. inl refl), λ e. ((λ e. inr (inl refl)), λ e. ((λ e. inr (inr (inl refl))), λ e. ((λ e. inr (inr (inr (inl refl)))), λ e. tt)))) (λ all. tt)
in_kind s (step.Open w sac) m =
    let n : Next.Next = record { reply = reply.Opened (s.serial + 1); state = Next.with_new_client s w sac } in
    unless_each (InKind (step.Open w sac)) s (Next.open_tests s w m) n
    ((λ e. inl refl), λ e. ((λ e. inr (inl refl)), λ e. ((λ e. inr (inr (inl refl))), λ e. ((λ e. inr (inr (inr (inl refl)))), λ e. tt)))) (λ all. tt)
in_kind s (step.Alloc w id frames limit) m =
    unless_each (InKind (step.Alloc w id frames limit)) s (Next.alloc_tests s w frames) (Next.alloc_to (client_of w id s.clients) s w id (need frames) limit m)
    ((λ e. inl refl), λ e. ((λ e. inr (inl refl)), λ e. ((λ e. inr (inr (inl refl))), λ e. tt))) (λ all. alloc_to_kind s (client_of w id s.clients) w id frames limit m)
in_kind s (step.Unmap w id lo) m = if_worker s (step.Unmap w id lo) w (Next.unmap_of (client_of w id s.clients) s w id lo) (inl refl) (unmap_of_kind s (client_of w id s.clients) w id lo)
in_kind s step.Begin m =
    unless_each (InKind step.Begin) s (Next.begin_tests s.flushes) _ ((λ e. inl refl), λ e. ((λ e. inr (inl refl)), λ e. tt)) (λ all. tt)
in_kind s (step.End n ok) m = unless_each (InKind (step.End n ok)) s (Next.end_tests s.flushes n) _ ((λ e. inl refl), λ e. tt) (λ all. tt)
in_kind s (step.Drain q w) m = unless_each (InKind (step.Drain q w)) s (Next.drain_tests s q w) _ ((λ e. inl refl), λ e. tt) (λ all. tt)
in_kind s (step.Close w id) m = if_worker s (step.Close w id) w (Next.close_of (client_of w id s.clients) s id) (inl refl) (close_of_kind s (client_of w id s.clients) w id)
in_kind s (step.CloseOne w id) m = if_worker s (step.CloseOne w id) w (Next.close_one_of (client_of w id s.clients) s w id) (inl refl) (close_one_of_kind s (client_of w id s.clients) w id)

pub steps_are_answered_in_kind : StepsAreAnsweredInKind
steps_are_answered_in_kind = in_kind
