-- What a step of the domain does to its flushes and its rings, and to what a client holds.
use Rattle.std.proofs.Common.{◌≡◌, ◌+◌, ◌<◌, ◌≤◌, ◌==◌, ◌⊎◌, inl, inr, ℕ, zero, suc, Bool, true, false, if◌then◌else◌, List, [], ◌∷◌, ◌++◌, length, Option, Some, None, find, refl, sym, ap, ◌∙◌, subst, arith, sum_by, nat_lt}
use Rattle.std.specs.Prelude.{slice_index_or, slice_set}
use Rattle.std.proofs.lemmas.Bool.{not-false}
use Rattle.std.proofs.lemmas.Bool.Decides.{nat_tests}
use Rattle.iova_range.specs.declared.refusal.Refusal.{Refusal}
use Rattle.iova_range.specs.Frames.{Frames, covers}
use Rattle.iova_range.specs.Sizes.{need}
use Rattle.iova_model.specs.declared.entry.Entry.{Entry}
use Rattle.iova_model.specs.declared.step.Step.{Step}
use Rattle.iova_model.specs.declared.step.Step.TheVariants as step
use Rattle.iova_model.specs.declared.step.Reply.{Reply}
use Rattle.iova_model.specs.declared.step.Reply.TheVariants as reply
use Rattle.iova_model.specs.declared.step.Point.{Point}
use Rattle.iova_model.specs.Flushes.{Flushes, entry_range, flushed_front, unflushed_rest, with_flight, after_end, is_in_flight}
use Rattle.iova_model.specs.Clients.{Client, client_with, client_of, change_client, with_holding, without_holding, with_mark, begins_at}
use Rattle.iova_model.specs.State.{State}
use Rattle.iova_model.specs.Valid.{IsValid}
use Rattle.iova_model.specs.Next
use Rattle.iova_model.specs.Next.{next}
use Rattle.iova_model.specs.Effects.{client_named, held_in, held_by, IsReplyTo}
use Rattle.iova_model.specs.Laws.{OthersKeepTheirHoldings, StepsAreAnsweredInKind}
use Rattle.iova_model.proofs.Unless.{AllFail, unless_cases}
use Rattle.iova_laws.proofs.Finds.{owned, changed_found, walk_walked, first_held, held_at}
use Rattle.iova_laws.proofs.Weights.{ranges_are, ranges-insert, ranges-remove}
use Rattle.iova_core.specs.Domain.{IsStepOf}
use Rattle.iova_cache.specs.Worlds.{has_frame}

-- the first of two still holds, made into another
pub first_by : {A B X : Type 0} → (A → B) → A ⊎ X → B ⊎ X
first_by f (inl a) = inl (f a)
first_by f (inr x) = inr x

pub then_first : {A B X : Type 0} → A ⊎ X → (A → B ⊎ X) → B ⊎ X
then_first (inl a) f = f a
then_first (inr x) f = inr x

-- The frame waits in a ring, with this number or a greater one.

abbrev pub WaitsIn : ℕ → ℕ → List Entry → Type 0
WaitsIn frame least [] = ⊥
WaitsIn frame least (e ∷ es) = ((covers frame (entry_range e) ≡ true) × (least ≤ e.count)) ⊎ WaitsIn frame least es

-- in one of several
abbrev pub WaitsSome : ℕ → ℕ → List (List Entry) → Type 0
WaitsSome frame least [] = ⊥
WaitsSome frame least (r ∷ rs) = WaitsIn frame least r ⊎ WaitsSome frame least rs

module _ (frame least : ℕ) where
  pub waits_append : (es : List Entry) (e : Entry) → WaitsIn frame least es → WaitsIn frame least (es ++ e ∷ [])
  waits_append [] e h = absurd h
  waits_append (x ∷ es) e (inl h) = inl h
  waits_append (x ∷ es) e (inr h) = inr (waits_append es e h)

  pub waits_last : (es : List Entry) (e : Entry) → covers frame (entry_range e) ≡ true → least ≤ e.count → WaitsIn frame least (es ++ e ∷ [])
  waits_last [] e has late = inl (has, late)
  waits_last (x ∷ es) e has late = inr (waits_last es e has late)

  -- what a drain leaves
  waits_drained : (finish : ℕ) (es : List Entry) → WaitsIn frame least es → WaitsIn frame least (unflushed_rest finish es) ⊎ (least < finish)
  waits_drained finish [] h = absurd h
  waits_drained finish (e ∷ es) h = step (nat_lt e.count finish) refl h (waits_drained finish es)
    where
      step : (b : Bool) → nat_lt e.count finish ≡ b → WaitsIn frame least (e ∷ es) → (WaitsIn frame least es → WaitsIn frame least (unflushed_rest finish es) ⊎ (least < finish))
          → WaitsIn frame least (if b then unflushed_rest finish es else e ∷ es) ⊎ (least < finish)
      step true is (inl h) rest = let late = h.1 in inr (grind (arith, nat_tests))
      step true is (inr h) rest = rest h
      step false is h rest = inl h

  -- another ring at a place
  waits_set : (X : Type 0) (rs : List (List Entry)) (q : ℕ) (new : List Entry) → (WaitsIn frame least (slice_index_or rs q []) → WaitsIn frame least new ⊎ X) → WaitsSome frame least rs → WaitsSome frame least (slice_set rs q new) ⊎ X
  waits_set X [] q new one h = absurd h
  waits_set X (r ∷ rs) zero new one (inl h) = first_by (λ w. inl w) (one h)
  waits_set X (r ∷ rs) zero new one (inr h) = inl (inr h)
  waits_set X (r ∷ rs) (suc q) new one (inl h) = inl (inl h)
  waits_set X (r ∷ rs) (suc q) new one (inr h) = first_by (λ w. inr w) (waits_set X rs q new one h)

  waits_placed : (rs : List (List Entry)) (q : ℕ) (new : List Entry) → q < length rs → WaitsIn frame least new → WaitsSome frame least (slice_set rs q new)
  waits_placed [] q new lt h = absurd (omega arith)
  waits_placed (r ∷ rs) zero new lt h = inl h
  waits_placed (r ∷ rs) (suc q) new lt h = inr (waits_placed rs q new (omega arith) h)

length_set : (rs : List (List Entry)) (q : ℕ) (new : List Entry) → length (slice_set rs q new) ≡ length rs
length_set [] q new = refl
length_set (r ∷ rs) zero new = refl
length_set (r ∷ rs) (suc q) new = omega (arith, length_set rs q new)

-- What a step does to the flushes: nothing, or one begins, or one ends.
abbrev pub FlushMoves : State → Step → Reply → State → Type 0
FlushMoves s st r t =
    (t.flushes ≡ s.flushes)
    ⊎ (((st ≡ step.Begin) × ((r ≡ reply.Begun (s.flushes.start + 1)) × (t.flushes ≡ with_flight s.flushes)))
    ⊎ ((n : ℕ) × ((ok : Bool) × ((st ≡ step.End n ok) × ((r ≡ reply.Ended) × ((is_in_flight n s.flushes.in_flight ≡ true) × (t.flushes ≡ after_end s.flushes n ok)))))))

-- What waits in the rings waits on, or the flushes that ended well have passed it.
module _ (frame least : ℕ) (s : State) where
  abbrev RingsKeep : State → Type 0
  RingsKeep t = WaitsSome frame least s.rings → WaitsSome frame least t.rings ⊎ (least < s.flushes.finish)

  abbrev Keeps : Step → Next.Next → Type 0
  Keeps st n = RingsKeep n.state × FlushMoves s st n.reply n.state

  same_keeps : (st : Step) (r : Reply) (t : State) → t.rings ≡ s.rings → t.flushes ≡ s.flushes → RingsKeep t × FlushMoves s st r t
  same_keeps st r t rings flushes = ((λ h. inl (subst (λ rs. WaitsSome frame least rs) (sym rings) h)), inl flushes)

  drained_keep : (q w : ℕ) → RingsKeep (Next.after_drain s q w)
  drained_keep q w h = waits_set frame least (least < s.flushes.finish) s.rings q (unflushed_rest s.flushes.finish (Next.ring_at s q)) (waits_drained frame least s.flushes.finish (Next.ring_at s q)) h

  entry_keep : (d : State) (w id : ℕ) (r : Frames) → RingsKeep d → RingsKeep (Next.with_entry d w id r)
  entry_keep d w id r before h =
      let e : Entry = record { lo = r.lo; len = r.len; count = d.flushes.start } in
      then_first (before h) (λ more. waits_set frame least (least < s.flushes.finish) d.rings w (Next.ring_at d w ++ e ∷ []) (λ h. inl (waits_append frame least (Next.ring_at d w) e h)) more)

  queue_keeps : (st : Step) (w id : ℕ) (r : Frames) → Keeps st (Next.queue s w id r)
  queue_keeps st w id r =
      let d = Next.after_drain s w w in
      unless_cases (λ n. Keeps st n) s (Next.full_tests d w) (record { reply = reply.Queued r; state = Next.with_entry d w id r })
      (λ x. ((λ h. inl h), inl refl)) (λ all. (entry_keep d w id r (drained_keep w w), inl refl))

  give_keeps : (st : Step) (t : State) (id size : ℕ) (found : Next.Found) → t.rings ≡ s.rings → t.flushes ≡ s.flushes → Keeps st (Next.give found t id size)
  give_keeps st t id size Next.Nowhere rings flushes = same_keeps st _ t rings flushes
  give_keeps st t id size Next.OutOfMemory rings flushes = same_keeps st _ t rings flushes
  give_keeps st t id size (Next.At lo) rings flushes = same_keeps st _ (Next.give (Next.At lo) t id size).state rings flushes

  alloc_to_keeps : (st : Step) (o : Option Client) (w id size limit : ℕ) (m : Point) → Keeps st (Next.alloc_to o s w id size limit m)
  alloc_to_keeps st None w id size limit m = ((λ h. inl h), inl refl)
  alloc_to_keeps st (Some c) w id size limit m =
      let t = Next.walk s w c.sac size limit m in
      let walked = (walk_walked s w c.sac size limit m).is in
      let rings : t.state.rings ≡ s.rings = ap (λ (s : State). s.rings) walked in
      let flushes : t.state.flushes ≡ s.flushes = ap (λ (s : State). s.flushes) walked in
      unless_cases (λ n. Keeps st n) s (Next.ledger_tests c m) (Next.give_from t id size) (λ x. ((λ h. inl h), inl refl)) (λ all. give_keeps st t.state id size t.found rings flushes)

  unmap_held_keeps : (st : Step) (o : Option Frames) (w id : ℕ) → Keeps st (Next.unmap_held o s w id)
  unmap_held_keeps st None w id = ((λ h. inl h), inl refl)
  unmap_held_keeps st (Some r) w id = queue_keeps st w id r

  unmap_of_keeps : (st : Step) (o : Option Client) (w id lo : ℕ) → Keeps st (Next.unmap_of o s w id lo)
  unmap_of_keeps st None w id lo = ((λ h. inl h), inl refl)
  unmap_of_keeps st (Some c) w id lo =
      unless_cases (λ n. Keeps st n) s (Next.closing_tests c) (Next.unmap_held (find (begins_at lo) c.holdings) s w id) (λ x. ((λ h. inl h), inl refl))
      (λ all. unmap_held_keeps st (find (begins_at lo) c.holdings) w id)

  close_of_keeps : (st : Step) (o : Option Client) (id : ℕ) → Keeps st (Next.close_of o s id)
  close_of_keeps st None id = ((λ h. inl h), inl refl)
  close_of_keeps st (Some c) id = ((λ h. inl h), inl refl)

close_lowest_keeps : (frame least : ℕ) (s : State) (st : Step) (rs : List Frames) (w id : ℕ) → Keeps frame least s st (Next.close_lowest rs s w id)
close_lowest_keeps frame least s st [] w id = ((λ h. inl h), inl refl)
close_lowest_keeps frame least s st (r ∷ rs) w id = queue_keeps frame least (Next.with_clients s (change_client id with_mark s.clients)) st w id r

close_one_of_keeps : (frame least : ℕ) (s : State) (st : Step) (o : Option Client) (w id : ℕ) → Keeps frame least s st (Next.close_one_of o s w id)
close_one_of_keeps frame least s st None w id = ((λ h. inl h), inl refl)
close_one_of_keeps frame least s st (Some c) w id = close_lowest_keeps frame least s st c.holdings w id

next_keeps : (frame least : ℕ) (s : State) (st : Step) (m : Point) → Keeps frame least s st (next s st m)
next_keeps frame least s (step.Reserve lo hi) m =
    let st = step.Reserve lo hi in
    unless_cases (λ n. Keeps frame least s st n) s (Next.reserve_tests s lo hi m) (Next.reserve_window s (Next.from_to lo hi)) (λ x. ((λ h. inl h), inl refl)) (λ all. ((λ h. inl h), inl refl))
next_keeps frame least s (step.Open w sac) m =
    let st = step.Open w sac in
    unless_cases (λ n. Keeps frame least s st n) s (Next.open_tests s w m) (record { reply = reply.Opened (s.serial + 1); state = Next.with_new_client s w sac }) (λ x. ((λ h. inl h), inl refl)) (λ all. ((λ h. inl h), inl refl))
next_keeps frame least s (step.Alloc w id frames limit) m =
    let st = step.Alloc w id frames limit in
    unless_cases (λ n. Keeps frame least s st n) s (Next.alloc_tests s w frames) (Next.alloc_to (client_of w id s.clients) s w id (need frames) limit m) (λ x. ((λ h. inl h), inl refl))
    (λ all. alloc_to_keeps frame least s st (client_of w id s.clients) w id (need frames) limit m)
next_keeps frame least s (step.Unmap w id lo) m =
    let st = step.Unmap w id lo in
    unless_cases (λ n. Keeps frame least s st n) s (Next.worker_tests s w) (Next.unmap_of (client_of w id s.clients) s w id lo) (λ x. ((λ h. inl h), inl refl))
    (λ all. unmap_of_keeps frame least s st (client_of w id s.clients) w id lo)
next_keeps frame least s step.Begin m =
    unless_cases (λ n. Keeps frame least s step.Begin n) s (Next.begin_tests s.flushes) (record { reply = reply.Begun (s.flushes.start + 1); state = Next.with_flushes s (with_flight s.flushes) }) (λ x. ((λ h. inl h), inl refl))
    (λ all. ((λ h. inl h), inr (inl (refl, (refl, refl)))))
next_keeps frame least s (step.End n ok) m =
    let st = step.End n ok in
    unless_cases (λ x. Keeps frame least s st x) s (Next.end_tests s.flushes n) (record { reply = reply.Ended; state = Next.with_flushes s (after_end s.flushes n ok) }) (λ x. ((λ h. inl h), inl refl))
    (λ all. ((λ h. inl h), inr (inr (n, (ok, (refl, (refl, (not-false _ all.0, refl))))))))
next_keeps frame least s (step.Drain q w) m =
    let st = step.Drain q w in
    unless_cases (λ n. Keeps frame least s st n) s (Next.drain_tests s q w) (record { reply = reply.Drained (length (flushed_front s.flushes.finish (Next.ring_at s q))); state = Next.after_drain s q w }) (λ x. ((λ h. inl h), inl refl))
    (λ all. (drained_keep frame least s q w, inl refl))
next_keeps frame least s (step.Close w id) m =
    let st = step.Close w id in
    unless_cases (λ n. Keeps frame least s st n) s (Next.worker_tests s w) (Next.close_of (client_of w id s.clients) s id) (λ x. ((λ h. inl h), inl refl))
    (λ all. close_of_keeps frame least s st (client_of w id s.clients) id)
next_keeps frame least s (step.CloseOne w id) m =
    let st = step.CloseOne w id in
    unless_cases (λ n. Keeps frame least s st n) s (Next.worker_tests s w) (Next.close_one_of (client_of w id s.clients) s w id) (λ x. ((λ h. inl h), inl refl))
    (λ all. close_one_of_keeps frame least s st (client_of w id s.clients) w id)

pub step_keeps : (frame least : ℕ) (s t : State) (st : Step) (r : Reply) → IsStepOf s st r t → RingsKeep frame least s t × FlushMoves s st r t
step_keeps frame least s t st r h = rw (h.1, h.2) (next_keeps frame least s st h.0)

-- The numbers of flushes don't fall.

pub starts_rise : (s t : State) (st : Step) (r : Reply) → FlushMoves s st r t → s.flushes.start ≤ t.flushes.start
starts_rise s t st r (inl h) = let a = ap (λ (f : Flushes). f.start) h in omega (arith, a)
starts_rise s t st r (inr (inl h)) = let a = ap (λ (f : Flushes). f.start) h.1.1 in omega (arith, a)
starts_rise s t st r (inr (inr h)) = ended h.1.0 (h.1.1.1.1.1)
  where
    ended : (ok : Bool) → t.flushes ≡ after_end s.flushes h.0 ok → s.flushes.start ≤ t.flushes.start
    ended true is = let a = ap (λ (f : Flushes). f.start) is in omega (arith, a)
    ended false is = let a = ap (λ (f : Flushes). f.start) is in omega (arith, a)

pub newest_rises : (s t : State) (st : Step) (r : Reply) → FlushMoves s st r t → s.flushes.newest ≤ t.flushes.newest
newest_rises s t st r (inl h) = let a = ap (λ (f : Flushes). f.newest) h in omega (arith, a)
newest_rises s t st r (inr (inl h)) = let a = ap (λ (f : Flushes). f.newest) h.1.1 in omega (arith, a)
newest_rises s t st r (inr (inr h)) = ended h.1.0 (h.1.1.1.1.1)
  where
    ended : (ok : Bool) → t.flushes ≡ after_end s.flushes h.0 ok → s.flushes.newest ≤ t.flushes.newest
    ended true is = let a = ap (λ (f : Flushes). f.newest) is in grind (arith, nat_tests)
    ended false is = let a = ap (λ (f : Flushes). f.newest) is in omega (arith, a)

-- What is queued goes last into a ring, with the number of the last flush that has begun.

abbrev IfQueued : ℕ → ℕ → State → Next.Next → Type 0
IfQueued frame least s n = (q : Frames) → n.reply ≡ reply.Queued q → covers frame q ≡ true → WaitsSome frame least n.state.rings

refused_queues : (frame least : ℕ) (s t : State) (x : Refusal) → IfQueued frame least s (Next.refuse_step x t)
refused_queues frame least s t x q is has = absurd (let bad : reply.Refused x ≡ reply.Queued q = is in cc)

queue_queues : (frame least : ℕ) (s : State) (w id : ℕ) (r : Frames) → w < length s.rings → least ≤ s.flushes.start → IfQueued frame least s (Next.queue s w id r)
queue_queues frame least s w id r lt late =
    let d = Next.after_drain s w w in
    let e : Entry = record { lo = r.lo; len = r.len; count = s.flushes.start } in
    unless_cases (IfQueued frame least s) s (Next.full_tests d w) (record { reply = reply.Queued r; state = Next.with_entry d w id r }) (λ x. refused_queues frame least s s x)
    (λ all q is has.
    let both : reply.Queued r ≡ reply.Queued q = is in
    let one : q ≡ r = cc in
    let covered : covers frame r ≡ true = rw one at has in
    waits_placed frame least d.rings w (Next.ring_at d w ++ e ∷ []) (omega (arith, lt, length_set s.rings w (unflushed_rest s.flushes.finish (Next.ring_at s w)))) (waits_last frame least (Next.ring_at d w) e covered late))

unmap_held_queues : (frame least : ℕ) (s : State) (w id : ℕ) (o : Option Frames) → w < length s.rings → least ≤ s.flushes.start → IfQueued frame least s (Next.unmap_held o s w id)
unmap_held_queues frame least s w id None lt late = refused_queues frame least s s _
unmap_held_queues frame least s w id (Some r) lt late = queue_queues frame least s w id r lt late

unmap_of_queues : (frame least : ℕ) (s : State) (w id lo : ℕ) (o : Option Client) → w < length s.rings → least ≤ s.flushes.start → IfQueued frame least s (Next.unmap_of o s w id lo)
unmap_of_queues frame least s w id lo None lt late = refused_queues frame least s s _
unmap_of_queues frame least s w id lo (Some c) lt late =
    unless_cases (IfQueued frame least s) s (Next.closing_tests c) (Next.unmap_held (find (begins_at lo) c.holdings) s w id) (λ x. refused_queues frame least s s x)
    (λ all. unmap_held_queues frame least s w id (find (begins_at lo) c.holdings) lt late)

close_lowest_queues : (frame least : ℕ) (s : State) (w id : ℕ) (rs : List Frames) → w < length s.rings → least ≤ s.flushes.start → IfQueued frame least s (Next.close_lowest rs s w id)
close_lowest_queues frame least s w id [] lt late = λ q is has. absurd (let bad : reply.Empty ≡ reply.Queued q = is in cc)
close_lowest_queues frame least s w id (r ∷ rs) lt late = queue_queues frame least (Next.with_clients s (change_client id with_mark s.clients)) w id r lt late

close_one_of_queues : (frame least : ℕ) (s : State) (w id : ℕ) (o : Option Client) → w < length s.rings → least ≤ s.flushes.start → IfQueued frame least s (Next.close_one_of o s w id)
close_one_of_queues frame least s w id None lt late = refused_queues frame least s s _
close_one_of_queues frame least s w id (Some c) lt late = close_lowest_queues frame least s w id c.holdings lt late

within : (s : State) (w : ℕ) → IsValid s → AllFail (Next.worker_tests s w) → w < length s.rings
within s w valid all = let each = valid.each_ring in let no = all.0 in grind (arith, nat_tests)

pub queued_waits : StepsAreAnsweredInKind → (frame least : ℕ) (s t : State) (st : Step) (q : Frames) → IsValid s → least ≤ s.flushes.start → IsStepOf s st (reply.Queued q) t → covers frame q ≡ true → WaitsSome frame least t.rings
queued_waits law frame least s t (step.Unmap w id lo) q valid late h has =
    rw h.2 (unless_cases (IfQueued frame least s) s (Next.worker_tests s w) (Next.unmap_of (client_of w id s.clients) s w id lo) (λ x. refused_queues frame least s s x)
    (λ all. unmap_of_queues frame least s w id lo (client_of w id s.clients) (within s w valid all) late) q (sym h.1) has)
queued_waits law frame least s t (step.CloseOne w id) q valid late h has =
    rw h.2 (unless_cases (IfQueued frame least s) s (Next.worker_tests s w) (Next.close_one_of (client_of w id s.clients) s w id) (λ x. refused_queues frame least s s x)
    (λ all. close_one_of_queues frame least s w id (client_of w id s.clients) (within s w valid all) late) q (sym h.1) has)
queued_waits law frame least s t (step.Reserve lo hi) q valid late h has = absurd (subst (λ r. IsReplyTo (step.Reserve lo hi) r) (sym h.1) (law s (step.Reserve lo hi) h.0))
queued_waits law frame least s t (step.Open w sac) q valid late h has = absurd (subst (λ r. IsReplyTo (step.Open w sac) r) (sym h.1) (law s (step.Open w sac) h.0))
queued_waits law frame least s t (step.Alloc w id frames limit) q valid late h has = absurd (subst (λ r. IsReplyTo (step.Alloc w id frames limit) r) (sym h.1) (law s (step.Alloc w id frames limit) h.0))
queued_waits law frame least s t step.Begin q valid late h has = absurd (subst (λ r. IsReplyTo step.Begin r) (sym h.1) (law s step.Begin h.0))
queued_waits law frame least s t (step.End n ok) q valid late h has = absurd (subst (λ r. IsReplyTo (step.End n ok) r) (sym h.1) (law s (step.End n ok) h.0))
queued_waits law frame least s t (step.Drain ring by) q valid late h has = absurd (subst (λ r. IsReplyTo (step.Drain ring by) r) (sym h.1) (law s (step.Drain ring by) h.0))
queued_waits law frame least s t (step.Close w id) q valid late h has = absurd (subst (λ r. IsReplyTo (step.Close w id) r) (sym h.1) (law s (step.Close w id) h.0))

-- What a step takes from the client that it names it queues.

abbrev pub queued_weight : (Frames → ℕ) → Reply → ℕ
queued_weight weigh (reply.Queued r) = weigh r
queued_weight weigh r = 0

module _ (weigh : Frames → ℕ) (s : State) (id : ℕ) where
  abbrev Leaves : Next.Next → Type 0
  Leaves n = sum_by weigh (held_by id s.clients) ≤ sum_by weigh (held_by id n.state.clients) + queued_weight weigh n.reply

  refused_leaves : (x : Refusal) → Leaves (Next.refuse_step x s)
  refused_leaves x = omega arith

  give_leaves : (t : State) (size : ℕ) (found : Next.Found) (c : Client) → client_with id s.clients ≡ Some c → t.clients ≡ s.clients → Leaves (Next.give found t id size)
  give_leaves t size Next.Nowhere c known same = let a = ap (λ cs. sum_by weigh (held_by id cs)) same in omega (arith, a)
  give_leaves t size Next.OutOfMemory c known same = let a = ap (λ cs. sum_by weigh (held_by id cs)) same in omega (arith, a)
  give_leaves t size (Next.At lo) c known same =
      let r : Frames = record { lo = lo; len = size } in
      let again = changed_found id (with_holding r) c s.clients known refl in
      let now : held_by id (change_client id (with_holding r) t.clients) ≡ (with_holding r c).holdings = ap (λ cs. held_by id (change_client id (with_holding r) cs)) same ∙ ap held_in again in
      let old : held_by id s.clients ≡ c.holdings = ap held_in known in
      let at_new = ap (λ l. sum_by weigh l) now in
      let at_old = ap (λ l. sum_by weigh l) old in
      omega (arith, at_new, at_old, ranges-insert weigh r c.holdings, ranges_are weigh c.holdings, ranges_are weigh (with_holding r c).holdings)

  alloc_to_leaves : (w size limit : ℕ) (m : Point) (o : Option Client) → client_of w id s.clients ≡ o → Leaves (Next.alloc_to o s w id size limit m)
  alloc_to_leaves w size limit m None is = omega arith
  alloc_to_leaves w size limit m (Some c) is =
      let t = Next.walk s w c.sac size limit m in
      let same : t.state.clients ≡ s.clients = ap (λ (s : State). s.clients) (walk_walked s w c.sac size limit m).is in
      unless_cases Leaves s (Next.ledger_tests c m) (Next.give_from t id size) refused_leaves (λ all. give_leaves t.state size t.found c (owned w id s.clients c is).is same)

  queue_leaves : (t : State) (w : ℕ) (r : Frames) (c : Client) → client_with id t.clients ≡ Some c → find (begins_at r.lo) c.holdings ≡ Some r
      → sum_by weigh (held_by id t.clients) ≡ sum_by weigh (held_by id s.clients) → Leaves (Next.queue t w id r)
  queue_leaves t w r c known here same =
      let d = Next.after_drain t w w in
      unless_cases Leaves t (Next.full_tests d w) (record { reply = reply.Queued r; state = Next.with_entry d w id r }) (λ x. omega (arith, same)) (λ all.
      let again = changed_found id (without_holding r.lo) c t.clients known refl in
      let now : held_by id (change_client id (without_holding r.lo) t.clients) ≡ (without_holding r.lo c).holdings = ap held_in again in
      let old : held_by id t.clients ≡ c.holdings = ap held_in known in
      let at_new = ap (λ l. sum_by weigh l) now in
      let at_old = ap (λ l. sum_by weigh l) old in
      omega (arith, same, at_new, at_old, ranges-remove weigh r.lo r c.holdings here, ranges_are weigh c.holdings, ranges_are weigh (without_holding r.lo c).holdings))

  unmap_held_leaves : (w lo : ℕ) (c : Client) (o : Option Frames) → client_with id s.clients ≡ Some c → find (begins_at lo) c.holdings ≡ o → Leaves (Next.unmap_held o s w id)
  unmap_held_leaves w lo c None known here = omega arith
  unmap_held_leaves w lo c (Some r) known here = queue_leaves s w r c known (held_at lo r c.holdings here) refl

  unmap_of_leaves : (w lo : ℕ) (o : Option Client) → client_of w id s.clients ≡ o → Leaves (Next.unmap_of o s w id lo)
  unmap_of_leaves w lo None is = omega arith
  unmap_of_leaves w lo (Some c) is =
      unless_cases Leaves s (Next.closing_tests c) (Next.unmap_held (find (begins_at lo) c.holdings) s w id) refused_leaves
      (λ all. unmap_held_leaves w lo c (find (begins_at lo) c.holdings) (owned w id s.clients c is).is refl)

  marked_holds : (c : Client) → client_with id s.clients ≡ Some c → sum_by weigh (held_by id (change_client id with_mark s.clients)) ≡ sum_by weigh (held_by id s.clients)
  marked_holds c known =
      let now = ap held_in (changed_found id with_mark c s.clients known refl) in
      let old = ap held_in known in
      ap (λ l. sum_by weigh l) (now ∙ sym old)

  close_of_leaves : (w : ℕ) (o : Option Client) → client_of w id s.clients ≡ o → Leaves (Next.close_of o s id)
  close_of_leaves w None is = omega arith
  close_of_leaves w (Some c) is = omega (arith, marked_holds c (owned w id s.clients c is).is)

  close_lowest_leaves : (w : ℕ) (c : Client) (rs : List Frames) → client_with id s.clients ≡ Some c → c.holdings ≡ rs → Leaves (Next.close_lowest rs s w id)
  close_lowest_leaves w c [] known is =
      let old = ap (λ l. sum_by weigh l) (ap held_in known ∙ is) in
      omega (arith, old)
  close_lowest_leaves w c (r ∷ rs) known is =
      queue_leaves (Next.with_clients s (change_client id with_mark s.clients)) w r (with_mark c) (changed_found id with_mark c s.clients known refl) (ap (λ l. find (begins_at r.lo) l) is ∙ first_held r rs) (marked_holds c known)

  close_one_of_leaves : (w : ℕ) (o : Option Client) → client_of w id s.clients ≡ o → Leaves (Next.close_one_of o s w id)
  close_one_of_leaves w None is = omega arith
  close_one_of_leaves w (Some c) is = close_lowest_leaves w c c.holdings (owned w id s.clients c is).is refl

named_leaves : (weigh : Frames → ℕ) (s : State) (id : ℕ) (st : Step) (m : Point) → client_named st ≡ Some id → Leaves weigh s id (next s st m)
named_leaves weigh s id (step.Alloc w i frames limit) m named =
    let one : i ≡ id = cc in
    subst (λ id. Leaves weigh s id (next s (step.Alloc w i frames limit) m)) one
    (unless_cases (Leaves weigh s i) s (Next.alloc_tests s w frames) (Next.alloc_to (client_of w i s.clients) s w i (need frames) limit m) (refused_leaves weigh s i)
    (λ all. alloc_to_leaves weigh s i w (need frames) limit m (client_of w i s.clients) refl))
named_leaves weigh s id (step.Unmap w i lo) m named =
    let one : i ≡ id = cc in
    subst (λ id. Leaves weigh s id (next s (step.Unmap w i lo) m)) one
    (unless_cases (Leaves weigh s i) s (Next.worker_tests s w) (Next.unmap_of (client_of w i s.clients) s w i lo) (refused_leaves weigh s i)
    (λ all. unmap_of_leaves weigh s i w lo (client_of w i s.clients) refl))
named_leaves weigh s id (step.Close w i) m named =
    let one : i ≡ id = cc in
    subst (λ id. Leaves weigh s id (next s (step.Close w i) m)) one
    (unless_cases (Leaves weigh s i) s (Next.worker_tests s w) (Next.close_of (client_of w i s.clients) s i) (refused_leaves weigh s i)
    (λ all. close_of_leaves weigh s i w (client_of w i s.clients) refl))
named_leaves weigh s id (step.CloseOne w i) m named =
    let one : i ≡ id = cc in
    subst (λ id. Leaves weigh s id (next s (step.CloseOne w i) m)) one
    (unless_cases (Leaves weigh s i) s (Next.worker_tests s w) (Next.close_one_of (client_of w i s.clients) s w i) (refused_leaves weigh s i)
    (λ all. close_one_of_leaves weigh s i w (client_of w i s.clients) refl))
named_leaves weigh s id (step.Reserve lo hi) m named = absurd (let bad : ◌≡◌ {A = Option ℕ} None (Some id) = named in cc)
named_leaves weigh s id (step.Open w sac) m named = absurd (let bad : ◌≡◌ {A = Option ℕ} None (Some id) = named in cc)
named_leaves weigh s id step.Begin m named = absurd (let bad : ◌≡◌ {A = Option ℕ} None (Some id) = named in cc)
named_leaves weigh s id (step.End n ok) m named = absurd (let bad : ◌≡◌ {A = Option ℕ} None (Some id) = named in cc)
named_leaves weigh s id (step.Drain ring by) m named = absurd (let bad : ◌≡◌ {A = Option ℕ} None (Some id) = named in cc)

-- a step names this client, or another or none
names_or : (o : Option ℕ) (id : ℕ) → (o ≡ Some id) ⊎ (o ≡ Some id → ⊥)
names_or None id = inr (λ is. let bad : ◌≡◌ {A = Option ℕ} None (Some id) = is in absurd cc)
names_or (Some i) id = step (i == id) refl
  where
    step : (b : Bool) → (i == id) ≡ b → (Some i ≡ Some id) ⊎ (Some i ≡ Some id → ⊥)
    step true is = let one : i ≡ id = grind (arith, nat_tests) in inl (ap (λ n. Some n) one)
    step false is = inr (λ both. let one : i ≡ id = cc in absurd (grind (arith, nat_tests)))

queued_some : (frame : ℕ) (r : Reply) → 1 ≤ queued_weight (has_frame frame) r → (q : Frames) × ((r ≡ reply.Queued q) × (covers frame q ≡ true))
queued_some frame (reply.Queued q) some = (q, (refl, grind (arith, nat_tests)))
queued_some frame (reply.Reserved r) some = absurd (omega arith)
queued_some frame (reply.Opened id) some = absurd (omega arith)
queued_some frame (reply.Given r) some = absurd (omega arith)
queued_some frame (reply.Begun n) some = absurd (omega arith)
queued_some frame reply.Ended some = absurd (omega arith)
queued_some frame (reply.Drained n) some = absurd (omega arith)
queued_some frame (reply.Marked n) some = absurd (omega arith)
queued_some frame reply.Empty some = absurd (omega arith)
queued_some frame (reply.Refused x) some = absurd (omega arith)

-- what a client holds it holds on, or a step has queued it
pub held_or_queued : OthersKeepTheirHoldings → (frame : ℕ) (s t : State) (st : Step) (r : Reply) (id : ℕ) → IsStepOf s st r t → 1 ≤ sum_by (has_frame frame) (held_by id s.clients)
    → (1 ≤ sum_by (has_frame frame) (held_by id t.clients)) ⊎ ((q : Frames) × ((r ≡ reply.Queued q) × (covers frame q ≡ true)))
held_or_queued law frame s t st r id h some = named (names_or (client_named st) id)
  where
    left : (n : ℕ) → sum_by (has_frame frame) (held_by id t.clients) ≡ n → 1 ≤ n + queued_weight (has_frame frame) r → (1 ≤ sum_by (has_frame frame) (held_by id t.clients)) ⊎ ((q : Frames) × ((r ≡ reply.Queued q) × (covers frame q ≡ true)))
    left zero is more = inr (queued_some frame r (omega (arith, more)))
    left (suc n) is more = inl (omega (arith, is))

    named : (client_named st ≡ Some id) ⊎ (client_named st ≡ Some id → ⊥) → (1 ≤ sum_by (has_frame frame) (held_by id t.clients)) ⊎ ((q : Frames) × ((r ≡ reply.Queued q) × (covers frame q ≡ true)))
    named (inr none) =
        let same = ap (λ (s : State). held_by id s.clients) h.2 ∙ law s st h.0 id none in
        let weight = ap (λ l. sum_by (has_frame frame) l) same in
        inl (omega (arith, weight, some))
    named (inl is) =
        let leaves = named_leaves (has_frame frame) s id st h.0 is in
        let state = ap (λ (s : State). sum_by (has_frame frame) (held_by id s.clients)) h.2 in
        let answer = ap (λ r. queued_weight (has_frame frame) r) h.1 in
        left (sum_by (has_frame frame) (held_by id t.clients)) refl (omega (arith, leaves, state, answer, some))
