-- No frame is lost, and none is made.
use Rattle.std.proofs.Common.{ℕ, ◌≡◌, ◌<◌, inl, inr, true, false, List, [], ◌∷◌, Some, refl, ap, ◌∙◌, arith, find, filter, not, length, length-set}
use Rattle.iova_range.specs.Frames.{Frames, meets}
use Rattle.iova_range.specs.Sizes.{need}
use Rattle.iova_model.specs.declared.step.Step.{Step}
use Rattle.iova_model.specs.declared.step.Step.TheVariants as step
use Rattle.iova_model.specs.declared.step.Reply.TheVariants as reply
use Rattle.iova_range.specs.declared.refusal.Refusal.{Refusal}
use Rattle.iova_range.specs.declared.refusal.Refusal.TheVariants as refusal
use Rattle.iova_model.specs.Caches.{Caches}
use Rattle.iova_model.specs.Clients.{Client, client_with, with_mark, begins_at}
use Rattle.iova_model.specs.Flushes.{with_flight, after_end, unflushed_rest}
use Rattle.iova_model.specs.State.{State}
use Rattle.iova_model.specs.Valid.{IsValid}
use Rattle.iova_model.specs.Next.{Next, refuse_step, Found, At, Nowhere, OutOfMemory, with_caches, from_to, union, reserve_window, give, give_from, ring_at, after_drain, with_entry}
use Rattle.iova_model.specs.Effects.{Moves, MovesInAlloc, Conserves, freed_by_drain, cached_ranges}
use Rattle.iova_model.specs.Laws.{StepsConserve}
use Rattle.iova_laws.proofs.Weight as weight
use Rattle.iova_laws.proofs.WeightHolders.{held_weigh}
use Rattle.iova_laws.proofs.ValidCases.{is_no_space, AreThere, with_marked, Cases, next_cases}
use Rattle.iova_laws.proofs.ConserveWalk.{WalkOutcome, walk_cases}
use Rattle.iova_laws.proofs.ConserveSteps.{IsMoved, moved_none, moved_then, opened_moved, marked_moved, forgotten_moved, given_moved, emptied_moved, may_moved, left_moved, HasShape, shape_of, drained_moved, queued_moved, flushes_moved}
use Rattle.iova_laws.proofs.ValidFound.{held_at, first_held, changed_found}

-- what is weighed part by part is weighed as a whole
moved_conserves : (s : State) (st : Step) (n : Next) (gained freed : List Frames) → Moves s st n.reply gained freed → IsMoved s n.state gained freed → Conserves s st n
moved_conserves s st n gained freed moves moved = record {
  gained = gained;
  freed = freed;
  moves = moves;
  balance = λ weigh. omega (arith, held_weigh weigh n.state, held_weigh weigh s, weight.ranges_are weigh gained, weight.ranges_are weigh freed, moved.balance weigh, ap (weight.ranges weigh) moved.windows);
}

-- the union takes the place of the windows that overlap
reserved_conserves : (s : State) (lo hi : ℕ) → Conserves s (step.Reserve lo hi) (reserve_window s (from_to lo hi))
reserved_conserves s lo hi =
    let r = from_to lo hi in
    let old = filter (meets r) s.windows in
    let new = union r s.windows in
    record {
      gained = new ∷ [];
      freed = old;
      moves = (refl, refl);
      balance = λ weigh.
          omega (arith, held_weigh weigh (reserve_window s r).state, held_weigh weigh s, weight.ranges_are weigh (new ∷ []), weight.ranges_are weigh old, weight.ranges-insert weigh new (filter (λ w. not (meets r w)) s.windows), weight.ranges-filter weigh (meets r) s.windows);
    }

-- a request is given what was found
given_conserves : (s : State) (w id frames limit size : ℕ) (client : Client) → AreThere s w id client → (found : Found) (c : Caches) → WalkOutcome s true size limit found c → Conserves s (step.Alloc w id frames limit) (give found (with_caches s c) id size)
given_conserves s w id frames limit size client own Nowhere c none =
    moved_conserves s (step.Alloc w id frames limit) _ [] (cached_ranges s.caches) (refl, refl) (emptied_moved s c none.0)
given_conserves s w id frames limit size client own OutOfMemory c may =
    let free = may_moved s c may in
    moved_conserves s (step.Alloc w id frames limit) _ [] free.freed (refl, free.is) free.moved
given_conserves s w id frames limit size client own (At lo) c (inl was) =
    let r : Frames = record { lo = lo; len = size } in
    moved_conserves s (step.Alloc w id frames limit) _ [] [] (inl (refl, refl)) (left_moved s c id client r was.left own.found)
given_conserves s w id frames limit size client own (At lo) c (inr fresh) =
    let r : Frames = record { lo = lo; len = size } in
    let free = may_moved s c fresh.0 in
    let t = with_caches s c in
    moved_conserves s (step.Alloc w id frames limit) _ (r ∷ []) free.freed (inr (refl, free.is)) (moved_then s t _ (r ∷ []) free.freed free.moved (given_moved t id client r own.found))

-- the worker's ring is drained, and then takes the range
pub drained_queued_moved : (s : State) (w id : ℕ) (c : Client) (r : Frames) → HasShape s → w < s.workers → client_with id s.clients ≡ Some c → find (begins_at r.lo) c.holdings ≡ Some r → IsMoved s (with_entry (after_drain s w w) w id r) [] (freed_by_drain s w w)
drained_queued_moved s w id c r shape below found held =
    let d = after_drain s w w in
    let same : length d.rings ≡ length s.rings = length-set s.rings w (unflushed_rest s.flushes.finish (ring_at s w)) in
    moved_then s d (with_entry d w id r) [] (freed_by_drain s w w) (drained_moved s w w shape below below) (queued_moved d w id c r (omega (arith, shape.each_ring)) found held)

-- the first holding of a client that is marked moves into the ring
pub closed_moved : (s : State) (w id : ℕ) (c : Client) (r : Frames) (rs : List Frames) → HasShape s → AreThere s w id c → c.holdings ≡ r ∷ rs → IsMoved s (with_entry (after_drain (with_marked s id) w w) w id r) [] (freed_by_drain s w w)
closed_moved s w id c r rs shape own is =
    let t = with_marked s id in
    let shape' : HasShape t = record { takes = shape.takes; caches = shape.caches; each_ring = shape.each_ring } in
    let found : client_with id t.clients ≡ Some (with_mark c) = changed_found id with_mark c s.clients own.found refl in
    let held : find (begins_at r.lo) c.holdings ≡ Some r = ap (find (begins_at r.lo)) is ∙ first_held r rs in
    let queued_moves = drained_queued_moved t w id (with_mark c) r shape' own.worker found held in
    let none = marked_moved s id in
    record {
      windows = queued_moves.windows;
      bounds = queued_moves.bounds;
      balance = λ weigh. omega (arith, none.balance weigh, queued_moves.balance weigh);
    }

-- a request that a test refuses moves nothing
refused_moves_in_alloc : (c : Caches) (r : Refusal) → is_no_space r ≡ false → MovesInAlloc c (reply.Refused r) [] []
refused_moves_in_alloc c refusal.NoSpace other = absurd cc
refused_moves_in_alloc c refusal.NoMemory other = (refl, inl refl)
refused_moves_in_alloc c r other = (refl, refl)

-- no step that a test refuses does
refused_moves : (s : State) (st : Step) (r : Refusal) → is_no_space r ≡ false → Moves s st (reply.Refused r) [] []
refused_moves s (step.Reserve lo hi) r other = (refl, refl)
refused_moves s (step.Open w sac) r other = (refl, refl)
refused_moves s (step.Alloc w id frames limit) r other = refused_moves_in_alloc s.caches r other
refused_moves s (step.Unmap w id lo) r other = (refl, refl)
refused_moves s step.Begin r other = (refl, refl)
refused_moves s (step.End n ok) r other = (refl, refl)
refused_moves s (step.Drain q w) r other = (refl, refl)
refused_moves s (step.Close w id) r other = (refl, refl)
refused_moves s (step.CloseOne w id) r other = (refl, refl)

-- each case takes and frees what the law says
cases : (s : State) → IsValid s → Cases s (Conserves s)
cases s valid =
    let shape = shape_of s valid in
    record {
      on_refused = λ st r other. moved_conserves s st (refuse_step r s) [] [] (refused_moves s st r other) (moved_none s);
      on_reserve = λ lo hi may. reserved_conserves s lo hi;
      on_open = λ w sac may. moved_conserves s (step.Open w sac) _ [] [] (refl, refl) (opened_moved s w sac);
      on_alloc = λ w id frames limit m c own may.
          let size = need frames in
          walk_cases s w size own.worker c.sac limit m (λ t. Conserves s (step.Alloc w id frames limit) (give_from t id size)) valid.caches (λ found left shape' outcome. given_conserves s w id frames limit size c own found left outcome);
      on_unmap = λ w id lo c r own held room.
          moved_conserves s (step.Unmap w id lo) _ [] (freed_by_drain s w w) (refl, refl) (drained_queued_moved s w id c r shape own.worker own.found (held_at lo r c.holdings held));
      on_begin = λ may. moved_conserves s step.Begin _ [] [] (refl, refl) (flushes_moved s (with_flight s.flushes));
      on_end = λ n ok flying. moved_conserves s (step.End n ok) _ [] [] (refl, refl) (flushes_moved s (after_end s.flushes n ok));
      on_drain = λ q w below-q below-w.
          moved_conserves s (step.Drain q w) _ [] (freed_by_drain s q w) (refl, refl) (drained_moved s q w shape below-q below-w);
      on_close = λ w id c own. moved_conserves s (step.Close w id) _ [] [] (refl, refl) (marked_moved s id);
      on_close_last = λ w id c own none.
          moved_conserves s (step.CloseOne w id) _ [] [] (refl, refl) (forgotten_moved s id c own.found none);
      on_close_full = λ w id c r own. moved_conserves s (step.CloseOne w id) _ [] [] (refl, refl) (marked_moved s id);
      on_close_one = λ w id c r rs own is room.
          moved_conserves s (step.CloseOne w id) _ [] (freed_by_drain s w w) (refl, refl) (closed_moved s w id c r rs shape own is);
    }

-- so every step does
pub steps_conserve : StepsConserve
steps_conserve = λ s st m valid. next_cases s (Conserves s) (cases s valid) st m
