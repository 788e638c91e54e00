-- Each step leaves a valid state.
use Rattle.std.proofs.Common.{ℕ, ◌≡◌, ◌+◌, ◌<◌, ◌≤◌, inl, inr, Bool, true, false, List, [], ◌∷◌, ◌++◌, length, Some, refl, ap, ◌∙◌, arith, length-set, filter, not, find, map}
use Rattle.std.specs.List.{AllByRecursion}
use Rattle.std.proofs.lemmas.Bool.Decides.{nat_tests}
use Rattle.std.proofs.lemmas.List.{length-replicate}
use Rattle.iova_range.specs.Frames.{Frames, meets}
use Rattle.iova_range.specs.Sizes.{need}
use Rattle.iova_model.specs.declared.entry.Entry.{Entry}
use Rattle.iova_model.specs.Caches.{Caches}
use Rattle.iova_model.specs.Flushes.{Flushes, AreSound, with_flight, after_end, entry_range, flushed_front, unflushed_rest, is_in_flight}
use Rattle.iova_model.specs.Clients.{Client, client_with, change_client, without_client, with_mark, begins_at, with_holding, without_holding, insert_rising}
use Rattle.iova_model.specs.State.{State, new_domain}
use Rattle.iova_model.specs.Valid.{is_inside, IsRequestSized, AreClients, IsRing, IsValid}
use Rattle.iova_model.specs.Next.{Found, At, Nowhere, OutOfMemory, next, with_clients, with_caches, with_flushes, with_windows, with_new_client, union, windows_with, from_to, give, give_from, ring_at, after_drain, with_entry}
use Rattle.iova_model.specs.Transcript.{Pair, after}
use Rattle.iova_model.specs.Effects.{freed_by_drain, cached_ranges}
use Rattle.iova_model.specs.Laws.{NewDomainsAreValid, StepsKeepValidity, TranscriptsKeepValidity}
use Rattle.iova_laws.proofs.Weight as weight
use Rattle.iova_laws.proofs.ValidLists.{all-at, all-set, all-replicate, all-weaker, all_found}
use Rattle.iova_laws.proofs.ValidCases.{MayReserve, MayOpen, MayBegin, HasRingRoom, with_marked, Cases, next_cases}
use Rattle.iova_laws.proofs.ValidCaches.{magazine_takes, put_all_valid, new_caches_valid}
use Rattle.iova_laws.proofs.ValidSizes.{need_ge, need_le}
use Rattle.iova_laws.proofs.ValidRising.{rises-insert, rises-filter, inserted_apart}
use Rattle.iova_laws.proofs.ValidClients.{opened_valid, changed_valid, found_valid, marked_valid, with_holding_valid, without_holding_valid, forgotten_valid}
use Rattle.iova_laws.proofs.NumberSound.{new_flushes_are_sound, begins_keep_flushes_sound, ends_keep_flushes_sound}
use Rattle.iova_laws.proofs.ValidRings.{later_ring, unflushed_valid, pushed_valid}
use Rattle.iova_laws.proofs.ConserveWalk.{WalkOutcome, AreOwn, walk_cases}
use Rattle.iova_laws.proofs.ConserveSteps.{IsMoved, opened_moved, marked_moved, forgotten_moved, given_moved, emptied_moved, may_moved, left_moved, shape_of, drained_moved, queued_moved, flushes_moved}
use Rattle.iova_laws.proofs.ValidFound.{held_at, first_held, changed_found}
use Rattle.iova_laws.proofs.PlaceOnce.{has, lacks, none_lacks, InOrder, in_order, one_place, moved_in_order, added_in_order, fit_may_add, new_in_order}
use Rattle.iova_laws.proofs.PlaceWindows.{reserved_in_order}

-- One part of a state changes.

-- other clients
with_clients_valid : (s : State) (cs : List Client) → IsValid s → AreClients s.workers cs s.serial → InOrder (with_clients s cs) → IsValid (with_clients s cs)
with_clients_valid s cs h clients order = record {
  bounds = h.bounds;
  some_worker = h.some_worker;
  few_workers = h.few_workers;
  windows = h.windows;
  clients = clients;
  caches = h.caches;
  each_ring = h.each_ring;
  rings = h.rings;
  flushes = h.flushes;
  one_place = one_place (with_clients s cs) order;
}

-- other caches
with_caches_valid : (s : State) (c : Caches) → IsValid s → AreOwn s c → InOrder (with_caches s c) → IsValid (with_caches s c)
with_caches_valid s c h caches order = record {
  bounds = h.bounds;
  some_worker = h.some_worker;
  few_workers = h.few_workers;
  windows = h.windows;
  clients = h.clients;
  caches = caches;
  each_ring = h.each_ring;
  rings = h.rings;
  flushes = h.flushes;
  one_place = one_place (with_caches s c) order;
}

-- Windows.

-- a reservation leaves few windows, which rise
pub reserved_valid : (s : State) (lo hi : ℕ) → IsValid s → MayReserve s lo hi → IsValid (with_windows s (windows_with (from_to lo hi) s.windows))
reserved_valid s lo hi h may =
    let r = from_to lo hi in
    let t = with_windows s (windows_with r s.windows) in
    let rest = filter (λ w. not (meets r w)) s.windows in
    let order = reserved_in_order s lo hi may (in_order s h.one_place) in
    let u = union r s.windows in
    let apart = inserted_apart s.bounds u rest (omega (arith, order.once u.lo)) order.windows in
    record {
      bounds = h.bounds;
      some_worker = h.some_worker;
      few_workers = h.few_workers;
      windows = record { room = may.room; rising = rises-insert 0 u rest (omega arith) apart (rises-filter 0 _ s.windows h.windows.rising) };
      clients = h.clients;
      caches = h.caches;
      each_ring = h.each_ring;
      rings = h.rings;
      flushes = h.flushes;
      one_place = one_place t order;
    }

-- Clients.

-- a new client
open_valid : (s : State) (w : ℕ) (sac : Bool) → IsValid s → MayOpen s w → IsValid (with_new_client s w sac)
open_valid s w sac h may = record {
  bounds = h.bounds;
  some_worker = h.some_worker;
  few_workers = h.few_workers;
  windows = h.windows;
  clients = opened_valid s.workers s.clients s.serial w sac may.worker may.worn may.room h.clients;
  caches = h.caches;
  each_ring = h.each_ring;
  rings = h.rings;
  flushes = h.flushes;
  one_place = one_place (with_new_client s w sac) (moved_in_order s (with_new_client s w sac) [] (opened_moved s w sac) (in_order s h.one_place));
}

-- a client that is marked closing
pub with_marked_valid : (s : State) (id : ℕ) (c : Client) → IsValid s → client_with id s.clients ≡ Some c → IsValid (with_marked s id)
with_marked_valid s id c h found =
    let cs = change_client id with_mark s.clients in
    let own = found_valid s.workers id c s.clients s.serial found h.clients in
    with_clients_valid s cs h (changed_valid id with_mark (λ x. refl) s.workers c s.clients s.serial found (marked_valid s.workers c own) h.clients) (moved_in_order s (with_marked s id) [] (marked_moved s id) (in_order s h.one_place))

-- a client with nothing goes
pub without_client_valid : (s : State) (id : ℕ) (c : Client) → IsValid s → client_with id s.clients ≡ Some c → c.holdings ≡ [] → IsValid (with_clients s (without_client id s.clients))
without_client_valid s id c h found none =
    let cs = without_client id s.clients in
    with_clients_valid s cs h (forgotten_valid s.workers id s.clients s.serial h.clients) (moved_in_order s (with_clients s cs) [] (forgotten_moved s id c found none) (in_order s h.one_place))

-- Requests.

-- a client is given a range, and the state is in order
given_valid : (s : State) (id : ℕ) (c : Client) (r : Frames) → IsValid s → client_with id s.clients ≡ Some c → length c.holdings < 4096 → r.len ≤ 1048576 → InOrder (with_clients s (change_client id (with_holding r) s.clients)) → IsValid (with_clients s (change_client id (with_holding r) s.clients))
given_valid s id c r h found room sized order =
    let cs = change_client id (with_holding r) s.clients in
    let found' = changed_found id (with_holding r) c s.clients found refl in
    let le : (weigh : Frames → ℕ) → weight.ranges weigh (insert_rising r c.holdings) ≤ weight.clients weigh cs = λ weigh. weight.holdings_le weigh id (with_holding r c) cs found' in
    let outside = lacks (is_inside s.bounds) in
    let apart = inserted_apart s.bounds r c.holdings (omega (arith, order.once r.lo, le (has r.lo))) (omega (arith, order.inside, le outside)) in
    let own = found_valid s.workers id c s.clients s.serial found h.clients in
    with_clients_valid s cs h (changed_valid id (with_holding r) (λ x. refl) s.workers c s.clients s.serial found (with_holding_valid s.workers c r room sized apart own) h.clients) order

-- the caches that are left
left_valid : (s : State) (c : Caches) (freed : List Frames) → IsValid s → AreOwn s c → IsMoved s (with_caches s c) [] freed → IsValid (with_caches s c)
left_valid s c freed h own moved =
    with_caches_valid s c h own (moved_in_order s (with_caches s c) freed moved (in_order s h.one_place))

-- the result of a request
pub answered_valid : (s : State) (id size limit : ℕ) (x : Client) → IsValid s → 1 ≤ size → size ≤ 1048576 → length x.holdings < 4096 → client_with id s.clients ≡ Some x → (found : Found) (c : Caches) → AreOwn s c → WalkOutcome s true size limit found c → IsValid (give found (with_caches s c) id size).state
answered_valid s id size limit x h some few room is Nowhere c own none = left_valid s c (cached_ranges s.caches) h own (emptied_moved s c none.0)
answered_valid s id size limit x h some few room is OutOfMemory c own may =
    let free = may_moved s c may in left_valid s c free.freed h own free.moved
answered_valid s id size limit x h some few room is (At lo) c own (inl was) =
    let r : Frames = record { lo = lo; len = size } in
    let t = with_caches s c in
    let u = with_clients t (change_client id (with_holding r) s.clients) in
    let moved : IsMoved s t [] (r ∷ []) = record { windows = refl; bounds = refl; balance = λ weigh. omega (arith, was.left weigh) } in
    given_valid t id x r (left_valid s c (r ∷ []) h own moved) is room few (moved_in_order s u [] (left_moved s c id x r was.left is) (in_order s h.one_place))
answered_valid s id size limit x h some few room is (At lo) c own (inr fresh) =
    let r : Frames = record { lo = lo; len = size } in
    let t = with_caches s c in
    let u = with_clients t (change_client id (with_holding r) s.clients) in
    let free = may_moved s c fresh.0 in
    let h' = left_valid s c free.freed h own free.moved in
    let may = fit_may_add t size fresh.1.used lo some fresh.1.fits in
    given_valid t id x r h' is room few (added_in_order t u r may (given_moved t id x r is) (in_order t h'.one_place))

-- Rings.

-- a ring is drained into the magazines of a worker
pub drained_valid : (s : State) (q w : ℕ) → IsValid s → q < s.workers → w < s.workers → IsValid (after_drain s q w)
drained_valid s q w h below-q below-w =
    let ring = ring_at s q in
    let here : q < length s.rings = omega (arith, h.each_ring) in
    let old = all-at (IsRing s.flushes.start) s.rings q [] here h.rings in
    record {
      bounds = h.bounds;
      some_worker = h.some_worker;
      few_workers = h.few_workers;
      windows = h.windows;
      clients = h.clients;
      caches = put_all_valid s.bounds.profile s.workers s.caches w (map entry_range (flushed_front s.flushes.finish ring)) (magazine_takes s.bounds.profile h.bounds.profile) below-w h.caches;
      each_ring = length-set s.rings q (unflushed_rest s.flushes.finish ring) ∙ h.each_ring;
      rings = all-set (IsRing s.flushes.start) s.rings q (unflushed_rest s.flushes.finish ring) (unflushed_valid s.flushes.start s.flushes.finish ring old) h.rings;
      flushes = h.flushes;
      one_place = one_place (after_drain s q w) (moved_in_order s (after_drain s q w) (freed_by_drain s q w) (drained_moved s q w (shape_of s h) below-q below-w) (in_order s h.one_place));
    }

-- a holding is inside
pub held_inside : (s : State) (id : ℕ) (c : Client) (r : Frames) → IsValid s → client_with id s.clients ≡ Some c → find (begins_at r.lo) c.holdings ≡ Some r → is_inside s.bounds r ≡ true
held_inside s id c r h found held =
    let outside = lacks (is_inside s.bounds) in
    let order = in_order s h.one_place in
    none_lacks (is_inside s.bounds) r (omega (arith, order.inside, weight.holdings_le outside id c s.clients found, weight.ranges-remove outside r.lo r c.holdings held))

-- a holding goes last into a ring
queued_valid : (s : State) (w id : ℕ) (c : Client) (r : Frames) → IsValid s → w < s.workers → client_with id s.clients ≡ Some c → find (begins_at r.lo) c.holdings ≡ Some r → length (ring_at s w) < 255 → IsValid (with_entry s w id r)
queued_valid s w id c r h below found held room =
    let t = with_entry s w id r in
    let e : Entry = record { lo = r.lo; len = r.len; count = s.flushes.start } in
    let ring = ring_at s w in
    let here : w < length s.rings = omega (arith, h.each_ring) in
    let old = all-at (IsRing s.flushes.start) s.rings w [] here h.rings in
    let own = found_valid s.workers id c s.clients s.serial found h.clients in
    let few = all_found IsRequestSized (begins_at r.lo) c.holdings r held own.sized in
    let inside = held_inside s id c r h found held in
    let some : 1 ≤ r.len = grind (arith, nat_tests) in
    record {
      bounds = h.bounds;
      some_worker = h.some_worker;
      few_workers = h.few_workers;
      windows = h.windows;
      clients = changed_valid id (without_holding r.lo) (λ x. refl) s.workers c s.clients s.serial found (without_holding_valid s.workers c r.lo own) h.clients;
      caches = h.caches;
      each_ring = length-set s.rings w (ring ++ e ∷ []) ∙ h.each_ring;
      rings = all-set (IsRing s.flushes.start) s.rings w (ring ++ e ∷ []) (pushed_valid s.flushes.start ring e refl (some, few) room old) h.rings;
      flushes = h.flushes;
      one_place = one_place t (moved_in_order s t [] (queued_moved s w id c r here found held) (in_order s h.one_place));
    }

-- Flushes.

-- other flushes
flushes_valid : (s : State) (f : Flushes) → IsValid s → AllByRecursion (IsRing f.start) s.rings → AreSound f → IsValid (with_flushes s f)
flushes_valid s f h rings sound = record {
  bounds = h.bounds;
  some_worker = h.some_worker;
  few_workers = h.few_workers;
  windows = h.windows;
  clients = h.clients;
  caches = h.caches;
  each_ring = h.each_ring;
  rings = rings;
  flushes = sound;
  one_place = one_place (with_flushes s f) (moved_in_order s (with_flushes s f) [] (flushes_moved s f) (in_order s h.one_place));
}

-- a flush begins
pub begun_valid : (s : State) → IsValid s → MayBegin s → IsValid (with_flushes s (with_flight s.flushes))
begun_valid s h may =
    flushes_valid s (with_flight s.flushes) h (all-weaker (IsRing s.flushes.start) (IsRing (s.flushes.start + 1)) s.rings (later_ring s.flushes.start) h.rings) (begins_keep_flushes_sound s.flushes h.flushes may.room may.worn)

-- a flush ends
pub ended_valid : (s : State) (n : ℕ) (ok : Bool) → IsValid s → is_in_flight n s.flushes.in_flight ≡ true → IsValid (with_flushes s (after_end s.flushes n ok))
ended_valid s n true h flies = flushes_valid s (after_end s.flushes n true) h h.rings (ends_keep_flushes_sound s.flushes n true h.flushes flies)
ended_valid s n false h flies = flushes_valid s (after_end s.flushes n false) h h.rings (ends_keep_flushes_sound s.flushes n false h.flushes flies)

-- The whole.

-- a worker's ring is drained and takes a holding
pub unmapped_valid : (s : State) (w id : ℕ) (c : Client) (r : Frames) → IsValid s → w < s.workers → client_with id s.clients ≡ Some c → find (begins_at r.lo) c.holdings ≡ Some r → HasRingRoom s w → IsValid (with_entry (after_drain s w w) w id r)
unmapped_valid s w id c r h below found held room =
    queued_valid (after_drain s w w) w id c r (drained_valid s w w h below below) below found held room

-- each case leaves a valid state
cases : (s : State) → IsValid s → Cases s (λ st n. IsValid n.state)
cases s h = record {
  on_refused = λ st r other. h;
  on_reserve = λ lo hi may. reserved_valid s lo hi h may;
  on_open = λ w sac may. open_valid s w sac h may;
  on_alloc = λ w id frames limit m c own may.
      let size = need frames in
      walk_cases s w size own.worker c.sac limit m (λ t. IsValid (give_from t id size).state) h.caches (answered_valid s id size limit c h (need_ge frames may.some) (need_le frames may.some may.few) may.room own.found);
  on_unmap = λ w id lo c r own held room.
      unmapped_valid s w id c r h own.worker own.found (held_at lo r c.holdings held) room;
  on_begin = λ may. begun_valid s h may;
  on_end = λ n ok flies. ended_valid s n ok h flies;
  on_drain = λ q w below-q below-w. drained_valid s q w h below-q below-w;
  on_close = λ w id c own. with_marked_valid s id c h own.found;
  on_close_last = λ w id c own none. without_client_valid s id c h own.found none;
  on_close_full = λ w id c r own. with_marked_valid s id c h own.found;
  on_close_one = λ w id c r rs own is room.
      let found : client_with id (with_marked s id).clients ≡ Some (with_mark c) = changed_found id with_mark c s.clients own.found refl in
      unmapped_valid (with_marked s id) w id (with_mark c) r (with_marked_valid s id c h own.found) own.worker found (ap (find (begins_at r.lo)) is ∙ first_held r rs) room;
}

-- so every step does
pub steps_keep_validity : StepsKeepValidity
steps_keep_validity = λ s st m h. next_cases s (λ st n. IsValid n.state) (cases s h) st m

-- and every transcript
pub transcripts_keep_validity : TranscriptsKeepValidity
transcripts_keep_validity = λ s ps h. valid_after s ps h
  where
    valid_after : (s : State) (ps : List Pair) → IsValid s → IsValid (after s ps)
    valid_after s [] h = h
    valid_after s (p ∷ ps) h =
        valid_after (next s p.step p.point).state ps (steps_keep_validity s p.step p.point h)

-- a new domain is valid
pub new_domains_are_valid : NewDomainsAreValid
new_domains_are_valid = λ bounds workers extent some few. record {
  bounds = extent;
  some_worker = some;
  few_workers = few;
  windows = record { room = omega arith; rising = tt };
  clients = record { room = omega arith; serials = omega arith; worn = omega arith; each = tt };
  caches = new_caches_valid bounds.profile workers;
  each_ring = length-replicate workers [];
  rings = all-replicate (IsRing 0) workers [] (record { room = omega arith; rising = omega arith; sized = tt });
  flushes = new_flushes_are_sound 0 (omega arith);
  one_place = one_place (new_domain bounds workers) (new_in_order bounds workers);
}
