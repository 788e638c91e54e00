-- Rings that are drained, and holdings that go into them.
use Rattle.std.proofs.Common.{ℕ, zero, suc, ◌≡◌, ◌+◌, ◌^◌, ◌<◌, ◌≤◌, Bool, true, false, List, [], ◌∷◌, ◌++◌, length, map, find, Some, None, refl, sym, ap, ◌∙◌, subst, arith, sum_by}
use Rattle.std.specs.Prelude.{slice_index_or, slice_set, nat_le, nat_lt, IsSomeAnd, ◌&&◌}
use Rattle.std.proofs.lemmas.Bool.{and_parts}
use Rattle.std.proofs.lemmas.List.{set-set, get_or-set_same, set-get_or}
use Rattle.std.proofs.lemmas.Bool.Decides.{nat_tests}
use Rattle.iova_range.specs.Frames.{Frames}
use Rattle.iova_range.specs.Bounds.{Extent}
use Rattle.iova_model.specs.declared.entry.Entry.{Entry}
use Rattle.iova_model.specs.Caches.{Caches, put_all}
use Rattle.iova_model.specs.Flushes.{entry_range, flushed_front, unflushed_rest}
use Rattle.iova_model.specs.Clients.{Client, client_with, begins_at, remove_at, change_client, with_holding, without_holding}
use Rattle.iova_model.specs.Effects.{freed_by_drain, cached_ranges}
use Rattle.iova_model.specs.State.{State}
use Rattle.iova_model.specs.Valid.{IsValid, IsRing, IsRequestSized, is_inside}
use Rattle.iova_model.specs.Next.{Next, refuse_step, ring_at, after_drain, with_entry, queue, unmap_held}
use Rattle.iova_model.specs.declared.step.Reply.TheVariants as reply
use Rattle.iova_range.specs.declared.refusal.Refusal.TheVariants as refusal
use Rattle.iova_tree.specs.Space.{Space}
use Rattle.iova_clients.specs.Registry.{Registry, CanBeGiven}
use Rattle.iova_depot.specs.Cached.{Cached, IsCached}
use Rattle.iova_core.specs.Reclaim.{IsBacked, Exchanges}
use Rattle.iova_core.specs.Domain.{Parts, state_of, IsDomain}
use Rattle.iova_core.proofs.Domains.{tied_parts}
use Rattle.iova_core.proofs.Holdings.{found_lo, removed_length, taken_none, put_back, changed_back}
use Rattle.iova_core.proofs.Reclaims.{cached_sum, profile_low}
use Rattle.iova_core.proofs.Ties.{tied_load}
use Rattle.iova_laws.proofs.Weights as weight
use Rattle.iova_laws.proofs.Weights.{cached-put_all, load}
use Rattle.iova_laws.proofs.Kept.{magazine_takes, HasRingRoom, drained_valid, unmapped_valid, held_inside, all-at, all_found, found_valid}
use Rattle.iova_laws.proofs.Moves.{drained_queued_moved, IsMoved, moved_none, shape_of, drained_moved}
use Rattle.iova_laws.proofs.Finds.{changed_found, held_at as held_again}

-- Inside a list, what stands there by default is of no matter.
pub index_default : {A : Type 0} (xs : List A) (i : ℕ) (d e : A) → i < length xs → slice_index_or xs i d ≡ slice_index_or xs i e
index_default [] i d e lt = absurd (omega arith)
index_default (x ∷ xs) zero d e lt = refl
index_default (x ∷ xs) (suc i) d e lt = index_default xs i d e (omega arith)

-- The ring that a call changes.
pub ring_is : (p : Parts) (q : ℕ) (ring : List Entry) → IsDomain p → q < p.cached.workers → ring ≡ slice_index_or p.rings q ring → ring ≡ ring_at (state_of p) q
ring_is p q ring h below is = is ∙ index_default p.rings q ring [] (omega (arith, h.valid.each_ring))

entries_are : (weigh : Frames → ℕ) (es : List Entry) → weight.ranges weigh (map entry_range es) ≡ weight.entries weigh es
entries_are weigh [] = refl
entries_are weigh (e ∷ es) = omega (arith, entries_are weigh es)

pub cached_of : (p : Parts) → IsDomain p → IsCached p.cached
cached_of p h = record {
  profile = rw h.profile h.valid.bounds.profile;
  some_worker = h.valid.some_worker;
  few_workers = h.valid.few_workers;
  caches = rw h.profile h.valid.caches;
}

-- what is inserted weighs what all but the windows have
pub inserted_load : (p : Parts) (weigh : Frames → ℕ) → IsDomain p → sum_by weigh p.tree.inserted ≡ load weigh (state_of p)
inserted_load p weigh h = weight.ranges_are weigh p.tree.inserted ∙ tied_load p.tree.inserted (state_of p) h.tied weigh

-- the tree has what is cached
pub domain_backed : (p : Parts) → IsDomain p → IsBacked p.tree p.cached []
domain_backed p h = record {
  space = h.space;
  cached = cached_of p h;
  has = λ weigh. omega (arith, inserted_load p weigh h, cached_sum weigh p.cached.caches, weight.ranges_are weigh []);
}

-- and what is in a ring
pub ring_backed : (p : Parts) (q : ℕ) → IsDomain p → q < p.cached.workers → IsBacked p.tree p.cached (map entry_range (ring_at (state_of p) q))
ring_backed p q h below = record {
  space = h.space;
  cached = cached_of p h;
  has = λ weigh.
      let ring = ring_at (state_of p) q in
      let here : q < length p.rings = omega (arith, h.valid.each_ring) in
      omega (arith, inserted_load p weigh h, cached_sum weigh p.cached.caches, weight.ranges_are weigh (map entry_range ring), entries_are weigh ring, weight.rings-set weigh q p.rings [] here);
}

-- Drained rings.
module _ (p : Parts) (tree : Space) (cached : Cached) (ring : List Entry) (q w : ℕ) (h : IsDomain p) (below-q : q < p.cached.workers) (below-w : w < p.cached.workers)
    (left : ring ≡ unflushed_rest p.flushes.finish (ring_at (state_of p) q))
    (now : cached ≡ record p.cached { caches = put_all p.cached.profile p.cached.caches w (map entry_range (flushed_front p.flushes.finish (ring_at (state_of p) q))) })
    (ex : Exchanges p.tree tree p.cached cached [] (map entry_range (flushed_front p.flushes.finish (ring_at (state_of p) q)))) where
  abbrev pub drained_parts : Parts
  drained_parts = record p { tree = tree; cached = cached; rings = slice_set p.rings q ring }

  caches_are : cached.caches ≡ (after_drain (state_of p) q w).caches
  caches_are = ap (λ (x : Cached). x.caches) now ∙ ap (λ profile. put_all profile p.cached.caches w (map entry_range (flushed_front p.flushes.finish (ring_at (state_of p) q)))) h.profile

  pub drained_state : after_drain (state_of p) q w ≡ state_of drained_parts
  drained_state =
      let made : ℕ → List Frames → Caches → List (List Entry) → State = λ n windows caches rings. record { bounds = tree.bounds; workers = n; windows = windows; clients = p.clients.clients; serial = p.clients.serial; caches = caches; rings = rings; flushes = p.flushes } in
      let s = state_of p in
      let d = after_drain s q w in
      ap (λ b. record d { bounds = b }) (sym ex.bounds)
      ∙ (ap (λ n. made n d.windows d.caches d.rings) (sym ex.workers)
      ∙ (ap (λ x. made cached.workers x d.caches d.rings) (sym ex.windows)
      ∙ (ap (λ x. made cached.workers tree.windows x d.rings) (sym caches_are)
      ∙ ap (λ x. made cached.workers tree.windows cached.caches (slice_set p.rings q x)) (sym left))))

  -- what has become free
  pub drained_frees : (weigh : Frames → ℕ) → sum_by weigh tree.inserted + sum_by weigh (freed_by_drain (state_of p) q w) ≡ sum_by weigh p.tree.inserted
  drained_frees weigh =
      let s = state_of p in
      let out = map entry_range (flushed_front s.flushes.finish (ring_at s q)) in
      let freed = freed_by_drain s q w in
      omega (arith, ex.balance weigh, cached-put_all weigh s.bounds.profile s.workers s.caches w out (magazine_takes s.bounds.profile h.valid.bounds.profile) h.valid.caches below-w, ap (weight.cached weigh) caches_are, cached_sum weigh cached.caches, cached_sum weigh p.cached.caches, weight.ranges_are weigh out, weight.ranges_are weigh freed, weight.ranges_are weigh [])

  pub domain_drained : IsDomain drained_parts
  domain_drained =
      let s = state_of p in
      let freed = freed_by_drain s q w in
      let moved : IsMoved s (state_of drained_parts) [] freed = subst (λ t. IsMoved s t [] freed) drained_state (drained_moved s q w (shape_of s h.valid) below-q below-w) in
      record {
        valid = subst IsValid drained_state (drained_valid s q w h.valid below-q below-w);
        tied = tied_parts p drained_parts [] freed h moved (λ weigh. omega (arith, drained_frees weigh, weight.ranges_are weigh []));
        space = ex.space;
        profile = ex.profile ∙ (h.profile ∙ sym (ap (λ (b : Extent). b.profile) ex.bounds));
        counted = h.counted ∙ sym (ap (sum_by (λ r. r.len)) ex.windows);
      }

-- A holding that goes into a drained ring.

-- what is flushed and what is left
flushed_length : (finish : ℕ) (es : List Entry) → length (flushed_front finish es) + length (unflushed_rest finish es) ≡ length es
flushed_length finish [] = refl
flushed_length finish (e ∷ es) = step (flushed_length finish es) (nat_lt e.count finish) refl
  where
    step : length (flushed_front finish es) + length (unflushed_rest finish es) ≡ length es → (b : Bool) → nat_lt e.count finish ≡ b → length (flushed_front finish (e ∷ es)) + length (unflushed_rest finish (e ∷ es)) ≡ length (e ∷ es)
    step more true is = rw is (omega (arith, more))
    step more false is = rw is (omega arith)

unflushed_all : (finish : ℕ) (es : List Entry) → flushed_front finish es ≡ [] → unflushed_rest finish es ≡ es
unflushed_all finish [] none = refl
unflushed_all finish (e ∷ es) none = step (nat_lt e.count finish) refl
  where
    step : (b : Bool) → nat_lt e.count finish ≡ b → unflushed_rest finish (e ∷ es) ≡ e ∷ es
    step true is = absurd (let h : e ∷ flushed_front finish es ≡ [] = rw is at none in cc)
    step false is = rw is refl

pub ring_few : (p : Parts) (q : ℕ) → IsDomain p → q < p.cached.workers → length (ring_at (state_of p) q) ≤ 255
ring_few p q h below = (all-at (IsRing p.flushes.start) p.rings q [] (omega (arith, h.valid.each_ring)) h.valid.rings).room

no_entries : (es : List Entry) → length es ≡ 0 → es ≡ []
no_entries [] none = refl
no_entries (e ∷ es) none = absurd (omega arith)

inside_end : (b : Extent) (r : Frames) → is_inside b r ≡ true → r.lo + r.len ≤ b.last + 1
inside_end b r inside =
    let last = (and_parts (nat_le 1 r.len && nat_le b.start r.lo) (nat_le (r.lo + r.len) (b.last + 1)) inside).1 in
    grind (arith, nat_tests)

-- a ring that is still full has given nothing up
pub still_full : (finish : ℕ) (es : List Entry) → length es ≤ 255 → length (unflushed_rest finish es) ≡ 255 → flushed_front finish es ≡ []
still_full finish es few full = no_entries (flushed_front finish es) (omega (arith, flushed_length finish es))

module _ (p : Parts) (tree : Space) (cached : Cached) (ring : List Entry) (w id lo : ℕ) (h : IsDomain p) (below : w < p.cached.workers) (c : Client) (r : Frames)
    (found : client_with id p.clients.clients ≡ Some c) (held : find (begins_at lo) c.holdings ≡ Some r)
    (left : ring ≡ unflushed_rest p.flushes.finish (ring_at (state_of p) w))
    (now : cached ≡ record p.cached { caches = put_all p.cached.profile p.cached.caches w (map entry_range (flushed_front p.flushes.finish (ring_at (state_of p) w))) })
    (ex : Exchanges p.tree tree p.cached cached [] (map entry_range (flushed_front p.flushes.finish (ring_at (state_of p) w)))) where
  -- the holding is one that a ring may have
  pub held_few : r.len ≤ 1048576
  held_few = all_found IsRequestSized (begins_at lo) c.holdings r held (found_valid p.cached.workers id c p.clients.clients p.clients.serial found h.valid.clients).sized

  pub held_low : r.lo + r.len ≤ 2 ^ 40
  held_low =
      let inside = held_inside (state_of p) id c r h.valid found (held_again lo r c.holdings held) in
      let end : r.lo + r.len ≤ p.tree.bounds.last + 1 = inside_end p.tree.bounds r inside in
      omega (arith, end, h.valid.bounds.bounds.below_top, profile_low p.tree.bounds.profile h.valid.bounds.profile)

  -- it can be put back
  pub held_back : (clients : List Client) → clients ≡ change_client id (without_holding lo) p.clients.clients → IsSomeAnd (client_with id clients) (CanBeGiven r)
  held_back clients is =
      let own = found_valid p.cached.workers id c p.clients.clients p.clients.serial found h.valid.clients in
      let again : client_with id clients ≡ Some (without_holding lo c) = ap (client_with id) is ∙ changed_found id (without_holding lo) c p.clients.clients found refl in
      let none : find (begins_at r.lo) (remove_at lo c.holdings) ≡ None = ap (λ n. find (begins_at n) (remove_at lo c.holdings)) (found_lo lo c.holdings r held) ∙ taken_none 0 lo c.holdings own.rising in
      rw again (record { room = (let few = removed_length lo c.holdings r held in let room = own.room in omega (arith, few, room)); new = none })

  -- and then the clients are what they were
  pub put_back_clients : change_client id (with_holding r) (change_client id (without_holding lo) p.clients.clients) ≡ p.clients.clients
  put_back_clients =
      let own = found_valid p.cached.workers id c p.clients.clients p.clients.serial found h.valid.clients in
      let back : with_holding r (without_holding lo c) ≡ c = ap (λ hs. record c { holdings = hs }) (put_back 0 lo c.holdings r own.rising held) in
      changed_back id (with_holding r) (without_holding lo) c p.clients.clients found refl back

  held' : find (begins_at r.lo) c.holdings ≡ Some r
  held' = held_again lo r c.holdings held

  here : w < length p.rings
  here = omega (arith, below, h.valid.each_ring)

  drained_ring : ring_at (after_drain (state_of p) w w) w ≡ ring
  drained_ring = get_or-set_same p.rings w (unflushed_rest p.flushes.finish (ring_at (state_of p) w)) [] here ∙ sym left

  -- the definitions queue the same
  queues : (c' : Client) → client_with id p.clients.clients ≡ Some c' → unmap_held (find (begins_at lo) c'.holdings) (state_of p) w id ≡ queue (state_of p) w id r
  queues c' found' =
      let both : Some c ≡ Some c' = sym found ∙ found' in
      let same : c ≡ c' = cc (both) in
      ap (λ o. unmap_held o (state_of p) w id) (ap (λ (x : Client). find (begins_at lo) x.holdings) (sym same) ∙ held)

  -- The entry fits.
  module _ (clients : Registry) (taken : clients.clients ≡ change_client id (without_holding lo) p.clients.clients) (serial : clients.serial ≡ p.clients.serial)
      (entry : Entry) (entry_is : entry ≡ record { lo = r.lo; len = r.len; count = p.flushes.start }) (full : List Entry) (added : full ≡ ring ++ entry ∷ []) (room : length ring < 255) where
    abbrev pub queued_parts : Parts
    queued_parts = record p { tree = tree; cached = cached; clients = clients; rings = slice_set p.rings w full }

    pub queued_state : with_entry (after_drain (state_of p) w w) w id r ≡ state_of queued_parts
    queued_state =
        let d = state_of (drained_parts p tree cached ring w w h below below left now ex) in
        let made : List Client → ℕ → List (List Entry) → State = λ cs n rings. record d { clients = cs; serial = n; rings = rings } in
        let e : Entry = record { lo = r.lo; len = r.len; count = p.flushes.start } in
        let rings : slice_set d.rings w (ring_at d w ++ e ∷ []) ≡ slice_set p.rings w full =
        set-set p.rings w ring (ring_at d w ++ e ∷ [])
        ∙ ap (λ es. slice_set p.rings w es) (ap (λ es. es ++ e ∷ []) (get_or-set_same p.rings w ring [] here) ∙ (ap (λ x. ring ++ x ∷ []) (sym entry_is) ∙ sym added)) in
        let clients_are : change_client id (without_holding r.lo) p.clients.clients ≡ clients.clients = ap (λ n. change_client id (without_holding n) p.clients.clients) (found_lo lo c.holdings r held) ∙ sym taken in
        ap (λ x. with_entry x w id r) (drained_state p tree cached ring w w h below below left now ex)
        ∙ (ap (λ cs. made cs p.clients.serial (slice_set d.rings w (ring_at d w ++ e ∷ []))) clients_are
        ∙ (ap (λ n. made clients.clients n (slice_set d.rings w (ring_at d w ++ e ∷ []))) (sym serial) ∙ ap (λ x. made clients.clients clients.serial x) rings))

    pub domain_queued : IsDomain queued_parts
    domain_queued =
        let s = state_of p in
        let freed = freed_by_drain s w w in
        let has_room : HasRingRoom s w = rw drained_ring room in
        let moved : IsMoved s (state_of queued_parts) [] freed = subst (λ t. IsMoved s t [] freed) queued_state (drained_queued_moved s w id c r (shape_of s h.valid) below found held') in
        record {
          valid = subst IsValid queued_state (unmapped_valid s w id c r h.valid below found held' has_room);
          tied = tied_parts p queued_parts [] freed h moved (λ weigh. omega (arith, drained_frees p tree cached ring w w h below below left now ex weigh, weight.ranges_are weigh []));
          space = ex.space;
          profile = ex.profile ∙ (h.profile ∙ sym (ap (λ (b : Extent). b.profile) ex.bounds));
          counted = h.counted ∙ sym (ap (sum_by (λ r. r.len)) ex.windows);
        }

    pub queue_taken : (c' : Client) → client_with id p.clients.clients ≡ Some c' → unmap_held (find (begins_at lo) c'.holdings) (state_of p) w id ≡ record { reply = reply.Queued r; state = state_of queued_parts }
    queue_taken c' found' =
        let test : nat_le 255 (length (ring_at (after_drain (state_of p) w w) w)) ≡ false = let e = ap length drained_ring in grind (arith, nat_tests) in
        let answer : State → Next = λ t. record { reply = reply.Queued r; state = t } in
        queues c' found' ∙ (rw test refl ∙ ap answer queued_state)

  -- The ring is full all the same.
  module _ (clients : Registry) (back : clients.clients ≡ change_client id (with_holding r) (change_client id (without_holding lo) p.clients.clients)) (serial : clients.serial ≡ p.clients.serial) (full : List Entry) (same : full ≡ ring) (is_full : length ring ≡ 255) where
    nothing : flushed_front p.flushes.finish (ring_at (state_of p) w) ≡ []
    nothing = still_full p.flushes.finish (ring_at (state_of p) w) (ring_few p w h below) (sym (ap length left) ∙ is_full)

    cached_same : cached ≡ p.cached
    cached_same = now ∙ ap (λ es. let c = p.cached in record c { caches = put_all p.cached.profile p.cached.caches w (map entry_range es) }) nothing

    abbrev pub kept_parts : Parts
    kept_parts = record p { tree = tree; cached = cached; clients = clients; rings = slice_set p.rings w full }

    pub kept_state : state_of kept_parts ≡ state_of p
    kept_state =
        let made : Extent → List Frames → Cached → List Client → ℕ → List (List Entry) → State = λ b windows x cs n rings. record { bounds = b; workers = x.workers; windows = windows; clients = cs; serial = n; caches = x.caches; rings = rings; flushes = p.flushes } in
        let rings : slice_set p.rings w full ≡ p.rings =
        ap (λ es. slice_set p.rings w es) (same ∙ (left ∙ unflushed_all p.flushes.finish (ring_at (state_of p) w) nothing)) ∙ set-get_or p.rings w [] in
        ap (λ b. made b tree.windows cached clients.clients clients.serial (slice_set p.rings w full)) ex.bounds
        ∙ (ap (λ x. made p.tree.bounds x cached clients.clients clients.serial (slice_set p.rings w full)) ex.windows
        ∙ (ap (λ x. made p.tree.bounds p.tree.windows x clients.clients clients.serial (slice_set p.rings w full)) cached_same
        ∙ (ap (λ x. made p.tree.bounds p.tree.windows p.cached x clients.serial (slice_set p.rings w full)) (back ∙ put_back_clients)
        ∙ (ap (λ x. made p.tree.bounds p.tree.windows p.cached p.clients.clients x (slice_set p.rings w full)) serial
        ∙ ap (λ x. made p.tree.bounds p.tree.windows p.cached p.clients.clients p.clients.serial x) rings))))

    pub domain_kept : IsDomain kept_parts
    domain_kept =
        let s = state_of p in
        record {
          valid = subst IsValid (sym kept_state) h.valid;
          tied = tied_parts p kept_parts [] [] h (subst (λ t. IsMoved s t [] []) (sym kept_state) (moved_none s))
              (λ weigh. omega (arith, ex.balance weigh, ap (λ (x : Cached). sum_by weigh (cached_ranges x.caches)) cached_same, ap (λ es. sum_by weigh (map entry_range es)) nothing, weight.ranges_are weigh []));
          space = ex.space;
          profile = ex.profile ∙ (h.profile ∙ sym (ap (λ (b : Extent). b.profile) ex.bounds));
          counted = h.counted ∙ sym (ap (sum_by (λ r. r.len)) ex.windows);
        }

    pub queue_full : (c' : Client) → client_with id p.clients.clients ≡ Some c' → unmap_held (find (begins_at lo) c'.holdings) (state_of p) w id ≡ refuse_step refusal.RingFull (state_of p)
    queue_full c' found' =
        let test : nat_le 255 (length (ring_at (after_drain (state_of p) w w) w)) ≡ true = let e = ap length drained_ring in grind (arith, nat_tests) in
        queues c' found' ∙ rw test refl
