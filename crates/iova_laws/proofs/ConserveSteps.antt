-- What each part of a step takes from free frames, and what it makes free.
use Rattle.std.proofs.Common.{ℕ, ◌≡◌, ◌+◌, ◌<◌, ◌≤◌, inl, inr, Bool, true, List, [], ◌∷◌, ◌++◌, length, Some, refl, ap, ◌∙◌, arith, find, map}
use Rattle.iova_range.specs.Frames.{Frames}
use Rattle.iova_model.specs.declared.entry.Entry.{Entry}
use Rattle.iova_model.specs.Caches.{Caches}
use Rattle.iova_model.specs.Flushes.{Flushes, entry_range, flushed_front, unflushed_rest}
use Rattle.iova_model.specs.Clients.{Client, new_client, client_with, change_client, without_client, with_mark, begins_at, with_holding, without_holding}
use Rattle.iova_model.specs.State.{State}
use Rattle.iova_model.specs.Valid.{AreCaches, IsValid}
use Rattle.iova_model.specs.Next.{with_clients, with_caches, with_flushes, with_new_client, ring_at, after_drain, with_entry}
use Rattle.iova_model.specs.Effects.{freed_by_drain, cached_ranges, FreesCaches}
use Rattle.iova_laws.proofs.Weight as weight
use Rattle.iova_laws.proofs.WeightCaches.{cached-put_all}
use Rattle.iova_laws.proofs.WeightHolders.{load, cached_weigh}
use Rattle.iova_laws.proofs.ValidCaches.{magazine_takes}
use Rattle.iova_laws.proofs.ValidCases.{with_marked}
use Rattle.iova_laws.proofs.ConserveWalk.{Same, Left, NoneCached, MayEmpty}

-- Windows and bounds stay, and all else weighs what it did, with what was taken from free frames and without what became
-- free.
pub record IsMoved (s t : State) (gained freed : List Frames) : Type 0 where
  pub windows : t.windows ≡ s.windows
  pub bounds : t.bounds ≡ s.bounds
  pub balance : (weigh : Frames → ℕ) → load weigh t + weight.ranges weigh freed ≡ load weigh s + weight.ranges weigh gained

-- a state that stays
pub moved_none : (s : State) → IsMoved s s [] []
moved_none s = record { windows = refl; bounds = refl; balance = λ weigh. refl }

-- one part frees ranges, and the next takes some
pub moved_then : (s t u : State) (gained freed : List Frames) → IsMoved s t [] freed → IsMoved t u gained [] → IsMoved s u gained freed
moved_then s t u gained freed a b = record {
  windows = b.windows ∙ a.windows;
  bounds = b.bounds ∙ a.bounds;
  balance = λ weigh. omega (arith, a.balance weigh, b.balance weigh);
}

-- Clients.

-- clients that hold the same
clients_moved : (s : State) (cs : List Client) → ((weigh : Frames → ℕ) → weight.clients weigh cs ≡ weight.clients weigh s.clients) → IsMoved s (with_clients s cs) [] []
clients_moved s cs same = record { windows = refl; bounds = refl; balance = λ weigh. omega (arith, same weigh) }

-- a new client holds nothing
pub opened_moved : (s : State) (w : ℕ) (sac : Bool) → IsMoved s (with_new_client s w sac) [] []
opened_moved s w sac = record {
  windows = refl;
  bounds = refl;
  balance = λ weigh. omega (arith, weight.clients-append weigh s.clients (new_client (s.serial + 1) w sac ∷ []));
}

-- a client that is marked holds what it did
pub marked_moved : (s : State) (id : ℕ) → IsMoved s (with_marked s id) [] []
marked_moved s id = clients_moved s (change_client id with_mark s.clients) (λ weigh. weight.clients-marked weigh id s.clients)

-- a client with nothing goes
pub forgotten_moved : (s : State) (id : ℕ) (c : Client) → client_with id s.clients ≡ Some c → c.holdings ≡ [] → IsMoved s (with_clients s (without_client id s.clients)) [] []
forgotten_moved s id c found none =
    clients_moved s (without_client id s.clients) (λ weigh. omega (arith, weight.clients-forgotten weigh id c s.clients found, ap (weight.ranges weigh) none))

-- a client gets a range
pub given_moved : (s : State) (id : ℕ) (c : Client) (r : Frames) → client_with id s.clients ≡ Some c → IsMoved s (with_clients s (change_client id (with_holding r) s.clients)) (r ∷ []) []
given_moved s id c r found = record {
  windows = refl;
  bounds = refl;
  balance = λ weigh. omega (arith, weight.clients-changed weigh id (with_holding r) c s.clients found, weight.ranges-insert weigh r c.holdings);
}

-- Caches.

-- caches that were only put in another order
same_moved : (s : State) (c : Caches) → Same s.caches c → IsMoved s (with_caches s c) [] []
same_moved s c same = record { windows = refl; bounds = refl; balance = λ weigh. omega (arith, same weigh) }

-- caches that were emptied free all that they had
pub emptied_moved : (s : State) (c : Caches) → NoneCached c → IsMoved s (with_caches s c) [] (cached_ranges s.caches)
emptied_moved s c none = record {
  windows = refl;
  bounds = refl;
  balance = λ weigh. omega (arith, none weigh, cached_weigh weigh s.caches);
}

-- what becomes free where the caches may have been emptied
pub record IsFreed (s : State) (c : Caches) : Type 0 where
  pub freed : List Frames
  pub is : FreesCaches s.caches freed
  pub moved : IsMoved s (with_caches s c) [] freed

-- what is left of the caches frees nothing, or all that was cached
pub may_moved : (s : State) (c : Caches) → MayEmpty true s.caches c → IsFreed s c
may_moved s c (inl same) = record { freed = []; is = inl refl; moved = same_moved s c same }
may_moved s c (inr none) = record { freed = cached_ranges s.caches; is = inr refl; moved = emptied_moved s c none }

-- a client gets a cached range
pub left_moved : (s : State) (c : Caches) (id : ℕ) (x : Client) (r : Frames) → Left r s.caches c → client_with id s.clients ≡ Some x → IsMoved s (with_clients (with_caches s c) (change_client id (with_holding r) s.clients)) [] []
left_moved s c id x r left found = record {
  windows = refl;
  bounds = refl;
  balance = λ weigh. omega (arith, left weigh, (given_moved s id x r found).balance weigh);
}

-- Rings.

-- the magazines take an entry, and each worker has its caches and its ring
pub record HasShape (s : State) : Type 0 where
  pub takes : 1 ≤ s.bounds.profile.mag
  pub caches : AreCaches s.bounds.profile s.workers s.caches
  pub each_ring : length s.rings ≡ s.workers

-- a valid state is so
pub shape_of : (s : State) → IsValid s → HasShape s
shape_of s valid = record { takes = magazine_takes s.bounds.profile valid.bounds.profile; caches = valid.caches; each_ring = valid.each_ring }

-- a drained ring goes to the magazines, and what they send out becomes free
pub drained_moved : (s : State) (q w : ℕ) → HasShape s → q < s.workers → w < s.workers → IsMoved s (after_drain s q w) [] (freed_by_drain s q w)
drained_moved s q w shape below-q below-w = record {
  windows = refl;
  bounds = refl;
  balance = λ weigh.
      let ring = ring_at s q in
      let out = map entry_range (flushed_front s.flushes.finish ring) in
      let here : q < length s.rings = omega (arith, shape.each_ring) in
      omega (arith, weight.rings-set weigh q s.rings (unflushed_rest s.flushes.finish ring) here, weight.entries-unflushed weigh s.flushes.finish ring, cached-put_all weigh s.bounds.profile s.workers s.caches w out shape.takes shape.caches below-w);
}

-- a client's range goes to a ring
pub queued_moved : (s : State) (w id : ℕ) (c : Client) (r : Frames) → w < length s.rings → client_with id s.clients ≡ Some c → find (begins_at r.lo) c.holdings ≡ Some r → IsMoved s (with_entry s w id r) [] []
queued_moved s w id c r here found held = record {
  windows = refl;
  bounds = refl;
  balance = λ weigh.
      let e : Entry = record { lo = r.lo; len = r.len; count = s.flushes.start } in
      let ring = ring_at s w in
      omega (arith, weight.clients-changed weigh id (without_holding r.lo) c s.clients found, weight.ranges-remove weigh r.lo r c.holdings held, weight.rings-set weigh w s.rings (ring ++ e ∷ []) here, weight.entries-append weigh ring (e ∷ []));
}

-- the flushes have no ranges
pub flushes_moved : (s : State) (f : Flushes) → IsMoved s (with_flushes s f) [] []
flushes_moved s f = record { windows = refl; bounds = refl; balance = λ weigh. refl }
