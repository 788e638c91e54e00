-- The caches keep their shape and their limits.
use Rattle.std.proofs.Common.{ℕ, ◌≡◌, ◌-◌, ◌^◌, ◌<◌, ◌≤◌, inl, inr, cond, not, List, [], ◌∷◌, ◌++◌, length, map, replicate, Option, Some, None, refl, ap, ◌∙◌, arith, length-append, length-set, length-take}
use Rattle.std.specs.List.{AllByRecursion}
use Rattle.std.specs.Prelude.{nat_lt, slice_index, slice_index_or, slice_set}
use Rattle.std.proofs.lemmas.Bool.{cond_both, ltb-true, ltb-false}
use Rattle.std.proofs.lemmas.Bool.Decides.{nat_tests}
use Rattle.std.proofs.lemmas.List.{length-map, length-replicate}
use Rattle.iova_range.specs.Frames.{Frames}
use Rattle.iova_range.specs.Sizes.{order_of}
use Rattle.iova_range.specs.Bounds.{Capacities, IsProfile}
use Rattle.iova_model.specs.Caches.{Cache, Caches, Shelf, is_empty, last_or, front, no_magazines, new_caches, shelf_at, with_shelf, reload, fitting, pop_entry, get, with_room, put, put_range, put_all, without_entries}
use Rattle.iova_model.specs.Valid.{IsCache, AreWorkerCaches, IsDepotList, IsDepot, AreCaches}
use Rattle.iova_laws.proofs.ValidLists.{all-at, all-set, all-push, all-take, all-replicate, all-map}

-- an order that is found is one of the six, and its power of two is the size
pub record IsOrder (size o : ℕ) : Type 0 where
  pub few : o < 6
  pub power : 2 ^ o ≡ size

-- the order of a size is so
pub order_is : (size o : ℕ) → order_of size ≡ Some o → IsOrder size o
order_is size o found = record { few = grind (arith, nat_tests); power = grind (arith, nat_tests) }

-- a magazine of either profile takes an entry
pub magazine_takes : (p : Capacities) → IsProfile p → 1 ≤ p.mag
magazine_takes p (inl e) = let mag : p.mag ≡ 128 = ap (λ x. x.mag) e in omega arith
magazine_takes p (inr e) = let mag : p.mag ≡ 127 = ap (λ x. x.mag) e.1 in omega arith

module _ (p : Capacities) where
  -- what one get or put sees keeps the limits of the profile
  pub record IsShelf (s : Shelf) : Type 0 where
    pub loaded : length s.loaded ≤ p.mag
    pub previous : length s.previous ≤ p.mag
    pub depot : IsDepot p s.depot

  -- the worker and the order have a shelf
  pub record HasShelf (c : Caches) (w o : ℕ) : Type 0 where
    pub worker : w < length c.workers
    pub order : o < length (slice_index_or c.workers w [])
    pub depot : o < length c.depots

  -- each worker has a shelf of each order
  pub has_shelf : (n : ℕ) (c : Caches) (w o : ℕ) → AreCaches p n c → w < n → o < 6 → HasShelf c w o
  has_shelf n c w o h below few =
      let worker : w < length c.workers = omega (arith, h.each_worker) in
      let mine = all-at (AreWorkerCaches p) c.workers w [] worker h.magazines in
      record { worker = worker; order = omega (arith, mine.orders); depot = omega (arith, h.orders) }

  -- which keeps the limits
  pub shelf_valid : (n : ℕ) (c : Caches) (w o : ℕ) → AreCaches p n c → w < n → o < 6 → IsShelf (shelf_at c w o)
  shelf_valid n c w o h below few =
      let has = has_shelf n c w o h below few in
      let mine = all-at (AreWorkerCaches p) c.workers w [] has.worker h.magazines in
      let cache = all-at (IsCache p) (slice_index_or c.workers w []) o no_magazines has.order mine.each in
      record { loaded = cache.loaded; previous = cache.previous; depot = all-at (IsDepot p) c.depots o [] has.depot h.depots }

  -- the caches with another shelf that does
  pub with_shelf_valid : (n : ℕ) (c : Caches) (w o : ℕ) (s : Shelf) → AreCaches p n c → w < n → o < 6 → IsShelf s → AreCaches p n (with_shelf c w o s)
  with_shelf_valid n c w o s h below few shelf =
      let has = has_shelf n c w o h below few in
      let cs = slice_index_or c.workers w [] in
      let x : Cache = record { loaded = s.loaded; previous = s.previous } in
      let mine = all-at (AreWorkerCaches p) c.workers w [] has.worker h.magazines in
      let cache : IsCache p x = record { loaded = shelf.loaded; previous = shelf.previous } in
      let new : AreWorkerCaches p (slice_set cs o x) = record { orders = length-set cs o x ∙ mine.orders; each = all-set (IsCache p) cs o x cache mine.each } in
      record {
        each_worker = length-set c.workers w (slice_set cs o x) ∙ h.each_worker;
        magazines = all-set (AreWorkerCaches p) c.workers w (slice_set cs o x) new h.magazines;
        orders = length-set c.depots o s.depot ∙ h.orders;
        depots = all-set (IsDepot p) c.depots o s.depot shelf.depot h.depots;
      }

  -- A get.

  -- the depot without its last list
  front_valid : (d : List (List ℕ)) → IsDepot p d → IsDepot p (front d)
  front_valid d h = record {
    room = omega (arith, h.room, length-take (length d - 1) d);
    each = all-take (IsDepotList p) (length d - 1) d h.each;
  }

  -- that list fits in a magazine
  last_fits : (d : List (List ℕ)) → IsDepot p d → length (last_or [] d) ≤ p.mag
  last_fits [] h = omega arith
  last_fits (x ∷ xs) h =
      (all-at (IsDepotList p) (x ∷ xs) (length (x ∷ xs) - 1) [] (omega arith) h.each).room

  -- the moves before a get
  reloaded_valid : (s : Shelf) → IsShelf s → IsShelf (reload s)
  reloaded_valid s h =
      let turned : Shelf = record { loaded = s.previous; previous = s.loaded; depot = s.depot } in
      let refilled : Shelf = record { loaded = last_or [] s.depot; previous = []; depot = front s.depot } in
      cond_both (not (is_empty s.loaded)) s (cond (not (is_empty s.previous)) turned refilled) IsShelf
      (λ e. h)
      (λ e. cond_both (not (is_empty s.previous)) turned refilled IsShelf
      (λ f. record { loaded = h.previous; previous = h.loaded; depot = h.depot })
      (λ f. record { loaded = last_fits s.depot h.depot; previous = omega arith; depot = front_valid s.depot h.depot }))

  -- an entry leaves
  popped_valid : (s : Shelf) (x : Option ℕ) → IsShelf s → IsShelf (pop_entry s x).1
  popped_valid s None h = h
  popped_valid s (Some i) h =
      let n = length s.loaded - 1 in
      let written = slice_set s.loaded i (slice_index s.loaded n) in
      record {
        loaded = omega (arith, h.loaded, length-take n written, length-set s.loaded i (slice_index s.loaded n));
        previous = h.previous;
        depot = h.depot;
      }

  -- a get keeps the limits
  pub get_valid : (s : Shelf) (limit size : ℕ) → IsShelf s → IsShelf (get s limit size).1
  get_valid s limit size h =
      popped_valid (reload s) (fitting (reload s).loaded limit size) (reloaded_valid s h)

  -- A put.

  -- room for one more
  record HasRoom (s : Shelf) : Type 0 where
    loaded : length s.loaded < p.mag
    previous : length s.previous ≤ p.mag
    depot : IsDepot p s.depot

  -- the moves before a put leave room
  with_room_valid : (s : Shelf) → 1 ≤ p.mag → IsShelf s → HasRoom (with_room p s)
  with_room_valid s takes h =
      let turned : Shelf = record { loaded = s.previous; previous = s.loaded; depot = s.depot } in
      let to_depot : Shelf = record { loaded = []; previous = s.previous; depot = s.depot ++ s.loaded ∷ [] } in
      let away : Shelf = record { loaded = []; previous = s.previous; depot = s.depot } in
      cond_both (nat_lt (length s.loaded) p.mag) s (cond (nat_lt (length s.previous) p.mag) turned (cond (nat_lt (length s.depot) p.depot) to_depot away)) HasRoom
      (λ e. record { loaded = ltb-true _ _ e; previous = h.previous; depot = h.depot })
      (λ e. cond_both (nat_lt (length s.previous) p.mag) turned (cond (nat_lt (length s.depot) p.depot) to_depot away) HasRoom
      (λ f. record { loaded = ltb-true _ _ f; previous = h.loaded; depot = h.depot })
      (λ f. cond_both (nat_lt (length s.depot) p.depot) to_depot away HasRoom
      (λ g. record {
        loaded = omega arith;
        previous = h.previous;
        depot =
            let full = ltb-false _ _ e in
            let room = ltb-true _ _ g in
            record {
              room = omega (arith, length-append s.depot (s.loaded ∷ []));
              each = all-push (IsDepotList p) s.depot s.loaded (record { some = omega arith; room = h.loaded }) h.depot.each;
            };
      })
      (λ g. record { loaded = omega arith; previous = h.previous; depot = h.depot })))

  -- a put keeps the limits
  put_valid : (s : Shelf) (lo : ℕ) → 1 ≤ p.mag → IsShelf s → IsShelf (put p s lo)
  put_valid s lo takes h =
      let room = with_room_valid s takes h in
      record {
        loaded = omega (arith, room.loaded, length-append (with_room p s).loaded (lo ∷ []));
        previous = room.previous;
        depot = room.depot;
      }

  -- so does a range that goes to the magazines
  pub put_range_valid : (n : ℕ) (c : Caches) (w : ℕ) (r : Frames) (x : Option ℕ) → order_of r.len ≡ x → 1 ≤ p.mag → w < n → AreCaches p n c → AreCaches p n (put_range p c w r x)
  put_range_valid n c w r None is takes below h = h
  put_range_valid n c w r (Some o) is takes below h =
      let few = (order_is r.len o is).few in
      with_shelf_valid n c w o (put p (shelf_at c w o) r.lo) h below few (put_valid (shelf_at c w o) r.lo takes (shelf_valid n c w o h below few))

  -- and so do any number
  pub put_all_valid : (n : ℕ) (c : Caches) (w : ℕ) (rs : List Frames) → 1 ≤ p.mag → w < n → AreCaches p n c → AreCaches p n (put_all p c w rs)
  put_all_valid n c w [] takes below h = h
  put_all_valid n c w (r ∷ rs) takes below h =
      put_all_valid n (put_range p c w r (order_of r.len)) w rs takes below (put_range_valid n c w r (order_of r.len) refl takes below h)

  -- Nothing is cached.

  -- empty magazines keep the limits
  none_valid : IsCache p no_magazines
  none_valid = record { loaded = omega arith; previous = omega arith }

  -- and so does an empty depot
  no_lists_valid : IsDepot p []
  no_lists_valid = record { room = omega arith; each = tt }

  -- new caches keep them
  pub new_caches_valid : (n : ℕ) → AreCaches p n (new_caches n)
  new_caches_valid n =
      let six : AreWorkerCaches p (replicate 6 no_magazines) = record { orders = refl; each = all-replicate (IsCache p) 6 no_magazines none_valid } in
      record {
        each_worker = length-replicate n (replicate 6 no_magazines);
        magazines = all-replicate (AreWorkerCaches p) n (replicate 6 no_magazines) six;
        orders = refl;
        depots = all-replicate (IsDepot p) 6 [] no_lists_valid;
      }

  -- emptied magazines do
  emptied_workers : (ws : List (List Cache)) → AllByRecursion (AreWorkerCaches p) ws → AllByRecursion (AreWorkerCaches p) (map (λ cs. map (λ cache. no_magazines) cs) ws)
  emptied_workers [] h = tt
  emptied_workers (cs ∷ ws) h = (
    record { orders = length-map cs _ ∙ h.0.orders; each = all-map (IsCache p) (λ cache. no_magazines) cs (λ cache. none_valid) },
    emptied_workers ws h.1,
  )

  -- and emptied caches
  pub emptied_valid : (n : ℕ) (c : Caches) → AreCaches p n c → AreCaches p n (without_entries c)
  emptied_valid n c h = record {
    each_worker = length-map c.workers _ ∙ h.each_worker;
    magazines = emptied_workers c.workers h.magazines;
    orders = length-map c.depots _ ∙ h.orders;
    depots = all-map (IsDepot p) (λ d. []) c.depots (λ d. no_lists_valid);
  }
