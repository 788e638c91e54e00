-- A try of a request, from what its calls say to what the definitions say.
use Rattle.std.proofs.Common.{ℕ, ◌≡◌, ◌+◌, ◌^◌, ◌<◌, ◌≤◌, ◌⊎◌, inl, inr, Bool, true, false, List, [], ◌∷◌, ◌++◌, Option, Some, None, refl, sym, ap, ◌∙◌, arith, sum_by}
use Rattle.iova_range.specs.Frames.{Frames}
use Rattle.iova_range.specs.Sizes.{order_of}
use Rattle.iova_model.specs.declared.step.Point.{Point}
use Rattle.iova_model.specs.declared.step.Point.TheVariants as point
use Rattle.iova_model.specs.Caches.{Caches, Shelf, shelf_at, with_shelf, get, without_entries}
use Rattle.iova_model.specs.Fit.{best}
use Rattle.iova_model.specs.Effects.{cached_ranges}
use Rattle.iova_model.specs.Clients.{insert_rising}
use Rattle.iova_model.specs.State.{State, held_ranges}
use Rattle.iova_model.specs.Next as next
use Rattle.iova_model.proofs.Placing.{AreSome, best-from, best-is_best, IsBest-same}
use Rattle.iova_tree.specs.Space.{Space, IsSpace, RiseApart, ranges_of}
use Rattle.iova_depot.specs.Cached.{Cached, IsCached}
use Rattle.iova_core.specs.declared.walk.Walked.{Walked}
use Rattle.iova_core.specs.declared.walk.Walked.TheVariants as found
use Rattle.iova_core.specs.Reclaim.{HasAll, IsBacked, Exchanges}
use Rattle.iova_core.specs.Tied.{IsTied}
use Rattle.iova_core.specs.Walk.{get_cached, Places, ArePartsOf, Comes, point_of, placed_ranges, found_as, IsPlacedOf, IsTryPoint, IsPointFrom}
use Rattle.iova_core.proofs.Covered.{covered_alike}
use Rattle.iova_core.proofs.Given.{some_alike}
use Rattle.iova_core.proofs.Reclaims.{cached_sum}
use Rattle.iova_core.proofs.Ties.{tied_load, load_tied}
use Rattle.iova_laws.proofs.Weights as weight
use Rattle.iova_laws.proofs.Weights.{cached_with, get_pops, Pops}
use Rattle.iova_laws.proofs.Kept.{has_shelf, order_is}

-- The best place in a tree is the best in the state.

rise_some : (from until : ℕ) (rs : List Frames) → RiseApart from rs until → AreSome rs
rise_some from until [] rise = tt
rise_some from until (r ∷ rs) rise = (rise.1, rise_some (r.lo + r.len) until rs rise.2)

some_append : (xs ys : List Frames) → AreSome xs → AreSome ys → AreSome (xs ++ ys)
some_append [] ys a b = b
some_append (x ∷ xs) ys a b = (a.0, some_append xs ys a.1 b)

pub space_some : (tree : Space) → IsSpace tree → AreSome (ranges_of tree)
space_some tree space = some_append tree.windows tree.inserted (rise_some tree.bounds.start (tree.bounds.last + 1) tree.windows space.windows) (rise_some tree.bounds.start (tree.bounds.last + 1) tree.inserted space.inserted)

pub best_same : (tree : Space) (c : Caches) (s : State) (size limit : ℕ) → 1 ≤ size → IsSpace tree → ArePartsOf tree c s → next.best_place s size limit ≡ best tree.bounds (ranges_of tree) size limit
best_same tree c s size limit some space stands =
    let ranges = ranges_of tree in
    let all = space_some tree space in
    let held : AreSome (held_ranges s) = some_alike (held_ranges s) ranges (λ weigh. sym (stands.tied weigh)) all in
    let same : best s.bounds ranges size limit ≡ next.best_place s size limit =
    best-from s.bounds (held_ranges s) size limit (best s.bounds ranges size limit) some held
    (IsBest-same s.bounds ranges (held_ranges s) size limit (best s.bounds ranges size limit) (λ frame. sym (covered_alike ranges (held_ranges s) stands.tied frame)) (best-is_best s.bounds ranges size limit some all)) in
    sym same ∙ ap (λ b. best b ranges size limit) stands.bounds

-- A state with other caches.

pub stands_with : (tree tree' : Space) (c c' : Caches) (s : State) → ArePartsOf tree c s → tree'.bounds ≡ tree.bounds → tree'.windows ≡ tree.windows
    → ((weigh : Frames → ℕ) → sum_by weigh tree'.inserted + weight.cached weigh c ≡ sum_by weigh tree.inserted + weight.cached weigh c') → ArePartsOf tree' c' (next.with_caches s c')
stands_with tree tree' c c' s stands bounds windows balance =
    let t = next.with_caches s c' in
    let ranges : s.windows ++ tree.inserted ≡ ranges_of tree = ap (λ l. l ++ tree.inserted) stands.windows in
    let tied : IsTied (s.windows ++ tree.inserted) s = rw ranges stands.tied in
    let ranges' : ranges_of tree' ≡ t.windows ++ tree'.inserted = ap (λ l. l ++ tree'.inserted) (windows ∙ sym stands.windows) in
    record {
      bounds = stands.bounds ∙ sym bounds;
      windows = stands.windows ∙ sym windows;
      cached = refl;
      tied = rw ranges' (load_tied tree'.inserted t (λ weigh.
          omega (arith, tied_load tree.inserted s tied weigh, balance weigh, weight.ranges_are weigh tree.inserted, weight.ranges_are weigh tree'.inserted, ap (weight.cached weigh) stands.cached)));
    }

-- Gets.

-- what a get gives has left the caches
abbrev pub GetsFrom : ℕ → Option ℕ → Caches → Caches → Type 0
GetsFrom size None c c' = (weigh : Frames → ℕ) → weight.cached weigh c' ≡ weight.cached weigh c
GetsFrom size (Some lo) c c' = (weigh : Frames → ℕ) → weight.cached weigh c' + weigh (record { lo = lo; len = size }) ≡ weight.cached weigh c

gets_shelf : (c : Cached) (w o size : ℕ) (got : Option ℕ) (shelf : Shelf) → IsCached c → w < c.workers → o < 6 → 2 ^ o ≡ size → ((weigh : Frames → ℕ) → Pops weigh o (shelf_at c.caches w o) got shelf) → GetsFrom size got c.caches (with_shelf c.caches w o shelf)
gets_shelf c w o size None shelf cached lt few power pops = λ weigh.
    omega (arith, cached_with weigh c.profile c.caches w o shelf (has_shelf c.profile c.workers c.caches w o cached.caches lt few), pops weigh)
gets_shelf c w o size (Some lo) shelf cached lt few power pops = λ weigh.
    let same : weigh (record { lo = lo; len = 2 ^ o }) ≡ weigh (record { lo = lo; len = size }) = ap (λ len. weigh (record { lo = lo; len = len })) power in
    omega (arith, cached_with weigh c.profile c.caches w o shelf (has_shelf c.profile c.workers c.caches w o cached.caches lt few), pops weigh, same)

gets_order : (c : Cached) (w size limit : ℕ) (x : Option ℕ) → order_of size ≡ x → IsCached c → w < c.workers → GetsFrom size (get_cached c.caches w size limit x).0 c.caches (get_cached c.caches w size limit x).1
gets_order c w size limit None is cached lt = λ weigh. refl
gets_order c w size limit (Some o) is cached lt =
    let order = order_is size o is in
    let s = shelf_at c.caches w o in
    gets_shelf c w o size (get s limit size).0 (get s limit size).1 cached lt order.few order.power (λ weigh. get_pops weigh o s limit size)

pub gets : (c c' : Cached) (w size limit : ℕ) (got : Option ℕ) → IsCached c → w < c.workers → got ≡ (get_cached c.caches w size limit (order_of size)).0 → c' ≡ record c { caches = (get_cached c.caches w size limit (order_of size)).1 } → GetsFrom size got c.caches c'.caches
gets c c' w size limit got cached lt is now =
    rw (is, ap (λ (x : Cached). x.caches) now) (gets_order c w size limit (order_of size) refl cached lt)

-- the tree has it
pub gets_has : (tree : Space) (c c' : Cached) (size lo : ℕ) → IsBacked tree c [] → GetsFrom size (Some lo) c.caches c'.caches → HasAll tree (record { lo = lo; len = size } ∷ [])
gets_has tree c c' size lo backed from weigh =
    omega (arith, backed.has weigh, from weigh, cached_sum weigh c.caches, weight.ranges_are weigh (record { lo = lo; len = size } ∷ []))

-- Exchanges.

-- the range that a get gives
abbrev pub got_range : ℕ → Option ℕ → List Frames
got_range size None = []
got_range size (Some lo) = record { lo = lo; len = size } ∷ []

pub exchanges_got : (tree : Space) (c c' : Cached) (size : ℕ) (got : Option ℕ) → IsSpace tree → IsCached c' → GetsFrom size got c.caches c'.caches → c' ≡ record c { caches = c'.caches } → Exchanges tree tree c c' (got_range size got) []
exchanges_got tree c c' size None space cached from now = record {
  space = space;
  cached = cached;
  bounds = refl;
  windows = refl;
  profile = ap (λ (x : Cached). x.profile) now;
  workers = ap (λ (x : Cached). x.workers) now;
  balance = λ weigh. omega (arith, from weigh, cached_sum weigh c.caches, cached_sum weigh c'.caches, weight.ranges_are weigh []);
}
exchanges_got tree c c' size (Some lo) space cached from now = record {
  space = space;
  cached = cached;
  bounds = refl;
  windows = refl;
  profile = ap (λ (x : Cached). x.profile) now;
  workers = ap (λ (x : Cached). x.workers) now;
  balance = λ weigh. omega (arith, from weigh, cached_sum weigh c.caches, cached_sum weigh c'.caches, weight.ranges_are weigh [], weight.ranges_are weigh (record { lo = lo; len = size } ∷ []));
}

-- Trees.

-- what a tree gives is inserted
pub exchanges_placed : (o : Option ℕ) (here : Point) (size : ℕ) (tree tree' : Space) (c : Cached) (f : Walked) → IsSpace tree' → IsCached c → Places o here size tree tree' f → Exchanges tree tree' c c (placed_ranges f) []
exchanges_placed None here size tree tree' c found.Nowhere space cached h = record {
  space = space;
  cached = cached;
  bounds = ap (λ (t : Space). t.bounds) h;
  windows = ap (λ (t : Space). t.windows) h;
  profile = refl;
  workers = refl;
  balance = λ weigh. ap (λ (t : Space). sum_by weigh t.inserted + sum_by weigh (cached_ranges c.caches) + sum_by weigh []) h;
}
exchanges_placed None here size tree tree' c (found.Placed r) space cached h = absurd h
exchanges_placed None here size tree tree' c (found.OutOfMemory m) space cached h = absurd h
exchanges_placed (Some lo) here size tree tree' c found.Nowhere space cached h = absurd h
exchanges_placed (Some lo) here size tree tree' c (found.Placed r) space cached h = record {
  space = space;
  cached = cached;
  bounds = ap (λ (t : Space). t.bounds) h.1;
  windows = ap (λ (t : Space). t.windows) h.1;
  profile = refl;
  workers = refl;
  balance = λ weigh.
      let e : sum_by weigh tree'.inserted ≡ sum_by weigh (insert_rising r tree.inserted) = ap (λ (t : Space). sum_by weigh t.inserted) h.1 in
      omega (arith, e, weight.ranges_are weigh (insert_rising r tree.inserted), weight.ranges_are weigh tree.inserted, weight.ranges-insert weigh r tree.inserted, weight.ranges_are weigh [], weight.ranges_are weigh (r ∷ []));
}
exchanges_placed (Some lo) here size tree tree' c (found.OutOfMemory m) space cached h = record {
  space = space;
  cached = cached;
  bounds = ap (λ (t : Space). t.bounds) h.1;
  windows = ap (λ (t : Space). t.windows) h.1;
  profile = refl;
  workers = refl;
  balance = λ weigh. ap (λ (t : Space). sum_by weigh t.inserted + sum_by weigh (cached_ranges c.caches) + sum_by weigh []) h.1;
}

-- first nothing is given, then something
pub exchanges_later : (tree mid tree' : Space) (c d c' : Cached) (given : List Frames) → Exchanges tree mid c d [] [] → Exchanges mid tree' d c' given [] → Exchanges tree tree' c c' given []
exchanges_later tree mid tree' c d c' given a b = record {
  space = b.space;
  cached = b.cached;
  bounds = b.bounds ∙ a.bounds;
  windows = b.windows ∙ a.windows;
  profile = b.profile ∙ a.profile;
  workers = b.workers ∙ a.workers;
  balance = λ weigh. omega (arith, a.balance weigh, b.balance weigh, weight.ranges_are weigh []);
}

-- In the words of the definitions.

cache_is : (s : State) (w size limit : ℕ) (o : Option ℕ) → next.from_cache s w size limit o ≡ ((get_cached s.caches w size limit o).0, next.with_caches s (get_cached s.caches w size limit o).1)
cache_is s w size limit None = refl
cache_is s w size limit (Some o) = refl

-- a try is what the caches give, and else the tree
try_is : (s : State) (c : Caches) (w size limit : ℕ) (emptying : Bool) (here m : Point) (got : Option ℕ) → s.caches ≡ c → got ≡ (get_cached c w size limit (order_of size)).0
    → next.try s w size limit emptying here m ≡ next.or_tree got (next.with_caches s (get_cached c w size limit (order_of size)).1) size limit emptying here m
try_is s c w size limit emptying here m got cached is =
    ap (λ p. next.or_tree p.0 p.1 size limit emptying here m) (cache_is s w size limit (order_of size))
    ∙ (ap (λ x. next.or_tree (get_cached x w size limit (order_of size)).0 (next.with_caches s (get_cached x w size limit (order_of size)).1) size limit emptying here m) cached
    ∙ ap (λ o. next.or_tree o (next.with_caches s (get_cached c w size limit (order_of size)).1) size limit emptying here m) (sym is))

pub comes_cached : (s : State) (c : Caches) (w size limit lo : ℕ) (emptying : Bool) (here m : Point) (left : Caches) (r : Frames) → s.caches ≡ c → Some lo ≡ (get_cached c w size limit (order_of size)).0 → left ≡ (get_cached c w size limit (order_of size)).1
    → r.lo ≡ lo → Comes (next.try s w size limit emptying here m) (found.Placed r) left
comes_cached s c w size limit lo emptying here m left r cached is now at =
    let e = try_is s c w size limit emptying here m (Some lo) cached is in
    record { found = ap (λ (t : next.Tried). t.found) e ∙ ap next.At (sym at); left = ap (λ (t : next.Tried). t.state.caches) e ∙ sym now }

-- a growth is refused where it is, and not where none is
is_at_own : (here : Point) → IsTryPoint here ⊎ (here ≡ point.Last) → (next.is_at here here ≡ true) × (next.is_at here point.Never ≡ false)
is_at_own here (inl (inl e)) = rw e (refl, refl)
is_at_own here (inl (inr e)) = rw e (refl, refl)
is_at_own here (inr e) = rw e (refl, refl)

-- what the tree gives
tree_gives : (s : State) (o : Option ℕ) (here : Point) (size : ℕ) (old new : Space) (f : Walked) → IsTryPoint here ⊎ (here ≡ point.Last) → Places o here size old new f → Comes (next.from_tree s o (next.is_at here (point_of f))) f s.caches
tree_gives s None here size old new found.Nowhere own h = record { found = refl; left = refl }
tree_gives s None here size old new (found.Placed r) own h = absurd h
tree_gives s None here size old new (found.OutOfMemory m) own h = absurd h
tree_gives s (Some lo) here size old new found.Nowhere own h = absurd h
tree_gives s (Some lo) here size old new (found.Placed r) own h =
    let at : lo ≡ r.lo = sym (ap (λ (x : Frames). x.lo) h.0) in
    record { found = rw (is_at_own here own).1 (ap next.At at); left = refl }
tree_gives s (Some lo) here size old new (found.OutOfMemory m) own h = record { found = rw (h.0, (is_at_own here own).0) refl; left = refl }

-- the tree alone is asked again only where nothing was found, and only where emptying is allowed
emptied_not : (x : next.Found) (s : State) (size limit : ℕ) (emptying no_memory : Bool) → (x ≡ next.Nowhere → emptying ≡ false) → next.or_emptied x s size limit emptying no_memory ≡ record { found = x; state = s }
emptied_not next.Nowhere s size limit true no_memory h = absurd (let e : true ≡ false = h refl in cc)
emptied_not next.Nowhere s size limit false no_memory h = refl
emptied_not (next.At lo) s size limit emptying no_memory h = refl
emptied_not next.OutOfMemory s size limit emptying no_memory h = refl

tree_state : (s : State) (o : Option ℕ) (no_memory : Bool) → (next.from_tree s o no_memory).state ≡ s
tree_state s None no_memory = refl
tree_state s (Some lo) no_memory = refl

-- nothing is found where the best place is none
pub places_none : (o : Option ℕ) (here : Point) (size : ℕ) (old new : Space) → Places o here size old new found.Nowhere → (o ≡ None) × (new ≡ old)
places_none None here size old new h = (refl, h)
places_none (Some lo) here size old new h = absurd h

-- the state after the caches were asked
abbrev pub after_caches : State → Caches → ℕ → ℕ → ℕ → State
after_caches s c w size limit = next.with_caches s (get_cached c w size limit (order_of size)).1

module _ (s : State) (c : Caches) (w size limit : ℕ) (cached : s.caches ≡ c) (miss : None ≡ (get_cached c w size limit (order_of size)).0) where
  -- what the tree gives at once
  pub comes_tree : (tree tree' : Space) (emptying : Bool) (here : Point) (f : Walked) (left : Caches) → 1 ≤ size → IsSpace tree → ArePartsOf tree (get_cached c w size limit (order_of size)).1 (after_caches s c w size limit) → left ≡ (get_cached c w size limit (order_of size)).1
      → IsTryPoint here → Places (best tree.bounds (ranges_of tree) size limit) here size tree tree' f → (found_as f ≡ next.Nowhere → emptying ≡ false) → Comes (next.try s w size limit emptying here (point_of f)) f left
  comes_tree tree tree' emptying here f left some space stands now own h ends =
      let m = point_of f in
      let o = next.best_place (after_caches s c w size limit) size limit in
      let gives = tree_gives (after_caches s c w size limit) o here size tree tree' f (inl own) (rw (best_same tree _ (after_caches s c w size limit) size limit some space stands) h) in
      let t = next.from_tree (after_caches s c w size limit) o (next.is_at here m) in
      let e = try_is s c w size limit emptying here m None cached miss ∙ emptied_not t.found t.state size limit emptying (next.is_at point.Last m) (λ x. ends (sym gives.found ∙ x)) in
      record {
        found = ap (λ (x : next.Tried). x.found) e ∙ gives.found;
        left = ap (λ (x : next.Tried). x.state.caches) e ∙ (gives.left ∙ sym now);
      }

  -- what it gives once the caches are emptied
  pub comes_emptied : (tree tree' last : Space) (here : Point) (f : Walked) (left : Caches) → 1 ≤ size → IsSpace tree → ArePartsOf tree (get_cached c w size limit (order_of size)).1 (after_caches s c w size limit) → best tree.bounds (ranges_of tree) size limit ≡ None
      → IsSpace tree' → ArePartsOf tree' (without_entries (get_cached c w size limit (order_of size)).1) (next.with_caches (after_caches s c w size limit) (without_entries (get_cached c w size limit (order_of size)).1)) → left ≡ without_entries (get_cached c w size limit (order_of size)).1
      → Places (best tree'.bounds (ranges_of tree') size limit) point.Last size tree' last f → Comes (next.try s w size limit true here (point_of f)) f left
  comes_emptied tree tree' last here f left some space stands none space' stands' now h =
      let m = point_of f in
      let bare = next.with_caches (after_caches s c w size limit) (without_entries (get_cached c w size limit (order_of size)).1) in
      let o = next.best_place bare size limit in
      let gives = tree_gives bare o point.Last size tree' last f (inr refl) (rw (best_same tree' _ bare size limit some space' stands') h) in
      let nothing : next.best_place (after_caches s c w size limit) size limit ≡ None = best_same tree _ (after_caches s c w size limit) size limit some space stands ∙ none in
      let e : next.try s w size limit true here m ≡ next.from_tree bare o (next.is_at point.Last m) =
      try_is s c w size limit true here m None cached miss
      ∙ ap (λ x. next.or_emptied (next.from_tree (after_caches s c w size limit) x (next.is_at here m)).found (next.from_tree (after_caches s c w size limit) x (next.is_at here m)).state size limit true (next.is_at point.Last m)) nothing in
      record {
        found = ap (λ (x : next.Tried). x.found) e ∙ gives.found;
        left = ap (λ (x : next.Tried). x.state.caches) e ∙ (gives.left ∙ sym now);
      }

-- What is found, by its case.

pub as_nowhere : (f : Walked) → found_as f ≡ next.Nowhere → f ≡ found.Nowhere
as_nowhere found.Nowhere e = refl
as_nowhere (found.Placed r) e = absurd cc
as_nowhere (found.OutOfMemory m) e = absurd cc

pub places_size : (o : Option ℕ) (here : Point) (size : ℕ) (old new : Space) (f : Walked) → Places o here size old new f → IsPlacedOf size f
places_size None here size old new found.Nowhere h = tt
places_size None here size old new (found.Placed r) h = absurd h
places_size None here size old new (found.OutOfMemory m) h = absurd h
places_size (Some lo) here size old new found.Nowhere h = absurd h
places_size (Some lo) here size old new (found.Placed r) h = ap (λ (x : Frames). x.len) h.0
places_size (Some lo) here size old new (found.OutOfMemory m) h = tt

pub places_point : (o : Option ℕ) (here : Point) (size : ℕ) (old new : Space) (f : Walked) → Places o here size old new f → (point_of f ≡ point.Never) ⊎ (point_of f ≡ here)
places_point None here size old new found.Nowhere h = inl refl
places_point None here size old new (found.Placed r) h = absurd h
places_point None here size old new (found.OutOfMemory m) h = absurd h
places_point (Some lo) here size old new found.Nowhere h = absurd h
places_point (Some lo) here size old new (found.Placed r) h = inl refl
places_point (Some lo) here size old new (found.OutOfMemory m) h = inr h.0

pub point_from_own : (here m : Point) → (m ≡ point.Never) ⊎ (m ≡ here) → IsPointFrom here m
point_from_own here m (inl e) = inl e
point_from_own here m (inr e) = inr (inl e)

pub point_last : (here m : Point) → (m ≡ point.Never) ⊎ (m ≡ point.Last) → IsPointFrom here m
point_last here m (inl e) = inl e
point_last here m (inr e) = inr (inr e)

-- The caches had nothing.
module _ (tree : Space) (c d : Cached) (w size limit : ℕ) (backed : IsBacked tree c []) (lt : w < c.workers) (cached : IsCached c → IsCached d)
    (miss : None ≡ (get_cached c.caches w size limit (order_of size)).0) (now : d ≡ record c { caches = (get_cached c.caches w size limit (order_of size)).1 }) where
  left_is : d.caches ≡ (get_cached c.caches w size limit (order_of size)).1
  left_is = ap (λ (x : Cached). x.caches) now

  missed : GetsFrom size None c.caches d.caches
  missed = gets c d w size limit None backed.cached lt miss now

  pub missed_exchange : Exchanges tree tree c d [] []
  missed_exchange =
      let made : Caches → Cached = λ x. record c { caches = x } in
      exchanges_got tree c d size None backed.space (cached backed.cached) missed (now ∙ ap made (sym left_is))

  pub missed_stands : (s : State) → ArePartsOf tree c.caches s → ArePartsOf tree (get_cached c.caches w size limit (order_of size)).1 (after_caches s c.caches w size limit)
  missed_stands s stands =
      stands_with tree tree c.caches (get_cached c.caches w size limit (order_of size)).1 s stands refl refl (λ weigh. omega (arith, missed weigh, ap (weight.cached weigh) left_is))

  -- and are emptied
  pub emptied_stands : (tree' : Space) (e : Cached) (s : State) → ArePartsOf tree c.caches s → e ≡ record d { caches = without_entries d.caches } → Exchanges tree tree' d e [] []
      → ArePartsOf tree' (without_entries (get_cached c.caches w size limit (order_of size)).1) (next.with_caches (after_caches s c.caches w size limit) (without_entries (get_cached c.caches w size limit (order_of size)).1))
  emptied_stands tree' e s stands is ex =
      let g = (get_cached c.caches w size limit (order_of size)).1 in
      let e_is : e.caches ≡ without_entries g = ap (λ (x : Cached). x.caches) is ∙ ap without_entries left_is in
      stands_with tree tree' g (without_entries g) (after_caches s c.caches w size limit) (missed_stands s stands) ex.bounds ex.windows
      (λ weigh. omega (arith, ex.balance weigh, ap (weight.cached weigh) left_is, ap (weight.cached weigh) e_is, cached_sum weigh d.caches, cached_sum weigh e.caches, weight.ranges_are weigh []))

  pub emptied_left : (e : Cached) → e ≡ record d { caches = without_entries d.caches } → e.caches ≡ without_entries (get_cached c.caches w size limit (order_of size)).1
  emptied_left e is = ap (λ (x : Cached). x.caches) is ∙ ap without_entries left_is
