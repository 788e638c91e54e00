-- The ranges of the holders of a state weigh as much as its lists.
use Rattle.std.proofs.Common.{ℕ, ◌≡◌, ◌+◌, List, [], ◌∷◌, ◌++◌, refl, arith, map, sum_by}
use Rattle.iova_model.specs.declared.place.Place.{Place}
use Rattle.iova_model.specs.declared.place.Place.TheVariants as place
use Rattle.iova_model.specs.declared.entry.Entry.{Entry}
use Rattle.iova_range.specs.Frames.{Frames}
use Rattle.iova_model.specs.Caches.{Cache, Caches, of_order}
use Rattle.iova_model.specs.Flushes.{entry_range}
use Rattle.iova_model.specs.Clients.{Client}
use Rattle.iova_model.specs.State.{State, Holder, at_place, window_holders, client_holders, cache_holders, magazine_holders, list_holders, depot_holders, ring_holders, cached_holders, owners, holders, held_ranges}
use Rattle.iova_model.specs.Effects.{cached_ranges}
use Rattle.iova_laws.proofs.Weight as weight

-- what all but the windows weigh
abbrev pub load : (Frames → ℕ) → State → ℕ
load weigh s = weight.clients weigh s.clients + (weight.cached weigh s.caches + weight.rings weigh s.rings)

module _ (weigh : Frames → ℕ) where
  -- what the ranges of holders weigh
  abbrev pub holder_ranges : List Holder → ℕ
  holder_ranges [] = 0
  holder_ranges (h ∷ hs) = weigh h.range + holder_ranges hs

  -- what the list of the holders' ranges weighs
  holder_ranges_are : (hs : List Holder) → weight.ranges weigh (map (λ h. h.range) hs) ≡ holder_ranges hs
  holder_ranges_are [] = refl
  holder_ranges_are (h ∷ hs) = omega (arith, holder_ranges_are hs)

  -- two lists of holders, one after the other
  holder_ranges-append : (xs ys : List Holder) → holder_ranges (xs ++ ys) ≡ holder_ranges xs + holder_ranges ys
  holder_ranges-append [] ys = omega arith
  holder_ranges-append (x ∷ xs) ys = omega (arith, holder_ranges-append xs ys)

  -- holders at one place
  ranges_at : (at : Place) (rs : List Frames) → holder_ranges (at_place at rs) ≡ weight.ranges weigh rs
  ranges_at at [] = refl
  ranges_at at (r ∷ rs) = omega (arith, ranges_at at rs)

  -- first frames at one place
  firsts_at : (at : Place) (o : ℕ) (los : List ℕ) → holder_ranges (at_place at (of_order o los)) ≡ weight.firsts weigh o los
  firsts_at at o [] = refl
  firsts_at at o (lo ∷ los) = omega (arith, firsts_at at o los)

  -- the clients
  pub clients_hold : (cs : List Client) → holder_ranges (client_holders cs) ≡ weight.clients weigh cs
  clients_hold [] = refl
  clients_hold (c ∷ cs) =
      omega (arith, holder_ranges-append (at_place (place.Client c.id) c.holdings) (client_holders cs), ranges_at (place.Client c.id) c.holdings, clients_hold cs)

  -- one worker's magazines
  caches_hold : (w o : ℕ) (cs : List Cache) → holder_ranges (cache_holders w o cs) ≡ weight.caches weigh o cs
  caches_hold w o [] = refl
  caches_hold w o (c ∷ cs) =
      let at = place.Magazine w in
      let loaded = at_place at (of_order o c.loaded) in
      let previous = at_place at (of_order o c.previous) in
      omega (arith, holder_ranges-append loaded (previous ++ cache_holders w (o + 1) cs), holder_ranges-append previous (cache_holders w (o + 1) cs), firsts_at at o c.loaded, firsts_at at o c.previous, caches_hold w (o + 1) cs)

  -- all magazines
  magazines_hold : (w : ℕ) (ws : List (List Cache)) → holder_ranges (magazine_holders w ws) ≡ weight.magazines weigh ws
  magazines_hold w [] = refl
  magazines_hold w (cs ∷ ws) =
      omega (arith, holder_ranges-append (cache_holders w 0 cs) (magazine_holders (w + 1) ws), caches_hold w 0 cs, magazines_hold (w + 1) ws)

  -- one order's depot
  lists_hold : (o : ℕ) (d : List (List ℕ)) → holder_ranges (list_holders o d) ≡ weight.lists weigh o d
  lists_hold o [] = refl
  lists_hold o (los ∷ d) =
      omega (arith, holder_ranges-append (at_place place.Depot (of_order o los)) (list_holders o d), firsts_at place.Depot o los, lists_hold o d)

  -- the depot
  depots_hold : (o : ℕ) (ds : List (List (List ℕ))) → holder_ranges (depot_holders o ds) ≡ weight.depots weigh o ds
  depots_hold o [] = refl
  depots_hold o (d ∷ ds) =
      omega (arith, holder_ranges-append (list_holders o d) (depot_holders (o + 1) ds), lists_hold o d, depots_hold (o + 1) ds)

  -- the entries of a ring
  entries_at : (at : Place) (es : List Entry) → holder_ranges (at_place at (map entry_range es)) ≡ weight.entries weigh es
  entries_at at [] = refl
  entries_at at (e ∷ es) = omega (arith, entries_at at es)

  -- all rings
  rings_hold : (w : ℕ) (rs : List (List Entry)) → holder_ranges (ring_holders w rs) ≡ weight.rings weigh rs
  rings_hold w [] = refl
  rings_hold w (r ∷ rs) =
      omega (arith, holder_ranges-append (at_place (place.Ring w) (map entry_range r)) (ring_holders (w + 1) rs), entries_at (place.Ring w) r, rings_hold (w + 1) rs)

  -- all caches
  cached_hold : (c : Caches) → holder_ranges (cached_holders c) ≡ weight.cached weigh c
  cached_hold c =
      omega (arith, holder_ranges-append (magazine_holders 0 c.workers) (depot_holders 0 c.depots), magazines_hold 0 c.workers, depots_hold 0 c.depots)

  -- all but the windows
  pub owners_hold : (s : State) → holder_ranges (owners s) ≡ load weigh s
  owners_hold s =
      let cached = cached_holders s.caches in
      let ring = ring_holders 0 s.rings in
      omega (arith, holder_ranges-append (client_holders s.clients) (cached ++ ring), holder_ranges-append cached ring, clients_hold s.clients, cached_hold s.caches, rings_hold 0 s.rings)

  -- everybody
  pub all_hold : (s : State) → holder_ranges (holders s) ≡ weight.ranges weigh s.windows + load weigh s
  all_hold s =
      omega (arith, holder_ranges-append (window_holders s.windows) (owners s), ranges_at place.Reserved s.windows, owners_hold s)

  -- what everybody has, and what is cached
  pub held_are : (s : State) → weight.ranges weigh (held_ranges s) ≡ weight.ranges weigh s.windows + load weigh s
  held_are s = omega (arith, holder_ranges_are (holders s), all_hold s)

  -- what is held weighs so, by std's sum
  pub held_weigh : (s : State) → sum_by weigh (held_ranges s) ≡ weight.ranges weigh s.windows + load weigh s
  held_weigh s = omega (arith, weight.ranges_are weigh (held_ranges s), held_are s)

  -- what is cached, as ranges
  pub cached_weigh : (c : Caches) → weight.ranges weigh (cached_ranges c) ≡ weight.cached weigh c
  cached_weigh c = omega (arith, holder_ranges_are (cached_holders c), cached_hold c)
