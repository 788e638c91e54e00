-- The places of the holders, and that each frame is at one of them or free.
use Rattle.std.proofs.Common.{ℕ, suc, ◌≡◌, ◌≢◌, ◌+◌, ◌≤◌, Bool, true, false, List, [], ◌∷◌, ◌++◌, Option, Some, None, refl, sym, ap, ◌∙◌, arith, find, map, slice_get}
use Rattle.std.specs.List.{AllByRecursion}
use Rattle.iova_model.specs.declared.place.Place.{Place}
use Rattle.iova_model.specs.declared.place.Place.TheVariants as place
use Rattle.iova_model.specs.declared.entry.Entry.{Entry}
use Rattle.iova_range.specs.Frames.{Frames, covers}
use Rattle.iova_model.specs.Caches.{Cache, of_order}
use Rattle.iova_model.specs.Flushes.{entry_range}
use Rattle.iova_model.specs.Clients.{Client}
use Rattle.iova_model.specs.State.{State, Holder, at_place, window_holders, client_holders, cache_holders, magazine_holders, list_holders, depot_holders, ring_holders, cached_holders, owners, holders, place_in, times_held}
use Rattle.iova_model.specs.Valid.{IsValid}
use Rattle.iova_model.specs.Effects.{IsOnlyAt}
use Rattle.iova_model.specs.Laws.{EachFrameIsInOnePlace}
use Rattle.iova_laws.proofs.ValidLists.{all_found}

-- something holds of the place of each holder
module _ (P : Place → Type 0) where
  -- it holds of the place of each of these
  abbrev pub AllAt : List Holder → Type 0
  AllAt hs = AllByRecursion (λ h. P h.place) hs

  -- two lists of holders, one after the other
  all-append : (xs ys : List Holder) → AllAt xs → AllAt ys → AllAt (xs ++ ys)
  all-append [] ys a b = b
  all-append (x ∷ xs) ys a b = (a.0, all-append xs ys a.1 b)

  -- holders at one place
  pub all_at_place : (at : Place) (rs : List Frames) → P at → AllAt (at_place at rs)
  all_at_place at [] here = tt
  all_at_place at (r ∷ rs) here = (here, all_at_place at rs here)

  -- those of the clients
  pub all_at_clients : (cs : List Client) → ((id : ℕ) → P (place.Client id)) → AllAt (client_holders cs)
  all_at_clients [] here = tt
  all_at_clients (c ∷ cs) here =
      all-append (at_place (place.Client c.id) c.holdings) (client_holders cs) (all_at_place (place.Client c.id) c.holdings (here c.id)) (all_at_clients cs here)

  -- those of one worker's magazines
  all_at_caches : (w o : ℕ) (cs : List Cache) → P (place.Magazine w) → AllAt (cache_holders w o cs)
  all_at_caches w o [] here = tt
  all_at_caches w o (c ∷ cs) here =
      let at = place.Magazine w in
      let previous = at_place at (of_order o c.previous) in
      let rest = cache_holders w (o + 1) cs in
      all-append (at_place at (of_order o c.loaded)) (previous ++ rest) (all_at_place at (of_order o c.loaded) here) (all-append previous rest (all_at_place at (of_order o c.previous) here) (all_at_caches w (o + 1) cs here))

  -- those of all magazines
  pub all_at_magazines : (w : ℕ) (ws : List (List Cache)) → ((k : ℕ) → P (place.Magazine k)) → AllAt (magazine_holders w ws)
  all_at_magazines w [] here = tt
  all_at_magazines w (cs ∷ ws) here =
      all-append (cache_holders w 0 cs) (magazine_holders (w + 1) ws) (all_at_caches w 0 cs (here w)) (all_at_magazines (w + 1) ws here)

  -- those of one order's depot
  all_at_lists : (o : ℕ) (d : List (List ℕ)) → P place.Depot → AllAt (list_holders o d)
  all_at_lists o [] here = tt
  all_at_lists o (los ∷ d) here =
      all-append (at_place place.Depot (of_order o los)) (list_holders o d) (all_at_place place.Depot (of_order o los) here) (all_at_lists o d here)

  -- those of the depot
  pub all_at_depots : (o : ℕ) (ds : List (List (List ℕ))) → P place.Depot → AllAt (depot_holders o ds)
  all_at_depots o [] here = tt
  all_at_depots o (d ∷ ds) here =
      all-append (list_holders o d) (depot_holders (o + 1) ds) (all_at_lists o d here) (all_at_depots (o + 1) ds here)

  -- those of the rings
  pub all_at_rings : (w : ℕ) (rs : List (List Entry)) → ((k : ℕ) → P (place.Ring k)) → AllAt (ring_holders w rs)
  all_at_rings w [] here = tt
  all_at_rings w (r ∷ rs) here =
      all-append (at_place (place.Ring w) (map entry_range r)) (ring_holders (w + 1) rs) (all_at_place (place.Ring w) (map entry_range r) (here w)) (all_at_rings (w + 1) rs here)

  -- of all holders
  all_at_holders : (s : State) → P place.Reserved → ((id : ℕ) → P (place.Client id)) → ((w : ℕ) → P (place.Magazine w)) → P place.Depot → ((w : ℕ) → P (place.Ring w)) → AllAt (holders s)
  all_at_holders s window client magazine depot ring =
      let magazines = magazine_holders 0 s.caches.workers in
      let depots = depot_holders 0 s.caches.depots in
      let rings = ring_holders 0 s.rings in
      all-append (window_holders s.windows) (owners s) (all_at_place place.Reserved s.windows window) (all-append (client_holders s.clients) (cached_holders s.caches ++ rings) (all_at_clients s.clients client) (all-append (magazines ++ depots) rings (all-append magazines depots (all_at_magazines 0 s.caches.workers magazine) (all_at_depots 0 s.caches.depots depot)) (all_at_rings 0 s.rings ring)))

-- no holder is at the free place
held_not_free : (s : State) (h : Holder) (frame : ℕ) → find (λ x. covers frame x.range) (holders s) ≡ Some h → h.place ≢ place.Free
held_not_free s h frame found =
    all_found (λ x. x.place ≢ place.Free) (λ x. covers frame x.range) (holders s) h found (all_at_holders (λ p. p ≢ place.Free) s (λ e. absurd cc) (λ id e. absurd cc) (λ w e. absurd cc) (λ e. absurd cc) (λ w e. absurd cc))

-- where none is found, none has the frame
times_none : (frame : ℕ) (hs : List Holder) → find (λ h. covers frame h.range) hs ≡ None → times_held frame hs ≡ 0
times_none frame [] none = refl
times_none frame (h ∷ hs) none = times_step (λ e. times_none frame hs e) (covers frame h.range) refl
  where
    times_step : (find (λ x. covers frame x.range) hs ≡ None → times_held frame hs ≡ 0) → (b : Bool) → covers frame h.range ≡ b → times_held frame (h ∷ hs) ≡ 0
    times_step more true is = let none' = rw is at none in absurd (cc (none'))
    times_step more false is = rw is (omega (arith, more (rw is at none)))

-- the holder that is found has the frame, and is among the others
record IsFound (frame : ℕ) (hs : List Holder) (h : Holder) : Type 0 where
  some : 1 ≤ times_held frame hs
  covers : covers frame h.range ≡ true
  index : ℕ
  here : slice_get hs index ≡ Some h

-- so is the one that is found
is_found : (frame : ℕ) (hs : List Holder) (h : Holder) → find (λ x. covers frame x.range) hs ≡ Some h → IsFound frame hs h
is_found frame [] h found = absurd cc
is_found frame (x ∷ xs) h found = found_step (λ e. is_found frame xs h e) (covers frame x.range) refl
  where
    found_step : (find (λ y. covers frame y.range) xs ≡ Some h → IsFound frame xs h) → (b : Bool) → covers frame x.range ≡ b → IsFound frame (x ∷ xs) h
    found_step more true is =
        let found' = rw is at found in
        let same : x ≡ h = cc (found') in
        record { some = rw is (omega arith); covers = ap (λ y. covers frame y.range) (sym same) ∙ is; index = 0; here = ap (λ y. Some y) same }
    found_step more false is =
        let rest = more (rw is at found) in
        record { some = rw is (omega (arith, rest.some)); covers = rest.covers; index = suc rest.index; here = rest.here }

-- the frame is at the place of the holder that is found, and free where none is
only_at : (s : State) (frame : ℕ) → IsValid s → (x : Option Holder) → find (λ h. covers frame h.range) (holders s) ≡ x → IsOnlyAt s frame (place_in x)
only_at s frame h None is = record { free = λ e. times_none frame (holders s) is; held = λ other. absurd (other refl); here = λ other. absurd (other refl) }
only_at s frame h (Some x) is =
    let found = is_found frame (holders s) x is in
    record {
      free = λ e. absurd (held_not_free s x frame is e);
      held = λ other. omega (arith, found.some, h.one_place.once frame);
      here = λ other. (found.index, x, found.here, found.covers, refl);
    }

-- so each frame is in one place
pub each_frame_is_in_one_place : EachFrameIsInOnePlace
each_frame_is_in_one_place = λ s frame h. only_at s frame h (find (λ x. covers frame x.range) (holders s)) refl
