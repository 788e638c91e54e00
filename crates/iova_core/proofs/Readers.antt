-- Where a frame is, holder by holder, and how many frames there are at each place.
use Rattle.std.proofs.Common.{ℕ, ◌≡◌, ◌+◌, ◌-◌, ◌<◌, ◌≤◌, ◌||◌, Bool, true, false, cond, List, [], ◌∷◌, ◌++◌, length, drop, get_or, Option, Some, None, refl, sym, ap, ◌∙◌, arith, find, map, replicate, subst}
use Rattle.std.specs.Prelude.{option_map, sum_by, nat_lt}
use Rattle.std.specs.List.{list_any}
use Rattle.std.proofs.lemmas.List.{drop_more}
use Rattle.std.proofs.lemmas.List.Sums.{sum_by-cons, sum_by-append}
use Rattle.std.proofs.lemmas.Bool.Decides.{nat_tests}
use Rattle.iova_range.specs.Frames.{Frames, covers}
use Rattle.iova_range.specs.Bounds.{Extent}
use Rattle.iova_model.specs.declared.place.Place.{Place}
use Rattle.iova_model.specs.declared.place.Place.TheVariants as place
use Rattle.iova_model.specs.declared.entry.Entry.{Entry}
use Rattle.iova_model.specs.Fit.{is_covered}
use Rattle.iova_model.specs.Flushes.{Flushes, entry_range, flushes_from}
use Rattle.iova_model.specs.Clients.{Client, totals}
use Rattle.iova_model.specs.State.{State, new_domain, counts, magazine_holders, depot_holders, Holder, at_place, window_holders, client_holders, cached_holders, ring_holders, owners, holders, place_in, place_of, held_ranges}
use Rattle.iova_model.specs.Valid.{IsValid}
use Rattle.iova_model.specs.Effects.{frames_of}
use Rattle.iova_model.specs.Laws.{PlacesAddUp}
use Rattle.iova_model.specs.declared.place.Counts.{Counts}
use Rattle.iova_tree.specs.Space.{Space, ranges_of}
use Rattle.iova_flush.specs.Rings.{frame_count}
use Rattle.iova_clients.specs.Registry.{Registry, empty_registry}
use Rattle.iova_depot.specs.Cached.{Cached, new_cached}
use Rattle.iova_core.specs.Domain.{Parts, state_of, IsDomain, place_inside, frames_in_rings}
use Rattle.iova_core.proofs.Covered.{covered_alike}

-- the parts of a domain
abbrev pub parts_of : Space → Registry → Cached → List (List Entry) → Flushes → ℕ → Parts
parts_of tree clients cached rings flushes reserved = record { tree = tree; clients = clients; cached = cached; rings = rings; flushes = flushes; reserved = reserved }

-- the first holder that has the frame, and its place
abbrev pub holder_in : ℕ → List Holder → Option Holder
holder_in frame hs = find (λ h. covers frame h.range) hs

abbrev pub placed_in : ℕ → List Holder → Option Place
placed_in frame hs = option_map (λ h. h.place) (holder_in frame hs)

-- Two lists of holders, one after the other: the first that has the frame decides.

pub placed_first : (frame : ℕ) (hs rest : List Holder) (p : Place) → placed_in frame hs ≡ Some p → placed_in frame (hs ++ rest) ≡ Some p
placed_first frame [] rest p e = absurd cc
placed_first frame (h ∷ hs) rest p e = first_step (placed_first frame hs rest p) (covers frame h.range) refl
  where
    first_step : (placed_in frame hs ≡ Some p → placed_in frame (hs ++ rest) ≡ Some p) → (b : Bool) → covers frame h.range ≡ b → placed_in frame (h ∷ (hs ++ rest)) ≡ Some p
    first_step more true is = let e' = rw is at e in rw is e'
    first_step more false is = let e' = rw is at e in rw is (more e')

pub placed_later : (frame : ℕ) (hs rest : List Holder) → placed_in frame hs ≡ None → holder_in frame (hs ++ rest) ≡ holder_in frame rest
placed_later frame [] rest e = refl
placed_later frame (h ∷ hs) rest e = later_step (placed_later frame hs rest) (covers frame h.range) refl
  where
    later_step : (placed_in frame hs ≡ None → holder_in frame (hs ++ rest) ≡ holder_in frame rest) → (b : Bool) → covers frame h.range ≡ b → holder_in frame (h ∷ (hs ++ rest)) ≡ holder_in frame rest
    later_step more true is = let e' = rw is at e in absurd cc
    later_step more false is = let e' = rw is at e in rw is (more e')

pub place_is : (p : Place) (o : Option Holder) → option_map (λ h. h.place) o ≡ Some p → place_in o ≡ p
place_is p None e = absurd cc
place_is p (Some h) e = cc

-- Ranges at one place.

pub placed_at : (frame : ℕ) (p : Place) (rs : List Frames) → placed_in frame (at_place p rs) ≡ cond (is_covered frame rs) (Some p) None
placed_at frame p [] = refl
placed_at frame p (r ∷ rs) = at_step (placed_at frame p rs) (covers frame r) refl
  where
    at_step : placed_in frame (at_place p rs) ≡ cond (is_covered frame rs) (Some p) None → (b : Bool) → covers frame r ≡ b → placed_in frame (at_place p (r ∷ rs)) ≡ cond (is_covered frame (r ∷ rs)) (Some p) None
    at_step more true is = rw is refl
    at_step more false is = rw is more

-- The clients.

pub placed_with : (frame : ℕ) (cs : List Client) → placed_in frame (client_holders cs) ≡ option_map (λ c. place.Client c.id) (find (λ c. is_covered frame c.holdings) cs)
placed_with frame [] = refl
placed_with frame (c ∷ cs) = with_step (placed_with frame cs) (is_covered frame c.holdings) refl
  where
    mine : List Holder
    mine = at_place (place.Client c.id) c.holdings

    with_step : placed_in frame (client_holders cs) ≡ option_map (λ x. place.Client x.id) (find (λ x. is_covered frame x.holdings) cs) → (b : Bool) → is_covered frame c.holdings ≡ b
        → placed_in frame (at_place (place.Client c.id) c.holdings ++ client_holders cs) ≡ option_map (λ x. place.Client x.id) (find (λ x. is_covered frame x.holdings) (c ∷ cs))
    with_step more true is =
        let here = placed_at frame (place.Client c.id) c.holdings in
        rw is (placed_first frame (at_place (place.Client c.id) c.holdings) (client_holders cs) (place.Client c.id) (rw is at here))
    with_step more false is =
        let here = placed_at frame (place.Client c.id) c.holdings in
        rw is (ap (λ o. option_map (λ (h : Holder). h.place) o) (placed_later frame (at_place (place.Client c.id) c.holdings) (client_holders cs) (rw is at here)) ∙ more)

-- The rings.

-- the first rings don't have the frame
abbrev pub NotBefore : ℕ → List (List Entry) → ℕ → Type 0
NotBefore frame rings w = holder_in frame (ring_holders 0 rings) ≡ holder_in frame (ring_holders w (drop w rings))

abbrev pub ring_has : ℕ → List Entry → Bool
ring_has frame ring = list_any (λ e. covers frame (entry_range e)) ring

ring_covers : (frame : ℕ) (ring : List Entry) → is_covered frame (map entry_range ring) ≡ ring_has frame ring
ring_covers frame [] = refl
ring_covers frame (e ∷ es) = ap (λ b. covers frame (entry_range e) || b) (ring_covers frame es)

ring_next : (frame w : ℕ) (rings : List (List Entry)) (d : List Entry) → w < length rings → NotBefore frame rings w
    → holder_in frame (ring_holders 0 rings) ≡ holder_in frame (at_place (place.Ring w) (map entry_range (get_or rings w d)) ++ ring_holders (w + 1) (drop (w + 1) rings))
ring_next frame w rings d lt before = before ∙ ap (λ l. holder_in frame (ring_holders w l)) (drop_more rings w d lt)

pub ring_not : (frame w : ℕ) (rings : List (List Entry)) (d : List Entry) → w < length rings → NotBefore frame rings w → ring_has frame (get_or rings w d) ≡ false → NotBefore frame rings (w + 1)
ring_not frame w rings d lt before none =
    let ring = get_or rings w d in
    let here = placed_at frame (place.Ring w) (map entry_range ring) in
    let missed : is_covered frame (map entry_range ring) ≡ false = ring_covers frame ring ∙ none in
    ring_next frame w rings d lt before ∙ placed_later frame (at_place (place.Ring w) (map entry_range ring)) (ring_holders (w + 1) (drop (w + 1) rings)) (rw missed at here)

pub found_in_ring : (frame w : ℕ) (rings : List (List Entry)) (d : List Entry) → w < length rings → NotBefore frame rings w → ring_has frame (get_or rings w d) ≡ true → place_in (holder_in frame (ring_holders 0 rings)) ≡ place.Ring w
found_in_ring frame w rings d lt before has =
    let ring = get_or rings w d in
    let here = placed_at frame (place.Ring w) (map entry_range ring) in
    let found : is_covered frame (map entry_range ring) ≡ true = ring_covers frame ring ∙ has in
    let all = placed_first frame (at_place (place.Ring w) (map entry_range ring)) (ring_holders (w + 1) (drop (w + 1) rings)) (place.Ring w) (rw found at here) in
    ap place_in (ring_next frame w rings d lt before) ∙ place_is (place.Ring w) _ all

-- Everybody: windows, clients, caches, rings.

module _ (s : State) (frame : ℕ) where
  pub place_reserved : is_covered frame s.windows ≡ true → place_of s frame ≡ place.Reserved
  place_reserved has =
      let here = placed_at frame place.Reserved s.windows in
      place_is place.Reserved (holder_in frame (holders s)) (placed_first frame (window_holders s.windows) (owners s) place.Reserved (rw has at here))

  -- no window has it
  beside_windows : is_covered frame s.windows ≡ false → holder_in frame (holders s) ≡ holder_in frame (owners s)
  beside_windows none =
      let here = placed_at frame place.Reserved s.windows in
      placed_later frame (window_holders s.windows) (owners s) (rw none at here)

  -- the client that has it
  abbrev pub client_in : Option Client
  client_in = find (λ c. is_covered frame c.holdings) s.clients

  client_place : (id : ℕ) (o : Option Client) → Some id ≡ option_map (λ c. c.id) o → option_map (λ c. place.Client c.id) o ≡ Some (place.Client id)
  client_place id None e = absurd cc
  client_place id (Some c) e = let same : id ≡ c.id = cc in ap (λ n. Some (place.Client n)) (sym same)

  client_none : (o : Option Client) → None ≡ option_map (λ c. c.id) o → option_map (λ c. place.Client c.id) o ≡ None
  client_none None e = refl
  client_none (Some c) e = absurd cc

  pub place_client : (id : ℕ) → is_covered frame s.windows ≡ false → Some id ≡ option_map (λ c. c.id) client_in → place_of s frame ≡ place.Client id
  place_client id none found =
      let here = placed_with frame s.clients ∙ client_place id client_in found in
      ap place_in (beside_windows none) ∙ place_is (place.Client id) (holder_in frame (owners s)) (placed_first frame (client_holders s.clients) (cached_holders s.caches ++ ring_holders 0 s.rings) (place.Client id) here)

  -- nor a client
  beside_clients : is_covered frame s.windows ≡ false → None ≡ option_map (λ c. c.id) client_in → holder_in frame (holders s) ≡ holder_in frame (cached_holders s.caches ++ ring_holders 0 s.rings)
  beside_clients none lost =
      let here = placed_with frame s.clients ∙ client_none client_in lost in
      beside_windows none ∙ placed_later frame (client_holders s.clients) (cached_holders s.caches ++ ring_holders 0 s.rings) here

  pub place_cached : (p : Place) → is_covered frame s.windows ≡ false → None ≡ option_map (λ c. c.id) client_in → placed_in frame (cached_holders s.caches) ≡ Some p → place_of s frame ≡ p
  place_cached p none lost here =
      ap place_in (beside_clients none lost) ∙ place_is p (holder_in frame (cached_holders s.caches ++ ring_holders 0 s.rings)) (placed_first frame (cached_holders s.caches) (ring_holders 0 s.rings) p here)

  pub place_ringed : is_covered frame s.windows ≡ false → None ≡ option_map (λ c. c.id) client_in → placed_in frame (cached_holders s.caches) ≡ None → place_of s frame ≡ place_in (holder_in frame (ring_holders 0 s.rings))
  place_ringed none lost missed =
      ap place_in (beside_clients none lost ∙ placed_later frame (cached_holders s.caches) (ring_holders 0 s.rings) missed)

-- A frame that the tree has not.

no_holder : (frame : ℕ) (hs : List Holder) → is_covered frame (map (λ h. h.range) hs) ≡ false → holder_in frame hs ≡ None
no_holder frame [] none = refl
no_holder frame (h ∷ hs) none = holder_step (no_holder frame hs) (covers frame h.range) refl
  where
    holder_step : (is_covered frame (map (λ x. x.range) hs) ≡ false → holder_in frame hs ≡ None) → (b : Bool) → covers frame h.range ≡ b → holder_in frame (h ∷ hs) ≡ None
    holder_step more true is = let e = rw is at none in absurd cc
    holder_step more false is = let e = rw is at none in rw is (more e)

pub place_free : (p : Parts) (frame : ℕ) → IsDomain p → is_covered frame (ranges_of p.tree) ≡ false → place_of (state_of p) frame ≡ place.Free
place_free p frame h none =
    let s = state_of p in
    ap place_in (no_holder frame (holders s) (sym (covered_alike (ranges_of p.tree) (held_ranges s) h.tied frame) ∙ none))

-- the frame is inside the bounds
pub record IsInBounds (frame : ℕ) (b : Extent) : Type 0 where
  pub start : b.start ≤ frame
  pub last : frame ≤ b.last

pub in_bounds : (frame first last : ℕ) (own b : Extent) → own ≡ b → first ≡ own.start → first ≤ frame → last ≡ own.last → frame ≤ last → IsInBounds frame b
in_bounds frame first last own b same is_first from is_last to =
    let start = ap (λ (x : Extent). x.start) same in
    let end = ap (λ (x : Extent). x.last) same in
    record { start = omega (arith, start, is_first, from); last = omega (arith, end, is_last, to) }

-- what is answered of it, in the state that the parts make
pub inside_is : (s t : State) (frame : ℕ) (p : Place) → s ≡ t → IsInBounds frame s.bounds → place_of s frame ≡ p → Some p ≡ place_inside t frame
inside_is s t frame p same inside is =
    let start = inside.start in
    let last = inside.last in
    let above : nat_lt frame s.bounds.start ≡ false = grind (arith, nat_tests) in
    let below : nat_lt s.bounds.last frame ≡ false = grind (arith, nat_tests) in
    let here : Some p ≡ place_inside s frame = rw (above, below) (ap (λ x. Some x) (sym is)) in
    here ∙ ap (λ (x : State). place_inside x frame) same

-- A new domain.
pub new_state : (p : Parts) (bounds : Extent) (workers : ℕ) → p.tree ≡ record { bounds = bounds; inserted = []; windows = [] } → p.clients ≡ empty_registry 0 → p.cached ≡ new_cached bounds.profile workers → p.rings ≡ replicate workers [] → p.flushes ≡ flushes_from 0 → state_of p ≡ new_domain bounds workers
new_state p bounds workers tree clients cached rings flushes = rw (tree, clients, cached, rings, flushes) refl

-- The frames at each place.

frames_at_place : (p : Place) (rs : List Frames) → frames_of (at_place p rs) ≡ sum_by (λ r. r.len) rs
frames_at_place p [] = refl
frames_at_place p (r ∷ rs) =
    let h : Holder = record { range = r; place = p } in
    omega (arith, frames_at_place p rs, sum_by-cons (λ (x : Holder). x.range.len) h (at_place p rs), sum_by-cons (λ (x : Frames). x.len) r rs)

frames_in_ring : (ring : List Entry) → sum_by (λ (r : Frames). r.len) (map entry_range ring) ≡ frame_count ring
frames_in_ring [] = refl
frames_in_ring (e ∷ es) =
    omega (arith, frames_in_ring es, sum_by-cons (λ (x : Frames). x.len) (entry_range e) (map entry_range es), sum_by-cons (λ (x : Entry). x.len) e es)

frames_ringed : (w : ℕ) (rings : List (List Entry)) → frames_of (ring_holders w rings) ≡ frames_in_rings rings
frames_ringed w [] = refl
frames_ringed w (r ∷ rs) =
    let mine = at_place (place.Ring w) (map entry_range r) in
    omega (arith, frames_ringed (w + 1) rs, frames_at_place (place.Ring w) (map entry_range r), frames_in_ring r, sum_by-append (λ (x : Holder). x.range.len) mine (ring_holders (w + 1) rs), sum_by-cons frame_count r rs)

same_counts : (c : Counts) (free reserved client magazine depot ring : ℕ) → free ≡ c.free → reserved ≡ c.reserved → client ≡ c.client → magazine ≡ c.magazine → depot ≡ c.depot → ring ≡ c.ring
    → ◌≡◌ {A = Counts} (record { free = free; reserved = reserved; client = client; magazine = magazine; depot = depot; ring = ring }) c
same_counts c free reserved client magazine depot ring a b d e f g = rw (a, b, d, e, f, g) refl

-- These are the counts, all of them together are as many frames as there are from `first` to `last`, and so none is more than
-- the others leave.
pub record AreCounts (s : State) (first last reserved client magazine depot ring : ℕ) : Type 0 where
  pub total : (counts s).free + reserved + client + magazine + depot + ring ≡ last - first + 1
  pub are : ◌≡◌ {A = Counts} (record { free = last - first + 1 - reserved - client - magazine - depot - ring; reserved = reserved; client = client; magazine = magazine; depot = depot; ring = ring }) (counts s)

are_counts : PlacesAddUp → (s : State) (reserved client magazine depot ring : ℕ) → IsValid s → reserved ≡ sum_by (λ r. r.len) s.windows → client ≡ (totals s.clients).frames → magazine ≡ frames_of (magazine_holders 0 s.caches.workers) → depot ≡ frames_of (depot_holders 0 s.caches.depots) → ring ≡ frames_in_rings s.rings
    → AreCounts s s.bounds.start s.bounds.last reserved client magazine depot ring
are_counts law s reserved client magazine depot ring valid a b d e f =
    let up = law s valid in
    let order = valid.bounds.bounds.in_order in
    let reserved_is : reserved ≡ (counts s).reserved = a ∙ (sym (frames_at_place place.Reserved s.windows) ∙ sym up.reserved) in
    let client_is : client ≡ (counts s).client = b ∙ sym up.client in
    let magazine_is : magazine ≡ (counts s).magazine = d ∙ sym up.magazine in
    let depot_is : depot ≡ (counts s).depot = e ∙ sym up.depot in
    let ring_is : ring ≡ (counts s).ring = f ∙ (sym (frames_ringed 0 s.rings) ∙ sym up.ring) in
    let total : (counts s).free + reserved + client + magazine + depot + ring ≡ s.bounds.last - s.bounds.start + 1 = omega (arith, up.all, order, reserved_is, client_is, magazine_is, depot_is, ring_is) in
    record {
      total = total;
      are = same_counts (counts s) _ reserved client magazine depot ring (omega (arith, total)) reserved_is client_is magazine_is depot_is ring_is;
    }

-- the counts are what the parts answer
pub counts_are : PlacesAddUp → (p : Parts) (t : State) (first last client magazine depot ring : ℕ) (own : Extent) → state_of p ≡ t → IsDomain p → own ≡ p.tree.bounds → first ≡ own.start → last ≡ own.last → client ≡ (totals p.clients.clients).frames
    → magazine ≡ frames_of (magazine_holders 0 p.cached.caches.workers) → depot ≡ frames_of (depot_holders 0 p.cached.caches.depots) → ring ≡ frames_in_rings p.rings → AreCounts t first last p.reserved client magazine depot ring
counts_are law p t first last client magazine depot ring own same h is is_first is_last a b d e =
    let here = are_counts law (state_of p) p.reserved client magazine depot ring h.valid h.counted a b d e in
    let start : first ≡ p.tree.bounds.start = is_first ∙ ap (λ (x : Extent). x.start) is in
    let end : last ≡ p.tree.bounds.last = is_last ∙ ap (λ (x : Extent). x.last) is in
    subst (λ (x : State). AreCounts x first last p.reserved client magazine depot ring) same
    (subst (λ n. AreCounts (state_of p) n last p.reserved client magazine depot ring) (sym start)
    (subst (λ n. AreCounts (state_of p) p.tree.bounds.start n p.reserved client magazine depot ring) (sym end) here))
