-- How many frames there are at each kind of place.
use Rattle.std.proofs.Common.{ℕ, zero, suc, ◌≡◌, ◌+◌, ◌-◌, ◌<◌, ◌≤◌, ◌&&◌, min, Bool, true, false, cond, List, [], ◌∷◌, ◌++◌, refl, sym, ap, ◌∙◌, arith, find}
use Rattle.std.specs.Prelude.{nat_le}
use Rattle.std.specs.List.{list_all}
use Rattle.std.proofs.lemmas.Bool.{cond_both, and_parts, leb-false}
use Rattle.std.proofs.lemmas.Bool.Decides.{nat_tests}
use Rattle.std.proofs.lemmas.List.Recursion.{is_sum_by}
use Rattle.iova_model.specs.declared.place.Place.{Place}
use Rattle.iova_model.specs.declared.place.Place.TheVariants as place
use Rattle.iova_range.specs.Frames.{Frames, covers}
use Rattle.iova_range.specs.Bounds.{Extent}
use Rattle.iova_model.specs.Clients.{Client, all_holdings, totals}
use Rattle.iova_model.specs.State.{State, Holder, window_holders, client_holders, magazine_holders, depot_holders, ring_holders, cached_holders, owners, holders, place_in, place_of, times_held, is_free, is_reserved, is_client, is_magazine, is_depot, is_ring, count_below, frames_at}
use Rattle.iova_model.specs.Valid.{is_inside, IsValid}
use Rattle.iova_model.specs.Effects.{frames_of}
use Rattle.iova_model.specs.Laws.{PlacesAddUp}
use Rattle.iova_laws.proofs.Weight as weight
use Rattle.iova_laws.proofs.WeightHolders.{holder_ranges, clients_hold}
use Rattle.iova_laws.proofs.PlaceOnce.{has}
use Rattle.iova_laws.proofs.PlaceKinds.{AllAt, all_at_place, all_at_clients, all_at_magazines, all_at_depots, all_at_rings}

-- the length of a range
abbrev frames_in : Frames → ℕ
frames_in r = r.len

-- the frames of holders, as a weight
frames_held : (hs : List Holder) → frames_of hs ≡ holder_ranges frames_in hs
frames_held hs = sym (is_sum_by (λ xs. holder_ranges frames_in xs) (λ h. h.range.len) refl (λ x xs. refl) hs)

-- Sums over the numbers below n.

-- f 0 to f (n - 1), added
abbrev sum_below : (ℕ → ℕ) → ℕ → ℕ
sum_below f zero = 0
sum_below f (suc n) = f n + sum_below f n

-- zeros add up to zero
sum_below-zero : (n : ℕ) → sum_below (λ k. 0) n ≡ 0
sum_below-zero zero = refl
sum_below-zero (suc n) = omega (arith, sum_below-zero n)

-- a sum of sums
sum_below-add : (f g : ℕ → ℕ) (n : ℕ) → sum_below (λ k. f k + g k) n ≡ sum_below f n + sum_below g n
sum_below-add f g zero = refl
sum_below-add f g (suc n) = omega (arith, sum_below-add f g n)

-- a count is the sum of its tests
count_is_sum : (passes : ℕ → Bool) (f : ℕ → ℕ) (n : ℕ) → ((k : ℕ) → cond (passes k) 1 0 ≡ f k) → count_below passes n ≡ sum_below f n
count_is_sum passes f zero each = refl
count_is_sum passes f (suc n) each = omega (arith, each n, count_is_sum passes f n each)

-- the frames of a range that are below n
frames_below : (r : Frames) (n : ℕ) → sum_below (λ frame. has frame r) n ≡ min n (r.lo + r.len) - min n r.lo
frames_below r zero = omega arith
frames_below r (suc n) = grind (arith, nat_tests, frames_below r n)

-- a range inside ends at the end of the bounds or before
ends_at : (b : Extent) (r : Frames) → is_inside b r ≡ true → r.lo + r.len ≤ b.last + 1
ends_at b r inside = grind (arith, nat_tests)

-- it has no frame below the bounds
begins_after : (b : Extent) (frame : ℕ) (r : Frames) → is_inside b r ≡ true → frame < b.start → has frame r ≡ 0
begins_after b frame r inside below =
    let none : covers frame r ≡ false = grind (arith, nat_tests) in ap (λ c. cond c 1 0) none

-- nobody has a frame below the bounds
times_outside : (b : Extent) (frame : ℕ) (hs : List Holder) → list_all (λ h. is_inside b h.range) hs ≡ true → frame < b.start → times_held frame hs ≡ 0
times_outside b frame [] all below = refl
times_outside b frame (h ∷ hs) all below =
    let parts = and_parts (is_inside b h.range) (list_all (λ x. is_inside b x.range) hs) all in
    omega (arith, begins_after b frame h.range parts.0 below, times_outside b frame hs parts.1 below)

-- zero either way
no_frames : (b : Bool) → cond {A = ℕ} b 0 0 ≡ 0
no_frames true = refl
no_frames false = refl

-- The holders at places of a kind.

module _ (kind : Place → Bool) where
  -- how many of them have the frame
  abbrev times_at : ℕ → List Holder → ℕ
  times_at frame [] = 0
  times_at frame (h ∷ hs) = cond (kind h.place) (has frame h.range) 0 + times_at frame hs

  -- how many frames they have
  abbrev frames_of_kind : List Holder → ℕ
  frames_of_kind [] = 0
  frames_of_kind (h ∷ hs) = cond (kind h.place) h.range.len 0 + frames_of_kind hs

  -- no more holders of the kind have the frame than holders at all
  times_at_le : (frame : ℕ) (hs : List Holder) → times_at frame hs ≤ times_held frame hs
  times_at_le frame [] = omega arith
  times_at_le frame (h ∷ hs) =
      let n = has frame h.range in
      let le : cond (kind h.place) n 0 ≤ n = cond_both (kind h.place) n 0 (λ x. x ≤ n) (λ e. omega arith) (λ e. omega arith) in
      omega (arith, le, times_at_le frame hs)

  -- a frame that one holder has at most is counted where its holder is of the kind
  times_at_is : (frame : ℕ) (hs : List Holder) → kind place.Free ≡ false → times_held frame hs ≤ 1 → cond (kind (place_in (find (λ h. covers frame h.range) hs))) 1 0 ≡ times_at frame hs
  times_at_is frame [] free once = rw free refl
  times_at_is frame (h ∷ hs) free once =
      times_step (λ less. times_at_is frame hs free less) (times_at_le frame hs) (covers frame h.range) refl
    where
      times_step : (times_held frame hs ≤ 1 → cond (kind (place_in (find (λ x. covers frame x.range) hs))) 1 0 ≡ times_at frame hs) → times_at frame hs ≤ times_held frame hs → (b : Bool) → covers frame h.range ≡ b → cond (kind (place_in (find (λ x. covers frame x.range) (h ∷ hs)))) 1 0 ≡ times_at frame (h ∷ hs)
      times_step more le true is = let once' = rw is at once in rw is (omega (arith, once'))
      times_step more le false is =
          let once' = rw is at once in
          rw is (omega (arith, no_frames (kind h.place), more (omega (arith, once'))))

  -- over all frames, that is how many frames they have
  times_add_up : (b : Extent) (hs : List Holder) → list_all (λ h. is_inside b h.range) hs ≡ true → sum_below (λ frame. times_at frame hs) (b.last + 1) ≡ frames_of_kind hs
  times_add_up b [] all = sum_below-zero (b.last + 1)
  times_add_up b (h ∷ hs) all =
      let parts = and_parts (is_inside b h.range) (list_all (λ x. is_inside b x.range) hs) all in
      let one = add_step (kind h.place) parts.0 in
      omega (arith, one, times_add_up b hs parts.1, sum_below-add (λ frame. cond (kind h.place) (has frame h.range) 0) (λ frame. times_at frame hs) (b.last + 1))
    where
      add_step : (x : Bool) → is_inside b h.range ≡ true → sum_below (λ frame. cond x (has frame h.range) 0) (b.last + 1) ≡ cond x h.range.len 0
      add_step true inside = omega (arith, frames_below h.range (b.last + 1), ends_at b h.range inside)
      add_step false inside = sum_below-zero (b.last + 1)

  -- so a count is the frames of the holders of its kind
  count_of_kind : (s : State) → IsValid s → kind place.Free ≡ false → frames_at s kind ≡ frames_of_kind (holders s)
  count_of_kind s valid free =
      count_is_sum (λ frame. nat_le s.bounds.start frame && kind (place_of s frame)) (λ frame. times_at frame (holders s)) (s.bounds.last + 1) (λ frame. at_frame frame (nat_le s.bounds.start frame) refl) ∙ times_add_up s.bounds (holders s) valid.one_place.inside
    where
      at_frame : (frame : ℕ) (b : Bool) → nat_le s.bounds.start frame ≡ b → cond (nat_le s.bounds.start frame && kind (place_of s frame)) 1 0 ≡ times_at frame (holders s)
      at_frame frame true is = rw is (times_at_is frame (holders s) free (valid.one_place.once frame))
      at_frame frame false is =
          let below : frame < s.bounds.start = leb-false _ _ is in
          rw is (omega (arith, times_at_le frame (holders s), times_outside s.bounds frame (holders s) valid.one_place.inside below))

  -- two lists of holders, one after the other
  frames_of_kind-append : (xs ys : List Holder) → frames_of_kind (xs ++ ys) ≡ frames_of_kind xs + frames_of_kind ys
  frames_of_kind-append [] ys = omega arith
  frames_of_kind-append (x ∷ xs) ys = omega (arith, frames_of_kind-append xs ys)

  -- where all holders are of the kind, or none is
  kind_each : (b : Bool) (hs : List Holder) → AllAt (λ p. kind p ≡ b) hs → frames_of_kind hs ≡ cond b (frames_of hs) 0
  kind_each true hs all = omega (arith, kind_sum hs all, frames_held hs)
    where
      kind_sum : (xs : List Holder) → AllAt (λ p. kind p ≡ true) xs → frames_of_kind xs ≡ holder_ranges frames_in xs
      kind_sum [] all = refl
      kind_sum (x ∷ xs) all = rw all.0 (omega (arith, kind_sum xs all.1))
  kind_each false [] all = refl
  kind_each false (h ∷ hs) all = rw all.0 (omega (arith, kind_each false hs all.1))

  -- the holders by what they are
  kind_parts : (s : State) → frames_of_kind (holders s) ≡ frames_of_kind (window_holders s.windows) + frames_of_kind (client_holders s.clients) + frames_of_kind (magazine_holders 0 s.caches.workers) + frames_of_kind (depot_holders 0 s.caches.depots) + frames_of_kind (ring_holders 0 s.rings)
  kind_parts s =
      let magazines = magazine_holders 0 s.caches.workers in
      let depots = depot_holders 0 s.caches.depots in
      let rings = ring_holders 0 s.rings in
      omega (arith, frames_of_kind-append (window_holders s.windows) (owners s), frames_of_kind-append (client_holders s.clients) (cached_holders s.caches ++ rings), frames_of_kind-append (cached_holders s.caches) rings, frames_of_kind-append magazines depots)

  -- which places are of the kind
  record IsKind (window client magazine depot ring : Bool) : Type 0 where
    at_free : kind place.Free ≡ false
    at_window : kind place.Reserved ≡ window
    at_client : (id : ℕ) → kind (place.Client id) ≡ client
    at_magazine : (w : ℕ) → kind (place.Magazine w) ≡ magazine
    at_depot : kind place.Depot ≡ depot
    at_ring : (w : ℕ) → kind (place.Ring w) ≡ ring

  -- then a count is the frames of the holders there
  count_parts : (s : State) (window client magazine depot ring : Bool) → IsValid s → IsKind window client magazine depot ring → frames_at s kind ≡ cond window (frames_of (window_holders s.windows)) 0 + cond client (frames_of (client_holders s.clients)) 0 + cond magazine (frames_of (magazine_holders 0 s.caches.workers)) 0 + cond depot (frames_of (depot_holders 0 s.caches.depots)) 0 + cond ring (frames_of (ring_holders 0 s.rings)) 0
  count_parts s window client magazine depot ring valid is =
      let windows = kind_each window (window_holders s.windows) (all_at_place (λ p. kind p ≡ window) place.Reserved s.windows is.at_window) in
      let clients = kind_each client (client_holders s.clients) (all_at_clients (λ p. kind p ≡ client) s.clients is.at_client) in
      let magazines = kind_each magazine (magazine_holders 0 s.caches.workers) (all_at_magazines (λ p. kind p ≡ magazine) 0 s.caches.workers is.at_magazine) in
      let depots = kind_each depot (depot_holders 0 s.caches.depots) (all_at_depots (λ p. kind p ≡ depot) 0 s.caches.depots is.at_depot) in
      let rings = kind_each ring (ring_holders 0 s.rings) (all_at_rings (λ p. kind p ≡ ring) 0 s.rings is.at_ring) in
      omega (arith, count_of_kind s valid is.at_free, kind_parts s, windows, clients, magazines, depots, rings)

-- All kinds.

-- the totals' frames are those of the holders
client_frames : (cs : List Client) → frames_of (client_holders cs) ≡ (totals cs).frames
client_frames cs = omega (arith, frames_held (client_holders cs), clients_hold frames_in cs, weight.ranges_are frames_in (all_holdings cs), all_weigh cs)
  where
    all_weigh : (xs : List Client) → weight.ranges frames_in (all_holdings xs) ≡ weight.clients frames_in xs
    all_weigh [] = refl
    all_weigh (x ∷ xs) = omega (arith, weight.ranges-append frames_in x.holdings (all_holdings xs), all_weigh xs)

-- each place is of one kind
one_kind : (b : Bool) (p : Place) → cond (b && is_free p) 1 0 + cond (b && is_reserved p) 1 0 + cond (b && is_client p) 1 0 + cond (b && is_magazine p) 1 0 + cond (b && is_depot p) 1 0 + cond (b && is_ring p) 1 0 ≡ cond b 1 0
one_kind false p = refl
one_kind true place.Free = refl
one_kind true place.Reserved = refl
one_kind true (place.Client id) = refl
one_kind true (place.Magazine w) = refl
one_kind true place.Depot = refl
one_kind true (place.Ring w) = refl

-- the frames below n that aren't below the bounds
frames_from : (start n : ℕ) → count_below (λ frame. nat_le start frame) n ≡ n - start
frames_from start zero = omega arith
frames_from start (suc n) = grind (arith, nat_tests, frames_from start n)

-- those at places of a kind
abbrev kind_below : State → (Place → Bool) → ℕ → ℕ
kind_below s kind n = count_below (λ frame. nat_le s.bounds.start frame && kind (place_of s frame)) n

-- together they are all that are inside
kinds_below : (s : State) (n : ℕ) → kind_below s is_free n + kind_below s is_reserved n + kind_below s is_client n + kind_below s is_magazine n + kind_below s is_depot n + kind_below s is_ring n ≡ count_below (λ frame. nat_le s.bounds.start frame) n
kinds_below s zero = refl
kinds_below s (suc n) = omega (arith, one_kind (nat_le s.bounds.start n) (place_of s n), kinds_below s n)

-- the counts are the frames of the holders, and add up
pub places_add_up : PlacesAddUp
places_add_up = λ s h. record {
  reserved = omega (arith, count_parts is_reserved s true false false false false h (record { at_free = refl; at_window = refl; at_client = λ id. refl; at_magazine = λ w. refl; at_depot = refl; at_ring = λ w. refl }));
  client = omega (arith, client_frames s.clients, count_parts is_client s false true false false false h (record { at_free = refl; at_window = refl; at_client = λ id. refl; at_magazine = λ w. refl; at_depot = refl; at_ring = λ w. refl }));
  magazine = omega (arith, count_parts is_magazine s false false true false false h (record { at_free = refl; at_window = refl; at_client = λ id. refl; at_magazine = λ w. refl; at_depot = refl; at_ring = λ w. refl }));
  depot = omega (arith, count_parts is_depot s false false false true false h (record { at_free = refl; at_window = refl; at_client = λ id. refl; at_magazine = λ w. refl; at_depot = refl; at_ring = λ w. refl }));
  ring = omega (arith, count_parts is_ring s false false false false true h (record { at_free = refl; at_window = refl; at_client = λ id. refl; at_magazine = λ w. refl; at_depot = refl; at_ring = λ w. refl }));
  all = omega (arith, kinds_below s (s.bounds.last + 1), frames_from s.bounds.start (s.bounds.last + 1));
}
