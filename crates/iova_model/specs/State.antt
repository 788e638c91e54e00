-- What a domain holds, and where each frame is. Own form.
use Rattle.std.specs.Prelude.{ℕ, zero, suc, ◌+◌, ◌&&◌, Bool, true, false, nat_le, List, [], ◌∷◌, ◌++◌, map, Option, Some, None, if◌then◌else◌, find, replicate}
use Rattle.iova_model.specs.declared.place.Place.{Place}
use Rattle.iova_model.specs.declared.place.Place.TheVariants as place
use Rattle.iova_model.specs.declared.place.Counts.{Counts}
use Rattle.iova_model.specs.declared.entry.Entry.{Entry}
use Rattle.iova_range.specs.Frames.{Frames, covers}
use Rattle.iova_range.specs.Bounds.{Extent}
use Rattle.iova_model.specs.Caches.{Cache, Caches, new_caches, of_order}
use Rattle.iova_model.specs.Flushes.{Flushes, flushes_from, entry_range}
use Rattle.iova_model.specs.Clients.{Client}

-- The bounds with their profile; the worker count; the windows, rising; the clients, rising by
-- serial, and the last serial given; the caches; each worker's ring, oldest entry first; the
-- flushes.
pub record State : Type 0 where
  pub bounds : Extent
  pub workers : ℕ
  pub windows : List Frames
  pub clients : List Client
  pub serial : ℕ
  pub caches : Caches
  pub rings : List (List Entry)
  pub flushes : Flushes

-- a domain with nothing held
abbrev pub new_domain : Extent → ℕ → State
new_domain bounds workers = record {
  bounds = bounds;
  workers = workers;
  windows = [];
  clients = [];
  serial = 0;
  caches = new_caches workers;
  rings = replicate workers [];
  flushes = flushes_from 0;
}

-- Holders: a range, and the place of what has it.
pub record Holder : Type 0 where
  pub range : Frames
  pub place : Place

abbrev pub at_place : Place → List Frames → List Holder
at_place p rs = map (λ r. record { range = r; place = p }) rs

abbrev pub window_holders : List Frames → List Holder
window_holders windows = at_place place.Reserved windows

abbrev pub client_holders : List Client → List Holder
client_holders [] = []
client_holders (c ∷ cs) = at_place (place.Client c.id) c.holdings ++ client_holders cs

-- what one worker caches, from order o on
abbrev pub cache_holders : ℕ → ℕ → List Cache → List Holder
cache_holders w o [] = []
cache_holders w o (c ∷ cs) =
    at_place (place.Magazine w) (of_order o c.loaded)
    ++ (at_place (place.Magazine w) (of_order o c.previous) ++ cache_holders w (o + 1) cs)

-- what the workers from w on cache
abbrev pub magazine_holders : ℕ → List (List Cache) → List Holder
magazine_holders w [] = []
magazine_holders w (cs ∷ rest) = cache_holders w 0 cs ++ magazine_holders (w + 1) rest

abbrev pub list_holders : ℕ → List (List ℕ) → List Holder
list_holders o [] = []
list_holders o (los ∷ rest) = at_place place.Depot (of_order o los) ++ list_holders o rest

-- what the depots of the orders from o on have
abbrev pub depot_holders : ℕ → List (List (List ℕ)) → List Holder
depot_holders o [] = []
depot_holders o (d ∷ rest) = list_holders o d ++ depot_holders (o + 1) rest

-- what the rings of the workers from w on have
abbrev pub ring_holders : ℕ → List (List Entry) → List Holder
ring_holders w [] = []
ring_holders w (r ∷ rest) = at_place (place.Ring w) (map entry_range r) ++ ring_holders (w + 1) rest

abbrev pub cached_holders : Caches → List Holder
cached_holders c = magazine_holders 0 c.workers ++ depot_holders 0 c.depots

-- all holders but windows
abbrev pub owners : State → List Holder
owners s = client_holders s.clients ++ (cached_holders s.caches ++ ring_holders 0 s.rings)

-- all holders
abbrev pub holders : State → List Holder
holders s = window_holders s.windows ++ owners s

-- the ranges that somebody has
abbrev pub held_ranges : State → List Frames
held_ranges s = map (λ h. h.range) (holders s)

-- Where a frame is: at the place of what has it, and free where nothing has it.

abbrev pub place_in : Option Holder → Place
place_in None = place.Free
place_in (Some h) = h.place

abbrev pub place_of : State → ℕ → Place
place_of s frame = place_in (find (λ h. covers frame h.range) (holders s))

-- how many holders have the frame
abbrev pub times_held : ℕ → List Holder → ℕ
times_held frame [] = 0
times_held frame (h ∷ hs) = (if covers frame h.range then 1 else 0) + times_held frame hs

-- The frames of the bounds at each kind of place.

abbrev pub is_free : Place → Bool
is_free place.Free = true
is_free p = false

abbrev pub is_reserved : Place → Bool
is_reserved place.Reserved = true
is_reserved p = false

abbrev pub is_client : Place → Bool
is_client (place.Client id) = true
is_client p = false

abbrev pub is_magazine : Place → Bool
is_magazine (place.Magazine w) = true
is_magazine p = false

abbrev pub is_depot : Place → Bool
is_depot place.Depot = true
is_depot p = false

abbrev pub is_ring : Place → Bool
is_ring (place.Ring w) = true
is_ring p = false

-- how many of the numbers below n pass
abbrev pub count_below : (ℕ → Bool) → ℕ → ℕ
count_below passes zero = 0
count_below passes (suc n) = (if passes n then 1 else 0) + count_below passes n

abbrev pub frames_at : State → (Place → Bool) → ℕ
frames_at s kind =
    count_below (λ frame. nat_le s.bounds.start frame && kind (place_of s frame))
    (s.bounds.last + 1)

abbrev pub counts : State → Counts
counts s = record {
  free = frames_at s is_free;
  reserved = frames_at s is_reserved;
  client = frames_at s is_client;
  magazine = frames_at s is_magazine;
  depot = frames_at s is_depot;
  ring = frames_at s is_ring;
}
