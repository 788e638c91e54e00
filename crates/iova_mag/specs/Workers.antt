-- One worker's magazines.
use Rattle.std.specs.Prelude.{ℕ, ◌≡◌, ◌+◌, ◌-◌, ◌*◌, ◌^◌, ◌<◌, ◌≤◌, ◌&&◌, ◌||◌, Bool, List, [], length, replicate, Option, Some, None, if◌then◌else◌, slice_get, slice_index_or, slice_set, ◌⊎◌}
use Rattle.std.specs.List.{list_any}
use Rattle.iova_range.specs.Frames.{covers}
use Rattle.iova_range.specs.Bounds.{Capacities, IsProfile}
use Rattle.iova_model.specs.Caches.{Cache, Shelf, no_magazines, is_empty, front, fitting, get, put, of_order}
use Rattle.iova_model.specs.Valid.{AreWorkerCaches}
use Rattle.iova_mag.specs.declared.worker.Got.{Got}
use Rattle.iova_mag.specs.declared.worker.Got.TheVariants.{Hit, Miss, Empty}

-- What a `WorkerCache` is seen as: its profile, and the two magazines of each order
pub record WorkerCache : Type 0 where
  pub profile : Capacities
  pub caches : List Cache

-- What a `Pair` is seen as: the two magazines of one order
pub record Pair : Type 0 where
  pub profile : Capacities
  pub cache : Cache

abbrev pub new_pair : Capacities → Pair
new_pair profile = record { profile = profile; cache = no_magazines }

abbrev pub new_worker : Capacities → WorkerCache
new_worker profile = record { profile = profile; caches = replicate 6 no_magazines }

-- a cache for each of the six orders, none with more entries than the profile says
pub record IsWorkerCache (w : WorkerCache) : Type 0 where
  pub profile : IsProfile w.profile
  pub caches : AreWorkerCaches w.profile w.caches

-- the magazines of an order, and the same with others in their place
abbrev pub cache_of : WorkerCache → ℕ → Cache
cache_of w order = slice_index_or w.caches order no_magazines

abbrev pub with_cache : WorkerCache → ℕ → Cache → WorkerCache
with_cache w order cache = record w { caches = slice_set w.caches order cache }

-- two magazines as a shelf with an empty depot, and the two of a shelf
abbrev pub shelf_of : Cache → Shelf
shelf_of c = record { loaded = c.loaded; previous = c.previous; depot = [] }

abbrev pub pair_of : Shelf → Cache
pair_of s = record { loaded = s.loaded; previous = s.previous }

-- what a get leaves of the two magazines, what a put leaves of them, and what they are with an
-- empty one for loaded
abbrev pub cache_after_get : Cache → ℕ → ℕ → Cache
cache_after_get c limit size = pair_of (get (shelf_of c) limit size).1

abbrev pub cache_after_put : Capacities → Cache → ℕ → Cache
cache_after_put p c lo = pair_of (put p (shelf_of c) lo)

abbrev pub renewed_cache : Cache → Cache
renewed_cache c = record { loaded = []; previous = c.previous }

-- a range of this order that an entry begins has the frame
abbrev pub has_frame : ℕ → ℕ → Cache → Bool
has_frame frame order c =
    list_any (covers frame) (of_order order c.loaded)
    || list_any (covers frame) (of_order order c.previous)

-- how many frames the ranges of this order have that the entries begin
abbrev pub frames_in : ℕ → Cache → ℕ
frames_in order c = (length c.loaded + length c.previous) * 2 ^ order

-- neither has an entry
abbrev pub AreEmpty : Cache → Type 0
AreEmpty c = (c.loaded ≡ []) × (c.previous ≡ [])

-- both have as many entries as they take, or one has room
abbrev pub AreFull : Capacities → Cache → Type 0
AreFull p c = (length c.loaded ≡ p.mag) × (length c.previous ≡ p.mag)

abbrev pub HasRoom : Capacities → Cache → Type 0
HasRoom p c = (length c.loaded < p.mag) ⊎ (length c.previous < p.mag)

-- what a get finds in the two
abbrev pub hit_or_miss : Option ℕ → Got
hit_or_miss None = Miss
hit_or_miss (Some lo) = Hit lo

abbrev pub got_from : Cache → ℕ → ℕ → Got
got_from c limit size =
    if is_empty c.loaded && is_empty c.previous then Empty
    else hit_or_miss (get (shelf_of c) limit size).0

-- loaded has an entry, and the newest one fits
pub record GivesNewest (c : Cache) (limit size : ℕ) : Type 0 where
  pub some : 1 ≤ length c.loaded
  pub fits : fitting c.loaded limit size ≡ Some (length c.loaded - 1)

-- the newest entry of loaded, or of previous where loaded is empty
abbrev pub newest : Cache → Option ℕ
newest c =
    if is_empty c.loaded then slice_get c.previous (length c.previous - 1)
    else slice_get c.loaded (length c.loaded - 1)

-- the two without it
abbrev pub without_newest : Cache → Cache
without_newest c =
    if is_empty c.loaded then record { loaded = c.loaded; previous = front c.previous } else
    record { loaded = front c.loaded; previous = c.previous }
