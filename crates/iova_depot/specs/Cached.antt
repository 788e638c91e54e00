-- All that is cached: the workers' magazines, and the depot.
use Rattle.std.specs.Prelude.{ℕ, ◌≡◌, ◌≤◌, ◌+◌, ◌^◌, List, [], ◌∷◌, ◌++◌, length, sum_by, Option, option_map, find, slice_index_or, slice_set}
use Rattle.iova_range.specs.declared.limits.TheConstants.{MAX_WORKERS}
use Rattle.iova_range.specs.Frames.{Frames, covers}
use Rattle.iova_range.specs.Bounds.{Capacities, IsProfile}
use Rattle.iova_model.specs.declared.place.Place.{Place}
use Rattle.iova_model.specs.declared.place.Place.TheVariants as place
use Rattle.iova_model.specs.Caches.{Cache, Caches, new_caches, cache_at, shelf_at, with_shelf, get, put, sent_out, last_or, front}
use Rattle.iova_model.specs.State.{cached_holders}
use Rattle.iova_model.specs.Valid.{AreCaches}
use Rattle.iova_model.specs.Effects.{cached_ranges, frames_of}
use Rattle.iova_mag.specs.Workers as worker
use Rattle.iova_mag.specs.Workers.{AreFull}
use Rattle.iova_depot.specs.declared.spot.Spot.{Spot}
use Rattle.iova_depot.specs.declared.spot.Spot.TheVariants.{Magazine, Depot}

-- What a `Caches` is seen as: its profile, how many workers there are, and what they and the depot
-- have
pub record Cached : Type 0 where
  pub profile : Capacities
  pub workers : ℕ
  pub caches : Caches

abbrev pub new_cached : Capacities → ℕ → Cached
new_cached profile workers =
    record { profile = profile; workers = workers; caches = new_caches workers }

-- 1 to 16 workers, and no list longer than the profile says
pub record IsCached (c : Cached) : Type 0 where
  pub profile : IsProfile c.profile
  pub some_worker : 1 ≤ c.workers
  pub few_workers : c.workers ≤ MAX_WORKERS
  pub caches : AreCaches c.profile c.workers c.caches

-- the caches with other magazines of one worker and one order, and with another depot of one order
abbrev pub with_worker_cache : Caches → ℕ → ℕ → Cache → Caches
with_worker_cache c w o cache =
    record c { workers = slice_set c.workers w (slice_set (slice_index_or c.workers w []) o cache) }

abbrev pub with_depot : Caches → ℕ → List (List ℕ) → Caches
with_depot c o depot = record c { depots = slice_set c.depots o depot }

-- these caches with other contents
abbrev pub with_contents : Cached → Caches → Cached
with_contents c caches = record c { caches = caches }

-- an order's depot
abbrev pub depot_at : Caches → ℕ → List (List ℕ)
depot_at c order = slice_index_or c.depots order []

-- an order's depot has as many magazines as it takes
abbrev pub IsDepotFull : Cached → ℕ → Type 0
IsDepotFull c order = length (depot_at c.caches order) ≡ c.profile.depot

-- a worker's two magazines of an order have as many entries as they take
abbrev pub AreFullAt : Cached → ℕ → ℕ → Type 0
AreFullAt c w order = AreFull c.profile (cache_at c.caches w order)

-- What a worker's get and put leave of an order, and what a put sends out.

abbrev pub after_get : Cached → ℕ → ℕ → ℕ → Cached
after_get c w order limit =
    with_contents c (with_shelf c.caches w order
    (get (shelf_at c.caches w order) limit (2 ^ order)).1)

abbrev pub after_put : Cached → ℕ → ℕ → ℕ → Cached
after_put c w order lo =
    with_contents c (with_shelf c.caches w order (put c.profile (shelf_at c.caches w order) lo))

abbrev pub sent_by_put : Cached → ℕ → ℕ → List ℕ
sent_by_put c w order = sent_out c.profile (shelf_at c.caches w order)

-- The state in parts: with other magazines of that worker and order, as a get and a put leave them
-- that don't ask the depot; with the depot's last magazine in place of the loaded one; with an
-- empty one there; and with one more in the depot.
abbrev pub with_own : Cached → ℕ → ℕ → Cache → Cached
with_own c w order cache = with_contents c (with_worker_cache c.caches w order cache)

abbrev pub after_own_get : Cached → ℕ → ℕ → ℕ → Cached
after_own_get c w order limit =
    with_own c w order (worker.cache_after_get (cache_at c.caches w order) limit (2 ^ order))

abbrev pub after_own_put : Cached → ℕ → ℕ → ℕ → Cached
after_own_put c w order lo =
    with_own c w order (worker.cache_after_put c.profile (cache_at c.caches w order) lo)

abbrev pub after_reload : Cached → ℕ → ℕ → Cached
after_reload c w order =
    let depot = depot_at c.caches order in
    with_contents c (with_shelf c.caches w order
    (record { loaded = last_or [] depot; previous = []; depot = front depot }))

abbrev pub after_renewal : Cached → ℕ → ℕ → Cached
after_renewal c w order = with_own c w order (worker.renewed_cache (cache_at c.caches w order))

abbrev pub after_store : Cached → ℕ → List ℕ → Cached
after_store c order entries =
    with_contents c (with_depot c.caches order (depot_at c.caches order ++ entries ∷ []))

-- the range that an entry of an order begins
abbrev pub range_of_entry : ℕ × ℕ → Frames
range_of_entry entry = record { lo = entry.1; len = 2 ^ entry.0 }

-- how many frames are cached
abbrev pub cached_frames : Caches → ℕ
cached_frames c = frames_of (cached_holders c)

-- where the first cached range is that has the frame
abbrev pub cached_place : ℕ → Caches → Option Place
cached_place frame c =
    option_map (λ h. h.place) (find (λ h. covers frame h.range) (cached_holders c))

-- A range has left, and all else that was cached is cached: whatever ranges weigh, that one is what
-- they weigh less.
abbrev pub LosesOnly : Frames → Caches → Caches → Type 0
LosesOnly r old new =
    (weigh : Frames → ℕ) → sum_by weigh (cached_ranges new) + weigh r
    ≡ sum_by weigh (cached_ranges old)

-- the place that a spot stands for
abbrev pub place_at : Spot → Place
place_at (Magazine worker) = place.Magazine worker
place_at Depot = place.Depot
