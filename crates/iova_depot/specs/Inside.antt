-- What a `Caches` keeps true inside.
use Rattle.std.specs.Prelude.{◌≡◌, ◌≤◌, ◌<◌, ◌+◌, ◌*◌, ℕ, List, [], length, All, map, slice_index_or}
use Rattle.iova_range.specs.declared.limits.TheConstants.{MAX_WORKERS}
use Rattle.iova_range.specs.Bounds.{Capacities, IsProfile}
use Rattle.iova_model.specs.Caches.{Caches, cache_at}
use Rattle.iova_model.specs.State.{depot_holders}
use Rattle.iova_model.specs.Valid.{AreCaches}
use Rattle.iova_mag.specs.Workers.{WorkerCache, AreEmpty}
use Rattle.iova_depot.specs.Stored.{Stored}
use Rattle.iova_model.specs.Effects.{frames_of}

-- The entries stand in slots: six for each worker, one for each order, and then one for each depot.
-- The slots below this one are empty.
pub record AreEmptyBelow (slot workers : ℕ) (c : Caches) : Type 0 where
  pub magazines : (w o : ℕ) → w < workers → o < 6 → w * 6 + o < slot → AreEmpty (cache_at c w o)
  pub depots : (o : ℕ) → o < 6 → workers * 6 + o < slot → slice_index_or c.depots o [] ≡ []

-- what is seen of the workers and the depots
abbrev pub caches_of : List WorkerCache → List Stored → Caches
caches_of workers depots =
    record { workers = map (λ w. w.caches) workers; depots = map (λ d. d.lists) depots }

-- all have the profile, the depot's count is that of its frames, and there is nothing below the
-- first slot that may be filled
pub record AreCachesKept (profile : Capacities) (workers : List WorkerCache) (depots : List Stored)
    (in_depot first_filled : ℕ) : Type 0 where
  pub is_profile : IsProfile profile
  pub some_worker : 1 ≤ length workers
  pub few_workers : length workers ≤ MAX_WORKERS
  pub same_in_workers : All (λ w. w.profile ≡ profile) workers
  pub same_in_depots : All (λ d. d.profile ≡ profile) depots
  pub caches : AreCaches profile (length workers) (caches_of workers depots)
  pub depot : in_depot ≡ frames_of (depot_holders 0 (caches_of workers depots).depots)
  pub empty : AreEmptyBelow first_filled (length workers) (caches_of workers depots)
