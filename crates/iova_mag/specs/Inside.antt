-- The pairs of magazines inside a `WorkerCache`.
use Rattle.std.specs.Prelude.{◌≡◌, List, map, All}
use Rattle.iova_range.specs.Bounds.{Capacities}
use Rattle.iova_mag.specs.Workers.{Pair, IsWorkerCache}

-- the pairs are sound, and all are of the worker's profile
pub record ArePairsSound (profile : Capacities) (pairs : List Pair) : Type 0 where
  pub same : All (λ p. p.profile ≡ profile) pairs
  pub sound : IsWorkerCache (record { profile = profile; caches = map (λ p. p.cache) pairs })
