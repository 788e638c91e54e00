-- What holds of the fields of `Clients`.
use Rattle.std.specs.Prelude.{ℕ, ◌≡◌, ◌<◌, List, length}
use Rattle.iova_range.specs.declared.limits.TheConstants.{MAX_WORKERS}
use Rattle.iova_model.specs.Clients.{Client, share_of}
use Rattle.iova_clients.specs.declared.sums.Sums.{Sums}
use Rattle.iova_clients.specs.Registry.{Registry, IsRegistry}
use Rattle.iova_clients.specs.Sums.{share_at}

-- the numbers that are kept are each worker's share of the totals
pub record AreSumsOf (clients : List Client) (sums : Sums) : Type 0 where
  pub workers : length sums.shares ≡ MAX_WORKERS
  pub shares : (worker : ℕ) → worker < MAX_WORKERS
      → share_at worker sums.shares ≡ share_of worker clients

pub record AreBooks (r : Registry) (s : Sums) : Type 0 where
  pub registry : IsRegistry r
  pub sums : AreSumsOf r.clients s
