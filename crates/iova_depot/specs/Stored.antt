-- The full magazines of one order that no worker has.
use Rattle.std.specs.Prelude.{◌≡◌, ℕ, List, All, map}
use Rattle.iova_range.specs.Bounds.{Capacities, IsProfile}
use Rattle.iova_model.specs.Valid.{IsDepot}
use Rattle.iova_mag.specs.Magazines.{Magazine}

-- What a `Depot` is seen as: its profile, and the entries of each magazine, the newest last
pub record Stored : Type 0 where
  pub profile : Capacities
  pub lists : List (List ℕ)

abbrev pub lists_of : List Magazine → List (List ℕ)
lists_of magazines = map (λ m. m.entries) magazines

-- the magazines are of the profile, and are as many and as large as it allows, none empty
pub record AreStored (profile : Capacities) (magazines : List Magazine) : Type 0 where
  pub is_profile : IsProfile profile
  pub same : All (λ m. m.profile ≡ profile) magazines
  pub sound : IsDepot profile (lists_of magazines)
