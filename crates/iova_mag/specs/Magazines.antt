-- One magazine: a list of first frames, the newest last.
use Rattle.std.specs.Prelude.{ℕ, ◌≤◌, ◌<◌, ◌^◌, List, [], length, Option, All}
use Rattle.iova_range.specs.Bounds.{Capacities, IsProfile}
use Rattle.iova_model.specs.Caches.{Shelf, fitting, pop_entry}

-- What a `Magazine` is seen as: its entries, and the profile, which says how many of them fill it
pub record Magazine : Type 0 where
  pub profile : Capacities
  pub entries : List ℕ

-- a magazine of this profile with these entries
abbrev pub magazine_of : Capacities → List ℕ → Magazine
magazine_of profile entries = record { profile = profile; entries = entries }

-- It has no more entries than fill it, each below 2^40.
pub record IsMagazine (m : Magazine) : Type 0 where
  pub profile : IsProfile m.profile
  pub room : length m.entries ≤ m.profile.mag
  pub small : All (λ lo. lo < 2 ^ 40) m.entries

-- a list of entries as a shelf that has nothing else
abbrev pub only : List ℕ → Shelf
only entries = record { loaded = entries; previous = []; depot = [] }

-- what a pop gives, and what it leaves
abbrev pub pop : List ℕ → ℕ → ℕ → Option ℕ × Shelf
pop entries limit size = pop_entry (only entries) (fitting entries limit size)
