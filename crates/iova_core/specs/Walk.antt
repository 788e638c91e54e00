-- What the walk of a request finds, in the words of the definitions.
use Rattle.std.specs.Prelude.{ℕ, ◌≡◌, ◌⊎◌, List, [], ◌∷◌, Option, None, Some}
use Rattle.iova_range.specs.Frames.{Frames}
use Rattle.iova_model.specs.declared.step.Point.{Point}
use Rattle.iova_model.specs.declared.step.Point.TheVariants as point
use Rattle.iova_model.specs.Caches.{Caches, shelf_at, with_shelf, get}
use Rattle.iova_model.specs.Clients.{insert_rising}
use Rattle.iova_model.specs.State.{State}
use Rattle.iova_model.specs.Next as next
use Rattle.iova_tree.specs.Space.{Space, ranges_of}
use Rattle.iova_core.specs.Tied.{IsTied}
use Rattle.iova_core.specs.declared.walk.Walked.{Walked}
use Rattle.iova_core.specs.declared.walk.Walked.TheVariants as found

-- what a worker's caches give, by the order of the size if it has one, and what is left of all
-- caches
abbrev pub get_cached : Caches → ℕ → ℕ → ℕ → Option ℕ → Option ℕ × Caches
get_cached c w size limit None = (None, c)
get_cached c w size limit (Some o) =
    let got = get (shelf_at c w o) limit size in (got.0, with_shelf c w o got.1)

-- What is asked of the tree alone: the range is inserted at the best place, or its growth was
-- refused and nothing is inserted; or nothing fits.
abbrev pub Places : Option ℕ → Point → ℕ → Space → Space → Walked → Type 0
Places None here size old new found.Nowhere = new ≡ old
Places (Some lo) here size old new (found.Placed r) =
    (r ≡ record { lo = lo; len = size })
    × (new ≡ record old { inserted = insert_rising r old.inserted })
Places (Some lo) here size old new (found.OutOfMemory m) = (m ≡ here) × (new ≡ old)
Places lo here size old new f = ⊥

-- the tree and the caches are those of a state
pub record ArePartsOf (tree : Space) (caches : Caches) (s : State) : Type 0 where
  pub bounds : s.bounds ≡ tree.bounds
  pub windows : s.windows ≡ tree.windows
  pub cached : s.caches ≡ caches
  pub tied : IsTied (ranges_of tree) s

-- the growth that was refused
abbrev pub point_of : Walked → Point
point_of (found.Placed r) = point.Never
point_of found.Nowhere = point.Never
point_of (found.OutOfMemory m) = m

-- the ranges that were found
abbrev pub placed_ranges : Walked → List Frames
placed_ranges (found.Placed r) = r ∷ []
placed_ranges found.Nowhere = []
placed_ranges (found.OutOfMemory m) = []

-- what was found, in the words of the definitions
abbrev pub found_as : Walked → next.Found
found_as (found.Placed r) = next.At r.lo
found_as found.Nowhere = next.Nowhere
found_as (found.OutOfMemory m) = next.OutOfMemory

-- a range that was found has this length
abbrev pub IsPlacedOf : ℕ → Walked → Type 0
IsPlacedOf size (found.Placed r) = r.len ≡ size
IsPlacedOf size f = Unit {0}

-- what was found, and the caches that are left, are those of a try or a walk of the definitions
pub record Comes (t : next.Tried) (f : Walked) (caches : Caches) : Type 0 where
  pub found : t.found ≡ found_as f
  pub left : t.state.caches ≡ caches

-- the first growth of a try
abbrev pub IsTryPoint : Point → Type 0
IsTryPoint m = (m ≡ point.First) ⊎ (m ≡ point.Second)

-- a growth of a try whose first one is `here`
abbrev pub IsPointFrom : Point → Point → Type 0
IsPointFrom here m = (m ≡ point.Never) ⊎ ((m ≡ here) ⊎ (m ≡ point.Last))
