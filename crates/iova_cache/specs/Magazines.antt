-- The magazines of a cache.
use Rattle.std.specs.Prelude.{ℕ, ◌≡◌, ◌+◌, ◌-◌, ◌^◌, ◌<◌, ◌≤◌, List, [], ◌∷◌, ◌++◌, length, replicate, slice_index_or, slice_set}
use Rattle.std.specs.List.{AllByRecursion}
use Rattle.iova_range.specs.declared.limits.TheConstants.{ORDERS}
use Rattle.iova_range.specs.Frames.{Frames}

-- the ranges of this order, the newest last, of the magazines of all orders
abbrev pub magazine_of : List (List Frames) → ℕ → List Frames
magazine_of ms order = slice_index_or ms order []

-- the magazines of all orders, with others at this one
abbrev pub with_magazine : List (List Frames) → ℕ → List Frames → List (List Frames)
with_magazine ms order m = slice_set ms order m

abbrev pub no_magazines : List (List Frames)
no_magazines = replicate ORDERS []

-- no frame of the range is above this one
abbrev pub IsUpTo : ℕ → Frames → Type 0
IsUpTo last r = r.lo + r.len ≤ last + 1

-- the newest range of a magazine
pub record IsNewest (r : Frames) (m : List Frames) : Type 0 where
  pub rest : List Frames
  pub is : m ≡ rest ++ r ∷ []

-- the newest range of this order has a frame above the last one that is asked for
pub record Misses (ms : List (List Frames)) (order last : ℕ) : Type 0 where
  pub range : Frames
  pub newest : IsNewest range (magazine_of ms order)
  pub above : last < range.lo + range.len - 1

-- the newest range of this order has no frame above the last one that is asked for
pub record Fits (ms : List (List Frames)) (order last : ℕ) : Type 0 where
  pub range : Frames
  pub newest : IsNewest range (magazine_of ms order)
  pub below : IsUpTo last range

-- The newest range of this order has left.
pub record IsTaken (old new : List (List Frames)) (order : ℕ) (r : Frames) : Type 0 where
  pub rest : List Frames
  pub newest : magazine_of old order ≡ rest ++ r ∷ []
  pub left : new ≡ with_magazine old order rest
  pub size : r.len ≡ 2 ^ order

-- The range has come into the magazine of this order, as the newest.
abbrev pub IsPut : List (List Frames) → List (List Frames) → ℕ → Frames → Type 0
IsPut old new order r = new ≡ with_magazine old order (magazine_of old order ++ r ∷ [])

-- each range has as many frames as its order says, from this order on
abbrev pub AreSized : ℕ → List (List Frames) → Type 0
AreSized order [] = Unit {0}
AreSized order (m ∷ ms) =
    AllByRecursion (λ r. r.len ≡ 2 ^ order) m × AreSized (order + 1) ms

pub record AreMagazines (ms : List (List Frames)) : Type 0 where
  pub orders : length ms ≡ ORDERS
  pub sized : AreSized 0 ms
