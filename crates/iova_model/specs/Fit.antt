-- Where a range may be placed among others.
use Rattle.std.specs.Prelude.{ℕ, zero, suc, ◌≡◌, ◌+◌, ◌-◌, ◌%◌, ◌<◌, ◌≤◌, ◌==◌, ◌&&◌, Bool, false, not, nat_le, min, List, Option, Some, None, if◌then◌else◌}
use Rattle.std.specs.List.{list_any, list_all}
use Rattle.iova_range.specs.Frames.{Frames, covers, meets}
use Rattle.iova_range.specs.Sizes.{align_of}
use Rattle.iova_range.specs.Bounds.{Extent}

-- one of the ranges has the frame
abbrev pub is_covered : ℕ → List Frames → Bool
is_covered frame ranges = list_any (covers frame) ranges

-- `size` frames from `lo` on fit below the limit: aligned, inside the bounds, none above the limit,
-- and all free. The limit is inclusive and the size aligned as in Linux 5.15 drivers/iommu/iova.c:
-- alloc_iova
pub record Fits (bounds : Extent) (ranges : List Frames) (size limit lo : ℕ) : Type 0 where
  pub aligned : lo % align_of size ≡ 0
  pub start : bounds.start ≤ lo
  pub last : lo + size - 1 ≤ min limit bounds.last
  pub free : (frame : ℕ) → lo ≤ frame → frame < lo + size → is_covered frame ranges ≡ false

-- The greatest place that fits, or none does. The kernel begins its search where it remembers; that
-- is left out here.
abbrev pub IsBest : Extent → List Frames → ℕ → ℕ → Option ℕ → Type 0
IsBest bounds ranges size limit None = (lo : ℕ) → Fits bounds ranges size limit lo → ⊥
IsBest bounds ranges size limit (Some best) =
    Fits bounds ranges size limit best × ((lo : ℕ) → Fits bounds ranges size limit lo → lo ≤ best)

-- The best place as a function, for sizes and ranges of a frame at least.

-- a range meets none of these ranges
abbrev pub is_clear : Frames → List Frames → Bool
is_clear r ranges = list_all (λ x. not (meets r x)) ranges

abbrev pub fits : Extent → List Frames → ℕ → ℕ → ℕ → Bool
fits bounds ranges size limit lo =
    (lo % align_of size == 0) && nat_le bounds.start lo
    && nat_le (lo + size - 1) (min limit bounds.last)
    && is_clear (record { lo = lo; len = size }) ranges

-- the greatest number below n that passes
abbrev pub greatest : (ℕ → Bool) → ℕ → Option ℕ
greatest passes zero = None
greatest passes (suc n) = let below = greatest passes n in if passes n then Some n else below

abbrev pub best : Extent → List Frames → ℕ → ℕ → Option ℕ
best bounds ranges size limit = greatest (fits bounds ranges size limit) (min limit bounds.last + 1)
