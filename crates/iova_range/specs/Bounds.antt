-- The frames that a domain may hand out, and the sizes of its caches.
use Rattle.std.specs.Prelude.{◌≡◌, ℕ, ◌≤◌, ◌⊎◌}
use Rattle.iova_range.specs.declared.limits.TheConstants.{MAGAZINE, SMALL_MAGAZINE, MAX_DEPOT, TOP, WIDE_TOP}

-- What a `Profile` is seen as: how many entries a magazine is full at, how many full magazines the
-- depot takes for each order, and the greatest frame number
pub record Capacities : Type 0 where
  pub mag : ℕ
  pub depot : ℕ
  pub top : ℕ

-- The kernel's sizes: IOVA_MAG_SIZE of Linux 5.15 drivers/iommu/iova.c and MAX_GLOBAL_MAGS of
-- include/linux/iova.h; the greatest frame is our own
abbrev pub first_profile : Capacities
first_profile = record { mag = MAGAZINE; depot = MAX_DEPOT; top = TOP }

-- smaller magazines, a depot of a chosen depth, and frames up to 2^40 - 1: our own
abbrev pub second_profile : ℕ → Capacities
second_profile depot = record { mag = SMALL_MAGAZINE; depot = depot; top = WIDE_TOP }

-- one of the two
abbrev pub IsProfile : Capacities → Type 0
IsProfile p = (p ≡ first_profile) ⊎ ((p.depot ≤ MAX_DEPOT) × (p ≡ second_profile p.depot))

-- What `Bounds` are seen as: the first and the last frame, and the profile
pub record Extent : Type 0 where
  pub start : ℕ
  pub last : ℕ
  pub profile : Capacities

-- Frame 0 is never handed out, there is a frame, and none is above the profile's greatest.
pub record AreBounds (profile : Capacities) (start last : ℕ) : Type 0 where
  pub above_zero : 1 ≤ start
  pub in_order : start ≤ last
  pub below_top : last ≤ profile.top

-- bounds of one of the profiles
pub record IsExtent (b : Extent) : Type 0 where
  pub bounds : AreBounds b.profile b.start b.last
  pub profile : IsProfile b.profile
