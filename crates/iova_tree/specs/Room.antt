-- The greatest size that fits aligned into a gap.
use Rattle.std.specs.Prelude.{ℕ, ◌≡◌, ◌+◌, ◌-◌, ◌*◌, ◌/◌, ◌%◌, ◌≤◌, ◌&&◌, Bool, nat_le, Option, Some, None}
use Rattle.iova_range.specs.Sizes.{align_of}
use Rattle.iova_model.specs.Fit.{greatest}

-- a range of `size` frames fits aligned into the frames from `from` on and below `until`
abbrev pub FitsBetween : ℕ → ℕ → ℕ → Type 0
FitsBetween from until size =
    (lo : ℕ) × (lo % align_of size ≡ 0) × (from ≤ lo) × (lo + size ≤ until)

-- whether a range fits so: the highest multiple from which it ends by `until` is the one to ask
abbrev pub fits_between : ℕ → ℕ → ℕ → Bool
fits_between from until size =
    nat_le size until && nat_le from ((until - size) / align_of size * align_of size)

abbrev pub or_zero : Option ℕ → ℕ
or_zero None = 0
or_zero (Some n) = n

-- the greatest size below `sizes` that fits aligned, or 0
abbrev pub room_for : ℕ → ℕ → ℕ → ℕ
room_for sizes from until = or_zero (greatest (fits_between from until) sizes)

-- the greatest size of a request, 1 to 1,048,576, that fits aligned into the frames from `from` on
-- and below `until`, or 0
unfoldable pub room : ℕ → ℕ → ℕ
room from until = room_for 1048577 from until
