-- How many bytes a frame has.
use Rattle.std.specs.Prelude.{ℕ, ◌≡◌, ◌≤◌, ◌^◌}
use Rattle.iova_range.specs.declared.limits.TheConstants.{FRAME_BYTES, MAX_GRANULE}

-- a power of two from 4 KiB to 2 MiB
abbrev pub IsGranule : ℕ → Type 0
IsGranule bytes = (order : ℕ) × (12 ≤ order) × (order ≤ 21) × (bytes ≡ 2 ^ order)

-- so many bytes, which are this power of two
pub record IsShifted (bytes shift : ℕ) : Type 0 where
  pub power : bytes ≡ 2 ^ shift
  pub twelve : 12 ≤ shift
  pub twenty_one : shift ≤ 21
  pub least : FRAME_BYTES ≤ bytes
  pub most : bytes ≤ MAX_GRANULE
