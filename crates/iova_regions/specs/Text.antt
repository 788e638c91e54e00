-- The text of `reserved_regions`: a line for each region, all of it ASCII.
-- Linux 5.15 drivers/iommu/iommu.c: iommu_group_show_resv_regions
use Rattle.std.specs.Prelude.{ℕ, zero, suc, ◌+◌, ◌/◌, ◌%◌, ◌<◌, ◌≤◌, ◌^◌, nat_lt, List, [], ◌∷◌, ◌++◌, codes, if◌then◌else◌}
use Rattle.iova_text.specs.Lines.{whole_line}
use Rattle.iova_regions.specs.declared.region.Region.{Region}
use Rattle.iova_regions.specs.declared.region.RegionKind.{RegionKind}
use Rattle.iova_regions.specs.declared.region.RegionKind.TheVariants as kind

-- a digit 0 to 15, as 0-9 and a-f
abbrev pub hex_digit : ℕ → ℕ
hex_digit d = if nat_lt d 10 then 48 + d else 87 + d

-- so many hexadecimal digits, those of the number's end
abbrev pub hex_digits : ℕ → ℕ → List ℕ
hex_digits zero n = []
hex_digits (suc count) n = hex_digits count (n / 16) ++ hex_digit (n % 16) ∷ []

-- a number of 64 bits: 0x and all its 16 digits
unfoldable pub address_text : ℕ → List ℕ
address_text n = codes "0x" ++ hex_digits 16 n

abbrev pub kind_text : RegionKind → List ℕ
kind_text kind.Direct = codes "direct"
kind_text kind.DirectRelaxable = codes "direct-relaxable"
kind_text kind.Msi = codes "msi"
kind_text kind.Reserved = codes "reserved"

-- a region's line without its LF: the first byte, the last byte, and what it is
abbrev pub region_text : Region → List ℕ
region_text r = address_text r.first ++ 32 ∷ (address_text r.last ++ 32 ∷ kind_text r.kind)

-- bytes that 64 bits can name, the first not above the last
pub record IsRegion (r : Region) : Type 0 where
  pub in_order : r.first ≤ r.last
  pub fits : r.last < 2 ^ 64

-- a line for each
abbrev pub regions_text : List Region → List ℕ
regions_text [] = []
regions_text (r ∷ rs) = whole_line (region_text r) ++ regions_text rs
