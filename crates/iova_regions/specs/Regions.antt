-- What regions keep back, and the result of a text of regions.
use Rattle.std.specs.Prelude.{ℕ, ◌≡◌, ◌≢◌, ◌+◌, ◌-◌, ◌/◌, ◌<◌, ◌⊎◌, ◌&&◌, ◌||◌, Bool, true, false, nat_le, List, [], ◌∷◌, ◌++◌, Option, Some, None, Result, Ok, Err, length, if◌then◌else◌}
use Rattle.std.specs.List.{list_any, AllByRecursion}
use Rattle.std.specs.Io.KnownBytes.{Consumes, IsAtEnd}
use Rattle.std.specs.Global.{Vec}
use Rattle.iova_range.specs.Frames.{Frames, covers}
use Rattle.iova_range.specs.Bounds.{Extent}
use Rattle.iova_range.specs.declared.limits.TheConstants.{FRAME_BYTES, MAX_WINDOWS}
use Rattle.iova_text.specs.Lines.{whole_line}
use Rattle.iova_regions.specs.declared.region.Region.{Region}
use Rattle.iova_regions.specs.declared.region.RegionKind.{RegionKind}
use Rattle.iova_regions.specs.declared.region.RegionKind.TheVariants as kind
use Rattle.iova_regions.specs.declared.region.Counted.{Counted}
use Rattle.iova_regions.specs.declared.region.Counted.TheVariants as counted
use Rattle.iova_regions.specs.declared.fault.RegionsFault.{RegionsFault}
use Rattle.iova_regions.specs.declared.fault.RegionsFault.TheVariants as fault
use Rattle.iova_regions.specs.Text.{IsRegion, region_text, regions_text}
use Rattle.iova_regions.specs.Windows.{windows_with, is_covered, is_between, part}

abbrev pub is_direct : RegionKind → Bool
is_direct kind.Direct = true
is_direct kind.DirectRelaxable = true
is_direct kind.Msi = false
is_direct kind.Reserved = false

abbrev pub counts : Counted → RegionKind → Bool
counts counted.All k = true
counts counted.NotDirect k = if is_direct k then false else true

-- the frames that the region has a byte in
abbrev pub frames_of : Region → Frames
frames_of r =
    record { lo = r.first / FRAME_BYTES; len = r.last / FRAME_BYTES + 1 - r.first / FRAME_BYTES }

abbrev pub with_part : Option Frames → List Frames → List Frames
with_part None ws = ws
with_part (Some r) ws = windows_with r ws

-- the windows after one region more: the part of a region that counts is inserted
abbrev pub windows_after : Counted → Extent → Region → List Frames → List Frames
windows_after which bounds r ws =
    if counts which r.kind then with_part (part (frames_of r) bounds.start bounds.last) ws else ws

-- the windows after these regions, one after another; none where one of them would make too many
abbrev pub after_all : Counted → Extent → List Region → List Frames → Option (List Frames)
after_all which bounds [] ws = Some ws
after_all which bounds (r ∷ rs) ws =
    let next = windows_after which bounds r ws in
    if nat_le (length next) MAX_WINDOWS then after_all which bounds rs next else None

-- a region that counts has a byte in the frame, which is within the bounds
abbrev pub keeps_back : Counted → Extent → ℕ → Region → Bool
keeps_back which bounds frame r =
    counts which r.kind && (covers frame (frames_of r) && is_between bounds.start bounds.last frame)

-- a window has the frame afterwards exactly where one had it before or a region keeps it back
abbrev pub Covers : Counted → Extent → List Region → List Frames → List Frames → Type 0
Covers which bounds rs old new =
    (frame : ℕ) → is_covered frame new ≡ (is_covered frame old
    || list_any (keeps_back which bounds frame) rs)

-- lines of these regions, whose windows there is room for
pub record AreTaken (which : Counted) (bounds : Extent) (rs : List Region)
    (old new : List Frames) : Type 0 where
  pub good : AllByRecursion IsRegion rs
  pub windows : after_all which bounds rs old ≡ Some new
  pub covers : Covers which bounds rs old new

-- the whole text is lines of regions
pub record IsReadWell (which : Counted) (bounds : Extent) (text : List ℕ)
    (old new : List Frames) : Type 0 where
  pub regions : List Region
  pub whole : text ≡ regions_text regions
  pub taken : AreTaken which bounds regions old new

-- no line of a region is at the front of these bytes, which are some
pub record IsNoRegion (rest : List ℕ) : Type 0 where
  pub some : rest ≢ []
  pub none : (r : Region) (more : List ℕ) → IsRegion r → rest ≢ whole_line (region_text r) ++ more

-- the line of a region is at the front of these bytes, and it would make too many windows
pub record HasNoRoom (which : Counted) (bounds : Extent) (rest : List ℕ)
    (ws : List Frames) : Type 0 where
  pub region : Region
  pub more : List ℕ
  pub line : rest ≡ whole_line (region_text region) ++ more
  pub good : IsRegion region
  pub full : MAX_WINDOWS < length (windows_after which bounds region ws)

-- the line with this number, counted from 1, is the first bad one: the regions of the lines before
-- it are taken
pub record StopsAt (which : Counted) (bounds : Extent) (text : List ℕ) (number : ℕ)
    (old new : List Frames) : Type 0 where
  pub regions : List Region
  pub rest : List ℕ
  pub whole : text ≡ regions_text regions ++ rest
  pub taken : AreTaken which bounds regions old new
  pub number_is : number ≡ length regions + 1
  pub bad : IsNoRegion rest ⊎ HasNoRoom which bounds rest new

-- what each answer says of a whole text
abbrev pub Reads : Counted → Extent → List ℕ → List Frames → List Frames → Result Unit RegionsFault
    → Type 0
Reads which bounds text old new (Ok u) = IsReadWell which bounds text old new
Reads which bounds text old new (Err (fault.Line number)) = StopsAt which bounds text number old new
Reads which bounds text old new (Err fault.NoMemory) = ⊥
Reads which bounds text old new (Err fault.Read) = ⊥

-- All bytes were taken, or some and then the fault came.
abbrev pub EndsReading : Option (List ℕ) → Option (List ℕ) → Result (Vec ℕ) RegionsFault → Type 0
EndsReading input left (Ok text) = Consumes input left text.items × IsAtEnd left
EndsReading input left (Err (fault.Line number)) = ⊥
EndsReading input left (Err fault.NoMemory) = (taken : List ℕ) × Consumes input left taken
EndsReading input left (Err fault.Read) = (taken : List ℕ) × Consumes input left taken

-- The windows have the regions of all bytes; where memory or a read failed, they are as they were.
abbrev pub TellsOfBytes : Counted → Extent → List ℕ → Option (List ℕ) → List Frames → List Frames
    → Result Unit RegionsFault → Type 0
TellsOfBytes which bounds taken left old new (Ok u) =
    IsAtEnd left × IsReadWell which bounds taken old new
TellsOfBytes which bounds taken left old new (Err (fault.Line number)) =
    IsAtEnd left × StopsAt which bounds taken number old new
TellsOfBytes which bounds taken left old new (Err fault.NoMemory) = new ≡ old
TellsOfBytes which bounds taken left old new (Err fault.Read) = new ≡ old

-- A reader before and after, where it tells its bytes: some were taken, all of them but where a
-- read fails or memory is refused.
pub record ReadsAll (which : Counted) (bounds : Extent) (input left : Option (List ℕ))
    (old new : List Frames) (answer : Result Unit RegionsFault) : Type 0 where
  pub taken : List ℕ
  pub takes : Consumes input left taken
  pub tells : TellsOfBytes which bounds taken left old new answer
