-- What one piece of a stream gives after what was kept.
use Rattle.std.specs.Prelude.{ℕ, ◌≡◌, ◌≤◌, ◌⊎◌, if◌then◌else◌, Bool, true, false, List, [], ◌++◌, length, take, Option, Some, None}
use Rattle.iova_text.specs.Lines.{whole_line, IsUnended, IsOverlong, BeginsOdd}
use Rattle.iova_proto.specs.declared.request.Request.{Request}
use Rattle.iova_proto.specs.declared.fed.Fed.{Fed}
use Rattle.iova_proto.specs.declared.fed.Fed.TheVariants as fed
use Rattle.iova_proto.specs.Requests.{Spells}

-- this line, which is without its LF, is no request's
abbrev pub IsNoRequest : List ℕ → Type 0
IsNoRequest line = (r : Request) → Spells (whole_line line) r → ⊥

-- the bytes begin with a whole line that is no request's, or with as many bytes as the longest line
-- has, and no LF among them
abbrev pub BeginsBad : List ℕ → Type 0
BeginsBad bytes = BeginsOdd IsNoRequest bytes ⊎ IsOverlong bytes

-- the bytes that are kept and so many of the piece, one at least, are the line of this request, and
-- nothing is kept after it
pub record EndsLine (kept piece : List ℕ) (r : Request) (used : ℕ)
    (next : Option (List ℕ)) : Type 0 where
  pub some : 1 ≤ used
  pub within : used ≤ length piece
  pub spells : Spells (kept ++ take used piece) r
  pub next_is : next ≡ Some []

-- What a piece gives after these bytes of a line that has not ended, and what is kept then: nothing
-- more after a bad line.
abbrev pub Feeds : List ℕ → List ℕ → Fed → Option (List ℕ) → Type 0
Feeds kept piece (fed.Request r used) next = EndsLine kept piece r used next
Feeds kept piece fed.More next = IsUnended (kept ++ piece) × (next ≡ Some (kept ++ piece))
Feeds kept piece fed.Bad next = BeginsBad (kept ++ piece) × (next ≡ None)

abbrev pub is_bad : Fed → Bool
is_bad (fed.Request r used) = false
is_bad fed.More = false
is_bad fed.Bad = true

-- what is kept after what a piece gave, where the buffer has these bytes
abbrev pub state_behind : Fed → List ℕ → Option (List ℕ)
state_behind f kept = if is_bad f then None else Some kept
