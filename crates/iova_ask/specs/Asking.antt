-- What is sent of an input, and what is written of the answers to it.
use Rattle.std.specs.Prelude.{ℕ, ◌≡◌, ◌≢◌, ◌<◌, ◌⊎◌, List, [], ◌∷◌, ◌++◌, length, flat_map, codes, Option, Result, Ok, Err}
use Rattle.std.specs.List.{AllByRecursion}
use Rattle.std.specs.Io.KnownBytes.{Appends, Consumes, IsAtEnd}
use Rattle.iova_range.specs.declared.limits.TheConstants.{MAX_LINE}
use Rattle.iova_text.specs.Lines.{HasNoLf, IsUnended, IsOverlong, whole_line}
use Rattle.iova_text.specs.Writing.{AppendsFront}
use Rattle.iova_ask.specs.declared.fault.AskFault.{AskFault}
use Rattle.iova_ask.specs.declared.fault.AskFault.TheVariants as fault

-- a line that may be sent, without its LF
pub record IsLine (line : List ℕ) : Type 0 where
  pub one : HasNoLf line
  pub short : length line < MAX_LINE

abbrev pub AreLines : List (List ℕ) → Type 0
AreLines ls = AllByRecursion IsLine ls

-- the lines with their LFs
unfoldable pub lines_text : List (List ℕ) → List ℕ
lines_text ls = flat_map whole_line ls

abbrev pub bye : List ℕ
bye = codes "bye"

-- lines that may be sent, none of them bye
pub record AreOpen (ls : List (List ℕ)) : Type 0 where
  pub lines : AreLines ls
  pub byes : AllByRecursion (λ l. l ≢ bye) ls

-- lines that may be sent: the last is bye, and no other is
pub record EndByBye (ls : List (List ℕ)) : Type 0 where
  pub others : List (List ℕ)
  pub before : AreOpen others
  pub whole : ls ≡ others ++ bye ∷ []

-- the bytes begin with these lines
pub record BeginWith (bytes : List ℕ) (ls : List (List ℕ)) : Type 0 where
  pub rest : List ℕ
  pub whole : bytes ≡ lines_text ls ++ rest

-- the bytes are lines and a rest
pub record AreLinesAnd (bytes rest : List ℕ) (ls : List (List ℕ)) : Type 0 where
  pub good : AreOpen ls
  pub whole : bytes ≡ lines_text ls ++ rest

-- The input, of which this is left, was taken as far as its first bye, or it ended: after its
-- lines, or inside one, which got an LF.
abbrev pub IsWhole : List ℕ → Option (List ℕ) → List (List ℕ) → Type 0
IsWhole taken left ls =
    (EndByBye ls × BeginWith taken ls) ⊎ (IsAtEnd left × (AreLinesAnd taken [] ls
    ⊎ ((rest : List ℕ) × (others : List (List ℕ)) × AreLinesAnd taken rest others × IsLine rest
    × (ls ≡ others ++ rest ∷ []))))

-- some lines at the front of what was taken, the last with an LF of its own where the input ends
-- without one
abbrev pub AreInFront : List ℕ → List (List ℕ) → Type 0
AreInFront taken ls = BeginWith taken ls ⊎ BeginWith (taken ++ 10 ∷ []) ls

-- what was sent of an input, of which this was taken and this is left, and the answer
abbrev pub Sends : List ℕ → Option (List ℕ) → Option (List ℕ) → Option (List ℕ) → Result ℕ AskFault
    → Type 0
Sends taken left sent filled (Ok n) =
    (ls : List (List ℕ)) × IsWhole taken left ls × Appends sent filled (lines_text ls)
    × (n ≡ length ls)
Sends taken left sent filled (Err fault.Read) =
    (ls : List (List ℕ)) × (rest : List ℕ) × AreLinesAnd taken rest ls
    × (IsUnended rest ⊎ IsOverlong rest) × Appends sent filled (lines_text ls)
Sends taken left sent filled (Err other) =
    (ls : List (List ℕ)) × AreLines ls × AreInFront taken ls
    × AppendsFront sent filled (lines_text ls)

-- Some bytes were read from a link, and these written. What was kept and then read is what was
-- written and what is kept now.
pub record Passes (left after out filled : Option (List ℕ))
    (kept now_kept written : List ℕ) : Type 0 where
  pub got : List ℕ
  pub reads : Consumes left after got
  pub writes : Appends out filled written
  pub whole : kept ++ got ≡ written ++ now_kept

-- lines pass until the end of one of the streams, which comes early
abbrev pub Breaks : Option (List ℕ) → Option (List ℕ) → Option (List ℕ) → Option (List ℕ) → List ℕ
    → Type 0
Breaks left after out filled kept =
    (rest : List ℕ) × (written : List ℕ) × Passes left after out filled kept rest written
