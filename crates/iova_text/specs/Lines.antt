-- Lines in bytes: one ends by LF, and has at most 128 bytes with it.
use Rattle.std.specs.Prelude.{ℕ, ◌≡◌, ◌<◌, ◌≤◌, ◌==◌, Bool, true, not, List, [], ◌∷◌, ◌++◌, length, take}
use Rattle.std.specs.List.{list_all}
use Rattle.iova_range.specs.declared.limits.TheConstants.{MAX_LINE}

abbrev pub is_not_lf : ℕ → Bool
is_not_lf b = not (b == 10)

-- no byte of them ends a line
abbrev pub HasNoLf : List ℕ → Type 0
HasNoLf bytes = list_all is_not_lf bytes ≡ true

-- a line with its LF
abbrev pub whole_line : List ℕ → List ℕ
whole_line line = line ++ 10 ∷ []

-- what has come of a line that has not ended: it is shorter than the longest line
pub record IsUnended (bytes : List ℕ) : Type 0 where
  pub one : HasNoLf bytes
  pub short : length bytes < MAX_LINE

-- as many bytes as the longest line has, and none of them ends a line, whatever comes after them
pub record IsOverlong (bytes : List ℕ) : Type 0 where
  pub one : HasNoLf (take MAX_LINE bytes)
  pub long : MAX_LINE ≤ length bytes

-- the bytes begin with a whole line that is odd
pub record BeginsOdd (IsOdd : List ℕ → Type 0) (bytes : List ℕ) : Type 0 where
  pub line : List ℕ
  pub more : List ℕ
  pub whole : bytes ≡ whole_line line ++ more
  pub one : HasNoLf line
  pub odd : IsOdd line
