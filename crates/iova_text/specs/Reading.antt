-- How a line is parsed into its parts.
use Rattle.std.specs.Prelude.{ℕ, ◌==◌, Bool, true, not, List, [], ◌∷◌}

abbrev pub is_not_space : ℕ → Bool
is_not_space b = not (b == 32)

-- the bytes end, or go on with one that does not pass
abbrev pub stops : (ℕ → Bool) → List ℕ → Bool
stops passes [] = true
stops passes (b ∷ bs) = not (passes b)
