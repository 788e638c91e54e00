-- Definitions of a history, and of the hands that write it. A history is a list of entries, each
-- with the number of its hand.
use Rattle.std.specs.Prelude.{ℕ, ◌≡◌, ◌+◌, ◌<◌, ◌==◌, List, [], ◌∷◌, map, if◌then◌else◌, slice_get, Some}

-- the entries, each with the number of this hand
abbrev pub marks : {E : Type 0} → ℕ → List E → List (ℕ × E)
marks i xs = map (λ x. (i, x)) xs

-- the entries of the hand with this number
abbrev pub of_hand : {E : Type 0} → ℕ → List (ℕ × E) → List E
of_hand i [] = []
of_hand i (e ∷ es) = if e.0 == i then e.1 ∷ of_hand i es else of_hand i es

-- the entries, without the numbers
abbrev pub entries_of : {E : Type 0} → List (ℕ × E) → List E
entries_of es = map (λ e. e.1) es

-- each number is below n, so each entry is of one of n hands
abbrev pub AreMarked : {E : Type 0} → ℕ → List (ℕ × E) → Type 0
AreMarked n [] = Unit {0}
AreMarked n (e ∷ es) = (e.0 < n) × AreMarked n es

-- The names of a row are a part of the names of all hands. The part begins at the number of the
-- row's first hand.
abbrev pub IsRow : List ℕ → ℕ → List ℕ → Type 0
IsRow hands first names =
    (i d : ℕ) → slice_get names i ≡ Some d → slice_get hands (first + i) ≡ Some d
