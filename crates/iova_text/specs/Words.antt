-- A line of words: one space stands before each but the first.
use Rattle.std.specs.Prelude.{ℕ, Bool, true, false, List, [], ◌∷◌, ◌++◌, map, decimal, codes}
use Rattle.iova_range.specs.declared.refusal.Refusal.{Refusal}
use Rattle.iova_range.specs.Refusals.{refusal_number, refusal_name}

-- each word with a space before it
abbrev pub spaced_words : List (List ℕ) → List ℕ
spaced_words [] = []
spaced_words (w ∷ ws) = 32 ∷ (w ++ spaced_words ws)

-- a word and its arguments
abbrev pub line_text : List ℕ → List (List ℕ) → List ℕ
line_text word arguments = word ++ spaced_words arguments

-- a word and numbers
abbrev pub numbers_line : List ℕ → List ℕ → List ℕ
numbers_line word ns = line_text word (map decimal ns)

-- the line of a refusal without its LF: a word, its number and its name
abbrev pub refusal_line : Refusal → List ℕ
refusal_line r = line_text (codes "no") (decimal (refusal_number r) ∷ refusal_name r ∷ [])

-- the word for a client that asks below 4 GiB first, and for another
abbrev pub kind_text : Bool → List ℕ
kind_text true = codes "sac"
kind_text false = codes "dac"
