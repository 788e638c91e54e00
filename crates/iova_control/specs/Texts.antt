-- Lines that are put behind what stands there.
use Rattle.std.specs.Prelude.{ℕ, ◌++◌, List, [], ◌∷◌, codes, decimal, length}
use Rattle.memchr.specs.Find.{places, is_byte}

-- what a word of the control socket is answered: the word and how many lines follow, and these
abbrev pub answer_text : List ℕ → List ℕ → List ℕ
answer_text word text =
    word ++ 32 ∷ (decimal (length (places (is_byte 10) text)) ++ 10 ∷ text)

-- a line of a name and a word, and of a name and a number
abbrev pub word_line : List ℕ → List ℕ → List ℕ
word_line name word = name ++ (codes " " ++ (word ++ 10 ∷ []))

abbrev pub number_line : List ℕ → ℕ → List ℕ
number_line name number = word_line name (decimal number)
