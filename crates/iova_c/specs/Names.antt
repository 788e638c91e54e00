-- Names and sizes by number.
use Rattle.std.specs.Prelude.{ℕ, ◌≡◌, ◌≢◌, ◌⊎◌, List, [], ◌∷◌, ◌++◌, length, take, drop, slice_index_or}
use Rattle.iova_range.specs.declared.refusal.Refusal.{Refusal}
use Rattle.iova_range.specs.Refusals.{refusal_number, refusal_name}

-- the text with the bytes at its front, as many as it has room for, and what it had behind them
abbrev pub with_text : List ℕ → List ℕ → List ℕ
with_text text bytes = take (length text) bytes ++ drop (length bytes) text

-- the name of the refusal of this number is at the text's front, and this is how long it is; or no
-- refusal has the number
abbrev pub HasNamed : ℕ → List ℕ → ℕ → List ℕ → Type 0
HasNamed number old answer new =
    ((r : Refusal) × (refusal_number r ≡ number) × (answer ≡ length (refusal_name r))
    × (new ≡ with_text old (refusal_name r)))
    ⊎ (((r : Refusal) → refusal_number r ≢ number) × (answer ≡ 0) × (new ≡ old))

-- how many bytes each answer has, in the order of the header; 0 where a slot stands
abbrev pub type_size : ℕ → ℕ
type_size number =
    slice_index_or (0 ∷ 24 ∷ 16 ∷ 24 ∷ 24 ∷ 72 ∷ 32 ∷ 32 ∷ 48 ∷ 56 ∷ 16 ∷ 0 ∷ 72 ∷ 16 ∷ [])
    number 0

-- the library's version, 0.2.0: millions are its first number, thousands its second
abbrev pub version : ℕ
version = 2000
