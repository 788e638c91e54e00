-- Two numbers with a `-` between them.
use Rattle.std.specs.Prelude.{ℕ, ◌≤◌, ◌<◌, ◌^◌, List, ◌∷◌, ◌++◌, decimal}

abbrev pub span_text : ℕ → ℕ → List ℕ
span_text first last = decimal first ++ 45 ∷ decimal last

-- numbers of 64 bits, the first at most the last
pub record IsSpan (first last : ℕ) : Type 0 where
  pub in_order : first ≤ last
  pub fits : last < 2 ^ 64
