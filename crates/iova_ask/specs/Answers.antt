-- The answers to lines, and how many lines each has.
use Rattle.std.specs.Prelude.{ℕ, ◌≡◌, ◌≢◌, ◌<◌, ◌^◌, ◌⊎◌, List, ◌∷◌, ◌++◌, length, flat_map, decimal, codes}
use Rattle.std.specs.List.{AllByRecursion}
use Rattle.iova_ask.specs.Asking.{AreLines, lines_text}
use Rattle.iova_ask.specs.declared.answers.Owed.{Owed}

-- How many lines go on an answer that begins with this line: n after `held n`, and none after any
-- other.
abbrev pub HasLinesAfter : List ℕ → ℕ → Type 0
HasLinesAfter line n =
    (line ≡ codes "held " ++ decimal n)
    ⊎ ((n ≡ 0) × ((k : ℕ) → k < 2 ^ 64 → line ≢ codes "held " ++ decimal k))

-- the lines of one answer: the first, and as many as go on it
pub record IsWholeAnswer (ls : List (List ℕ)) : Type 0 where
  pub first : List ℕ
  pub others : List (List ℕ)
  pub whole : ls ≡ first ∷ others
  pub count : HasLinesAfter first (length others)

-- the lines are so many answers, one after the other
pub record AreWholeAnswers (n : ℕ) (ls : List (List ℕ)) : Type 0 where
  pub answers : List (List (List ℕ))
  pub lines : AreLines ls
  pub each : AllByRecursion IsWholeAnswer answers
  pub whole : ls ≡ flat_map (λ answer. answer) answers
  pub count : n ≡ length answers

-- the lines that are still to come: those that go on an answer that has begun, and so many answers
pub record AreOwed (owed : Owed) (ls : List (List ℕ)) : Type 0 where
  pub front : List (List ℕ)
  pub rest : List (List ℕ)
  pub whole : ls ≡ front ++ rest
  pub lines : AreLines front
  pub ranges : owed.ranges ≡ length front
  pub answers : AreWholeAnswers owed.answers rest

-- after these lines that much is still to come
abbrev pub LeavesOwed : Owed → List (List ℕ) → Owed → Type 0
LeavesOwed owed ls left = (more : List (List ℕ)) → AreOwed left more → AreOwed owed (ls ++ more)

-- the lines at the front of the bytes that were owed, and what is owed after them
pub record IsAnswered (bytes : List ℕ) (owed : Owed) (len : ℕ) (left : Owed) : Type 0 where
  pub ls : List (List ℕ)
  pub rest : List ℕ
  pub whole : bytes ≡ lines_text ls ++ rest
  pub len_is : len ≡ length (lines_text ls)
  pub leaves : LeavesOwed owed ls left
