-- The numbers that stand in a domain's report.
use Rattle.std.specs.Prelude.{ℕ, ◌≡◌, ◌<◌, ◌^◌, ◌==◌, List, [], ◌∷◌, ◌++◌, codes, decimal, if◌then◌else◌}
use Rattle.iova_control.specs.declared.metrics.Numbers.{Numbers}
use Rattle.iova_control.specs.Infos.{HasNoLf, first_line, behind_line}

abbrev pub behind_spaces : List ℕ → List ℕ
behind_spaces [] = []
behind_spaces (b ∷ bs) = if b == 32 then behind_spaces bs else b ∷ bs

-- a line is this name and this number, with one space between them or more
abbrev pub IsField : List ℕ → ℕ → List ℕ → Type 0
IsField name n line =
    (n < 2 ^ 64) × ((rest : List ℕ) × (line ≡ name ++ 32 ∷ rest) × (behind_spaces rest ≡ decimal n))

-- the number behind this name in the first whole line that has one, 0 where none has
pub data NumberIn (name : List ℕ) : List ℕ → ℕ → Type 0 where
  none : (report : List ℕ) → HasNoLf report
      → NumberIn name report 0
  here : (report : List ℕ) (n : ℕ) → IsField name n (first_line report)
      → NumberIn name report n
  later : (report : List ℕ) (n : ℕ)
      → ((m : ℕ) → IsField name m (first_line report) → ⊥)
      → NumberIn name (behind_line report) n → NumberIn name report n

-- each of these stands behind its name
pub record AreNumbersOf (report : List ℕ) (n : Numbers) : Type 0 where
  pub free : NumberIn (codes "free") report n.free
  pub reserved : NumberIn (codes "reserved") report n.reserved
  pub client : NumberIn (codes "client") report n.client
  pub magazine : NumberIn (codes "magazine") report n.magazine
  pub depot : NumberIn (codes "depot") report n.depot
  pub ring : NumberIn (codes "ring") report n.ring
  pub start : NumberIn (codes "start") report n.start
  pub finish : NumberIn (codes "finish") report n.finish
  pub owed : NumberIn (codes "owed") report n.owed
