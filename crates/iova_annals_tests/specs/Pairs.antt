-- The view of an entry.
use Rattle.std.specs.Prelude.{ℕ}

pub record Pair : Type 0 where
  pub asked : ℕ
  pub answered : ℕ
