-- What contracts see of links.
use Rattle.std.specs.Prelude.{ℕ, ◌≡◌, ◌+◌, ◌<◌, List, Result, MatchResult}

-- how the ends are counted at a read that answers this, where there is room for so many bytes
abbrev pub CountsEnds : {E : Type 0} → Result ℕ E → ℕ → ℕ → ℕ → Type 0
CountsEnds result room old new =
    MatchResult result (λ n. (0 < n → new ≡ old) × (n ≡ 0 → 0 < room → new ≡ old + 1))
    (λ e. new ≡ old)

-- a link in memory: the bytes that are left and those that were written, how many it moves at a
-- time, the call that fails, and how many calls there were, reads among them, failures, and reads
-- that found the end
pub record Wire : Type 0 where
  pub left : List ℕ
  pub sent : List ℕ
  pub most : ℕ
  pub fail_at : ℕ
  pub calls : ℕ
  pub reads : ℕ
  pub failures : ℕ
  pub ends : ℕ

-- a link whose bytes are not known: the numbers of its calls, its reads, its failures, and its
-- reads that found the end
pub record LinkCounts : Type 0 where
  pub calls : ℕ
  pub reads : ℕ
  pub failures : ℕ
  pub ends : ℕ
