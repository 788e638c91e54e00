-- A count that is kept as a snapshot of what it was.
use Rattle.std.specs.Prelude.{ℕ, ◌≡◌, ◌+◌, Option, Some, None, Result, MatchResult}
use Rattle.std.specs.declared.snapshot.Snapshot.{Snapshot}

-- one more than before
abbrev pub count_of : Option (Snapshot ℕ) → ℕ
count_of None = 0
count_of (Some before) = before.value + 1

-- one more after a call that failed, and no more after another
abbrev pub CountsFailure : {A B : Type 0} → Result A B → ℕ → ℕ → Type 0
CountsFailure result old new = MatchResult result (λ v. new ≡ old) (λ e. new ≡ old + 1)
