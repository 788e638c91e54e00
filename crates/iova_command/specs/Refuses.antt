-- When words are refused, and how.
use Rattle.std.specs.Prelude.{ℕ, ◌≡◌, ◌⊎◌, [], Result, Ok, Err}
use Rattle.clap.specs.Words.{IsAmong, Kinds}
use Rattle.clap.specs.declared.error.kind.ErrorKind.{ErrorKind}
use Rattle.iova_command.specs.declared.asked.Asked.{Asked}
use Rattle.iova_command.specs.declared.usage.WordsFault.{WordsFault}
use Rattle.iova_command.specs.declared.usage.WordsFault.TheVariants.{Usage, NoMemory}
use Rattle.iova_command.specs.Usage.{words_status}

-- words with these faults end the process with this status: that of one of them; and that of words
-- which aren't understood where they have none, but a value of theirs is out of reach
abbrev pub EndsWithStatus : Kinds → ℕ → Type 0
EndsWithStatus kinds status =
    ((kind : ErrorKind) × IsAmong kind kinds × (status ≡ words_status kind))
    ⊎ ((kinds ≡ []) × (status ≡ 2))

-- what is answered to words with these faults
abbrev pub RefusesBy : Kinds → Result Asked WordsFault → Type 0
RefusesBy kinds (Ok asked) = kinds ≡ []
RefusesBy kinds (Err (Usage status)) = EndsWithStatus kinds status
RefusesBy kinds (Err NoMemory) = Unit {0}

-- words that are not understood, or memory
abbrev pub IsNotUnderstood : WordsFault → Type 0
IsNotUnderstood (Usage status) = status ≡ 2
IsNotUnderstood NoMemory = Unit {0}
