-- The number that an option has.
use Rattle.std.specs.Prelude.{ℕ, ◌≡◌, ◌≢◌, ◌≤◌, ◌==◌, Bool, false, List, [], ◌∷◌, Option, Some, None, Ok}
use Rattle.std.specs.declared.num.ParseIntError.{ParseIntError}
use Rattle.std.specs.Str.Parse.{ParsesUnsigned}
use Rattle.clap.specs.Words.{Row, Text, first_of, one_of}
use Rattle.iova_command.specs.declared.options.Takes.{Takes}
use Rattle.iova_command.specs.declared.options.Takes.TheVariants.{Nothing, Path, WantedPath, Number, PowerOfTwo, Level, Label, Spans, Place, NumberPlace}

-- a text begins with the sign +
abbrev pub begins_with_plus : Text → Bool
begins_with_plus [] = false
begins_with_plus (b ∷ bytes) = b == 43

-- the option's text, where it has one, has no such sign
abbrev pub IsPlain : List Row → Text → Type 0
IsPlain rows id = (text : Text) → first_of id rows ≡ Some text → begins_with_plus text ≡ false

-- the option has a text, which is the number in decimal digits, maybe with a sign + in front
abbrev pub ParsesNumber : List Row → Text → ℕ → Type 0
ParsesNumber rows id n =
    (text : Text) × (one_of id rows ≡ Some text)
    × ParsesUnsigned {E = ParseIntError} 64 10 text (Ok n)

-- the number that the option's text is, where it has one that is a number
abbrev pub ParsesOptional : List Row → Text → Option ℕ → Type 0
ParsesOptional rows id (Some n) = ParsesNumber rows id n
ParsesOptional rows id None = (n : ℕ) → ¬ ParsesNumber rows id n

-- the option has a text, which is the number in decimal digits without a sign
abbrev pub HasNumber : List Row → Text → ℕ → Type 0
HasNumber rows id n = ParsesNumber rows id n × IsPlain rows id

-- the number of an option that may be left out, which is this one then, and none but the option's
-- own where it is there
abbrev pub HasNumberOr : List Row → Text → ℕ → ℕ → Type 0
HasNumberOr rows id default n =
    (first_of id rows ≡ None → n ≡ default) × (first_of id rows ≢ None → HasNumber rows id n)

-- the number of an option that may be missing
abbrev pub HasOptional : List Row → Text → Option ℕ → Type 0
HasOptional rows id (Some n) = HasNumber rows id n
HasOptional rows id None = (n : ℕ) → ¬ ParsesNumber rows id n

-- what an option takes has a range, and this number is in it
abbrev pub IsInRange : Takes → ℕ → Type 0
IsInRange Nothing n = ⊥
IsInRange Path n = ⊥
IsInRange WantedPath n = ⊥
IsInRange (Number low high default) n = (low ≤ n) × (n ≤ high)
IsInRange (PowerOfTwo low high) n = (low ≤ n) × (n ≤ high)
IsInRange Level n = ⊥
IsInRange Label n = ⊥
IsInRange Spans n = ⊥
IsInRange Place n = ⊥
IsInRange (NumberPlace low high) n = (low ≤ n) × (n ≤ high)

-- the number that is used without the option
abbrev pub default_of : Takes → Option ℕ
default_of Nothing = None
default_of Path = None
default_of WantedPath = None
default_of (Number low high default) = default
default_of (PowerOfTwo low high) = None
default_of Level = None
default_of Label = None
default_of Spans = None
default_of Place = None
default_of (NumberPlace low high) = None
