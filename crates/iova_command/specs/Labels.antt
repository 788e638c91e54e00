-- Labels, and the options that take one.
use Rattle.std.specs.Prelude.{ℕ, ◌≡◌, ◌&&◌, ◌==◌, not, nat_lt, nat_le, Bool, true, List, [], ◌∷◌, Some, length}
use Rattle.clap.specs.Words.{Row, Text, first_of}
use Rattle.iova_range.specs.declared.limits.TheConstants.{MAX_DAEMON_NAME}
use Rattle.iova_command.specs.Commands.{Taken}
use Rattle.iova_command.specs.declared.options.Takes.TheVariants.{Label}

-- a visible character of ASCII, but for quotes and backslashes
abbrev pub is_label_byte : ℕ → Bool
is_label_byte b = nat_lt 32 b && (nat_lt b 127 && (not (b == 34) && not (b == 92)))

abbrev pub are_label_bytes : List ℕ → Bool
are_label_bytes [] = true
are_label_bytes (b ∷ bytes) = is_label_byte b && are_label_bytes bytes

-- one of them at least, and no more than a name may have
abbrev pub is_label : Text → Bool
is_label text =
    nat_lt 0 (length text) && (nat_le (length text) MAX_DAEMON_NAME && are_label_bytes text)

-- an option that takes a label has one, where it is there
abbrev pub HasLabel : List Row → Text → Type 0
HasLabel rows name = (text : Text) → first_of name rows ≡ Some text → is_label text ≡ true

abbrev pub IsRight : List Row → Taken → Type 0
IsRight rows option = option.1 ≡ Label → HasLabel rows option.0

abbrev pub AreRight : List Row → List Taken → Type 0
AreRight rows [] = Unit {0}
AreRight rows (option ∷ options) = IsRight rows option × AreRight rows options
