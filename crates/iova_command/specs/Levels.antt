-- The level of an option.
use Rattle.std.specs.Prelude.{◌≡◌, ◌≢◌, Bool, true, false, List, Option, Some, None, codes}
use Rattle.clap.specs.Words.{Row, Text, first_of}
use Rattle.log.specs.declared.level.LevelFilter.{LevelFilter}
use Rattle.log.specs.declared.level.LevelFilter.TheVariants.{Off, Error, Warn, Info, Debug, Trace}

-- the name of a level
abbrev pub level_name : LevelFilter → Text
level_name Off = codes "off"
level_name Error = codes "error"
level_name Warn = codes "warn"
level_name Info = codes "info"
level_name Debug = codes "debug"
level_name Trace = codes "trace"

-- the four that an option may name
abbrev pub is_choice : LevelFilter → Bool
is_choice Off = false
is_choice Error = true
is_choice Warn = true
is_choice Info = true
is_choice Debug = true
is_choice Trace = false

-- the level of a text, which is none where none of the four has that name
abbrev pub IsChoiceOf : Text → Option LevelFilter → Type 0
IsChoiceOf text None = (level : LevelFilter) → is_choice level ≡ true → text ≢ level_name level
IsChoiceOf text (Some level) = (is_choice level ≡ true) × (text ≡ level_name level)

-- warnings where none is named
abbrev pub IsLevelOf : Option Text → LevelFilter → Type 0
IsLevelOf None level = level ≡ Warn
IsLevelOf (Some text) level = IsChoiceOf text (Some level)

-- the level that the option names
abbrev pub HasLevel : List Row → Text → LevelFilter → Type 0
HasLevel rows id level = IsLevelOf (first_of id rows) level
