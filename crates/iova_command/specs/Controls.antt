-- The words of a control socket.
use Rattle.std.specs.Prelude.{◌≡◌, ◌≢◌, List, Option, Some, None, codes}
use Rattle.clap.specs.Words.{Row, Text, first_of}
use Rattle.iova_command.specs.declared.control_word.ControlWord.{ControlWord}
use Rattle.iova_command.specs.declared.control_word.ControlWord.TheVariants.{Report, Sessions, Metrics, Info, Stop}

-- the text of a word
abbrev pub control_name : ControlWord → Text
control_name Report = codes "report"
control_name Sessions = codes "sessions"
control_name Metrics = codes "metrics"
control_name Info = codes "info"
control_name Stop = codes "stop"

-- the word of a text, which is none where no word has that text
abbrev pub IsControlOf : Text → Option ControlWord → Type 0
IsControlOf text None = (word : ControlWord) → text ≢ control_name word
IsControlOf text (Some word) = text ≡ control_name word

-- the argument has the text of this word
abbrev pub HasControl : List Row → Text → ControlWord → Type 0
HasControl rows id word = first_of id rows ≡ Some (control_name word)
