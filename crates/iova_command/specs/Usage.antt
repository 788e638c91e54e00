-- How words that ask for nothing end the process.
use Rattle.std.specs.Prelude.{ℕ}
use Rattle.clap.specs.declared.error.kind.ErrorKind.{ErrorKind}
use Rattle.clap.specs.declared.error.kind.ErrorKind.TheVariants as kind

-- help is no fault
abbrev pub words_status : ErrorKind → ℕ
words_status kind.DisplayHelp = 0
words_status kind.DisplayVersion = 0
words_status other = 2
