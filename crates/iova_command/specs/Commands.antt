-- The commands of the program, as `clap` reads them: names, options and what each option takes.
use Rattle.std.specs.Prelude.{ℕ, ◌≡◌, ◌-◌, ◌^◌, ◌&&◌, nat_lt, Bool, true, false, List, [], ◌∷◌, Some, None, codes}
use Rattle.clap.specs.Words.{App, app_of, Rule, Text, new_app, new_rule, with_rule, with_subcommand}
use Rattle.clap.specs.declared.builder.command.Command.{Command}
use Rattle.clap.specs.declared.builder.command.Command.TheViews.{out-Command}
use Rattle.clap.specs.declared.builder.action.ArgAction.TheVariants.{Append, Set, SetTrue}
use Rattle.clap.specs.declared.builder.value_parser.ValueParser.TheVariants as parser
use Rattle.iova_range.specs.declared.limits.TheConstants.{DEFAULT_CLIENTS, DEFAULT_DOMAIN, DEFAULT_LAST, DEFAULT_START, DEFAULT_WORKERS, FRAME_BYTES, LAST_DOMAIN_ID, MAX_ANSWER_TIMEOUT, MAX_CLIENTS, MAX_DEPOT, MAX_DOMAINS, MAX_GRANULE, MAX_IDLE, MAX_PEER_WAIT, MAX_RECORDED_STEPS, MAX_REQUESTS, MAX_SESSION_REQUESTS, MAX_SESSIONS, MAX_SINK_TIMEOUT, MAX_WATCH_PAUSE, MAX_WORKERS, RECORDED_STEPS, SINK_TIMEOUT, WIDE_TOP}
use Rattle.iova_command.specs.declared.options.OptionRow.{OptionRow}
use Rattle.iova_command.specs.declared.options.Takes.{Takes}
use Rattle.iova_command.specs.declared.options.Takes.TheVariants.{Nothing, Path, WantedPath, Number, PowerOfTwo, Level, Label, Spans, Place, NumberPlace}

-- an argument that must be there, named by its place
abbrev pub place_rule : Text → Rule
place_rule id = record (new_rule id) { action = Some Set; value_names = 1; required = true }

-- an option that is there or not
abbrev pub flag_rule : Text → Rule
flag_rule id = record (new_rule id) { long = Some id; action = Some SetTrue }

-- an option with a value, and one that must be there
abbrev pub optional_rule : Text → Rule
optional_rule id = record (new_rule id) { long = Some id; action = Some Set; value_names = 1 }

abbrev pub option_rule : Text → Rule
option_rule id = record (optional_rule id) { required = true }

-- an option with a value, any number of times
abbrev pub repeated_rule : Text → Rule
repeated_rule id = record (optional_rule id) { action = Some Append }

-- a number from `low` to `high` that may be there, named by its place, and as an option
abbrev pub optional_place_rule : Text → ℕ → ℕ → Rule
optional_place_rule id low high =
    record (new_rule id) { action = Some Set; value_names = 1; parser = Some (parser.Unsigned low high) }

abbrev pub optional_number_rule : Text → ℕ → ℕ → Rule
optional_number_rule id low high = record (optional_place_rule id low high) { long = Some id }

-- an option or a place by its name, and what it takes
abbrev pub Taken : Type 0
Taken = Text × Takes

abbrev pub taken : OptionRow → Taken
taken row = (row.name.now, row.takes)

-- how clap reads it
abbrev pub rule_as : Text → Takes → Rule
rule_as name Nothing = flag_rule name
rule_as name Path = optional_rule name
rule_as name WantedPath = option_rule name
rule_as name (Number low high default) = optional_number_rule name low high
rule_as name (PowerOfTwo low high) = optional_number_rule name low high
rule_as name Level = optional_rule name
rule_as name Label = optional_rule name
rule_as name Spans = repeated_rule name
rule_as name Place = place_rule name
rule_as name (NumberPlace low high) = optional_place_rule name low high

abbrev pub option_rule_of : Taken → Rule
option_rule_of option = rule_as option.0 option.1

-- a command with these options too, in this order
abbrev pub with_options : App → List Taken → App
with_options app [] = app
with_options app (option ∷ options) =
    with_options (with_rule app (option_rule_of option)) options

-- the bounds of a number are below 2^63
abbrev pub is_parsable : Takes → Bool
is_parsable Nothing = true
is_parsable Path = true
is_parsable WantedPath = true
is_parsable (Number low high default) = nat_lt low (2 ^ 63) && nat_lt high (2 ^ 63)
is_parsable (PowerOfTwo low high) = nat_lt low (2 ^ 63) && nat_lt high (2 ^ 63)
is_parsable Level = true
is_parsable Label = true
is_parsable Spans = true
is_parsable Place = true
is_parsable (NumberPlace low high) = nat_lt low (2 ^ 63) && nat_lt high (2 ^ 63)

abbrev pub are_parsable : List Taken → Bool
are_parsable [] = true
are_parsable (option ∷ options) = is_parsable option.1 && are_parsable options

abbrev pub replay_options : List Taken
replay_options =
    (codes "report", Nothing)
    ∷ (codes "log", Path)
    ∷ (codes "file", Place)
    ∷ []

abbrev pub replay_app : App
replay_app = with_options (new_app (codes "replay")) replay_options

abbrev pub serve_options : List Taken
serve_options =
    (codes "socket", WantedPath)
    ∷ (codes "workers", Number 1 MAX_WORKERS (Some DEFAULT_WORKERS))
    ∷ (codes "clients", Number 1 MAX_CLIENTS (Some DEFAULT_CLIENTS))
    ∷ (codes "domain", Number 0 (MAX_DOMAINS - 1) (Some DEFAULT_DOMAIN))
    ∷ (codes "start", Number 1 WIDE_TOP (Some DEFAULT_START))
    ∷ (codes "last", Number 1 WIDE_TOP (Some DEFAULT_LAST))
    ∷ (codes "peer", Path)
    ∷ (codes "sink", Path)
    ∷ (codes "peer-wait", Number 0 MAX_PEER_WAIT None)
    ∷ (codes "sessions", Number 1 MAX_SESSIONS None)
    ∷ (codes "session-requests", Number 0 MAX_SESSION_REQUESTS (Some MAX_REQUESTS))
    ∷ (codes "idle", Number 1 MAX_IDLE None)
    ∷ (codes "depot", Number 0 MAX_DEPOT None)
    ∷ (codes "strict", Nothing)
    ∷ (codes "record", Path)
    ∷ (codes "record-steps", Number 1 MAX_RECORDED_STEPS (Some RECORDED_STEPS))
    ∷ (codes "reserve", Spans)
    ∷ (codes "reserved-regions", Path)
    ∷ (codes "sink-timeout", Number 1 MAX_SINK_TIMEOUT (Some SINK_TIMEOUT))
    ∷ (codes "log-level", Level)
    ∷ (codes "name", Label)
    ∷ (codes "control", Path)
    ∷ (codes "granule", PowerOfTwo FRAME_BYTES MAX_GRANULE)
    ∷ []

abbrev pub serve_app : App
serve_app = with_options (new_app (codes "serve")) serve_options

abbrev pub ask_options : List Taken
ask_options =
    (codes "timeout", Number 1 MAX_ANSWER_TIMEOUT None)
    ∷ (codes "path", Place)
    ∷ []

abbrev pub ask_app : App
ask_app = with_options (new_app (codes "ask")) ask_options

abbrev pub control_options : List Taken
control_options =
    (codes "timeout", Number 1 MAX_ANSWER_TIMEOUT None)
    ∷ (codes "top", Nothing)
    ∷ (codes "path", Place)
    ∷ (codes "word", Place)
    ∷ (codes "seconds", NumberPlace 1 MAX_WATCH_PAUSE)
    ∷ []

abbrev pub control_app : App
control_app = with_options (new_app (codes "control")) control_options

abbrev pub check_options : List Taken
check_options =
    (codes "quiet", Nothing)
    ∷ (codes "first", Number 0 WIDE_TOP None)
    ∷ (codes "last", Number 0 WIDE_TOP None)
    ∷ (codes "reserved-regions", Path)
    ∷ (codes "ftrace", Nothing)
    ∷ (codes "did", Number 0 LAST_DOMAIN_ID None)
    ∷ (codes "file", Place)
    ∷ []

abbrev pub check_app : App
check_app = with_options (new_app (codes "check")) check_options

-- the program's own name; it tells its version
abbrev pub with_version : App → App
with_version app = record app { top = record app.top { has_version = true } }

-- the program
abbrev pub iovad_app : App
iovad_app =
    with_subcommand (with_subcommand (with_subcommand
    (with_subcommand (with_subcommand (with_version (new_app (codes "iovad"))) replay_app.top)
    serve_app.top) ask_app.top) check_app.top) control_app.top

-- a command that is read so, with no option for all of its subcommands
pub record IsCommand (read : App) (c : Command) : Type 0 where
  pub app : app_of c ≡ read
  pub local : (out-Command c).has_globals ≡ false
