-- What matched words ask for.
use Rattle.std.specs.Prelude.{◌≡◌, ◌≢◌, Bool, true, false, List, Option, Some, None, option_map, option_and_then, find, codes}
use Rattle.std.specs.Str.{bytes_eq}
use Rattle.clap.specs.declared.parser.matches.ValueSource.TheVariants.{CommandLine}
use Rattle.clap.specs.Words.{Row, Text, first_of, one_of}
use Rattle.iova_range.specs.declared.limits.TheConstants.{DEFAULT_DOMAIN, DEFAULT_LAST, DEFAULT_START, DEFAULT_WORKERS}
use Rattle.iova_command.specs.Controls.{HasControl}
use Rattle.iova_command.specs.Commands.{serve_options}
use Rattle.iova_command.specs.Labels.{AreRight}
use Rattle.iova_command.specs.Levels.{HasLevel}
use Rattle.iova_command.specs.Numbers.{HasNumberOr, HasOptional}
use Rattle.iova_command.specs.Sinks.{HasSink}
use Rattle.iova_command.specs.Spans.{HasSpans}
use Rattle.iova_command.specs.declared.asked.Asked.{Asked}
use Rattle.iova_command.specs.declared.asked.Asked.TheVariants.{Replay, Serve, Ask, Check, Control, Watch}
use Rattle.iova_command.specs.declared.check_plan.CheckPlan.{CheckPlan}
use Rattle.iova_command.specs.declared.plan.Plan.{Plan}

-- the words have the option, which isn't there by a default
abbrev pub IsGiven : List Row → Text → Type 0
IsGiven rows id =
    option_and_then (λ row. row.source) (find (λ row. bytes_eq row.id id) rows) ≡ Some CommandLine

-- the flag is there
abbrev pub HasFlag : List Row → Text → Bool → Type 0
HasFlag rows id flag =
    (one_of id rows ≡ Some (codes "true") → flag ≡ true)
    × (one_of id rows ≡ Some (codes "false") → flag ≡ false)

-- each part of the plan is the option of its name; workers, domain and bounds that are left out are
-- those of the limits
pub record Plans (rows : List Row) (plan : Plan) : Type 0 where
  pub socket : first_of (codes "socket") rows ≡ Some plan.socket.now
  pub workers : HasNumberOr rows (codes "workers") DEFAULT_WORKERS plan.workers
  pub clients : HasOptional rows (codes "clients") plan.clients
  pub domain : HasNumberOr rows (codes "domain") DEFAULT_DOMAIN plan.domain
  pub start : HasNumberOr rows (codes "start") DEFAULT_START plan.start
  pub last : HasNumberOr rows (codes "last") DEFAULT_LAST plan.last
  pub sink : HasSink rows plan.sink
  pub peer_wait : HasOptional rows (codes "peer-wait") plan.peer_wait
  pub sessions : HasOptional rows (codes "sessions") plan.sessions
  pub session_requests : HasOptional rows (codes "session-requests") plan.session_requests
  pub idle : HasOptional rows (codes "idle") plan.idle
  pub depot : HasOptional rows (codes "depot") plan.depot
  pub strict : HasFlag rows (codes "strict") plan.strict
  pub record_path : first_of (codes "record") rows ≡ option_map (λ path. path.now) plan.record
  pub record_steps : HasOptional rows (codes "record-steps") plan.record_steps
  pub windows : HasSpans rows (codes "reserve") plan.start plan.last plan.windows
  pub regions : first_of (codes "reserved-regions") rows
      ≡ option_map (λ path. path.now) plan.regions
  pub sink_timeout : HasOptional rows (codes "sink-timeout") plan.sink_timeout
  pub log_level : HasLevel rows (codes "log-level") plan.log_level
  pub control : first_of (codes "control") rows ≡ option_map (λ path. path.now) plan.control
  pub granule : HasOptional rows (codes "granule") plan.granule

-- each part of a check is the option of its name
pub record PlansCheck (rows : List Row) (plan : CheckPlan) : Type 0 where
  pub path : first_of (codes "file") rows ≡ Some plan.path.now
  pub quiet : HasFlag rows (codes "quiet") plan.quiet
  pub first : HasOptional rows (codes "first") plan.first
  pub last : HasOptional rows (codes "last") plan.last
  pub regions : first_of (codes "reserved-regions") rows
      ≡ option_map (λ path. path.now) plan.regions
  pub ftrace : HasFlag rows (codes "ftrace") plan.ftrace
  pub did : HasOptional rows (codes "did") plan.did

-- a subcommand of this name and what it matched ask for this
abbrev pub AsksOf : Text → List Row → Asked → Type 0
AsksOf name rows (Replay path has_report log) =
    (name ≢ codes "serve") × (name ≢ codes "ask") × (name ≢ codes "check")
    × (name ≢ codes "control") × (first_of (codes "file") rows ≡ Some path.now)
    × HasFlag rows (codes "report") has_report
    × (first_of (codes "log") rows ≡ option_map (λ log. log.now) log)
AsksOf name rows (Serve plan said) =
    (name ≡ codes "serve") × Plans rows plan × (said ≡ rows)
    × AreRight rows serve_options
AsksOf name rows (Ask path timeout) =
    (name ≡ codes "ask") × (first_of (codes "path") rows ≡ Some path.now)
    × HasOptional rows (codes "timeout") timeout
AsksOf name rows (Check plan) = (name ≡ codes "check") × PlansCheck rows plan
AsksOf name rows (Control path word timeout) =
    (name ≡ codes "control") × (first_of (codes "path") rows ≡ Some path.now)
    × HasControl rows (codes "word") word × HasOptional rows (codes "timeout") timeout
    × HasOptional rows (codes "seconds") None × HasFlag rows (codes "top") false
AsksOf name rows (Watch path seconds is_top timeout) =
    (name ≡ codes "control") × (first_of (codes "path") rows ≡ Some path.now)
    × (first_of (codes "word") rows ≡ Some (codes "watch"))
    × HasOptional rows (codes "timeout") timeout
    × HasOptional rows (codes "seconds") seconds × HasFlag rows (codes "top") is_top

-- what matched words ask for; no subcommand asks for a replay of standard input
abbrev pub AsksFor : Option (Text × List Row) → Asked → Type 0
AsksFor None (Replay path has_report log) =
    (path.now ≡ codes "-") × (has_report ≡ false) × (log ≡ None)
AsksFor None other = ⊥
AsksFor (Some matched) asked = AsksOf matched.0 matched.1 asked
