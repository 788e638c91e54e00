-- What `metrics` is answered: all metrics of a daemon, in the text form that Prometheus reads.
use Rattle.std.specs.Prelude.{ℕ, zero, suc, ◌≡◌, ◌++◌, ◌+◌, ◌/◌, ◌%◌, ◌==◌, Bool, List, [], ◌∷◌, codes, decimal, length, if◌then◌else◌}
use Rattle.iova_range.specs.declared.limits.TheConstants.{MAX_REFUSAL}
use Rattle.iova_links.specs.declared.control_task.DaemonMetrics.{DaemonMetrics}
use Rattle.iova_control.specs.declared.control.Facts.{Facts}
use Rattle.iova_control.specs.declared.metrics.Metric.{Metric}
use Rattle.iova_control.specs.declared.metrics.Numbers.{Numbers}
use Rattle.iova_control.specs.Infos.{first_line, second_line, sink_kind}

-- two lines that say what a metric is
abbrev pub kind_text : List ℕ → List ℕ → List ℕ → List ℕ
kind_text name kind help =
    (codes "# HELP " ++ (name ++ (codes " " ++ (help ++ 10 ∷ []))))
    ++ (codes "# TYPE " ++ (name ++ (codes " " ++ (kind ++ 10 ∷ []))))

-- a metric of one number, as its lines have it
pub record NumberMetric : Type 0 where
  pub name : List ℕ
  pub kind : List ℕ
  pub help : List ℕ
  pub number : ℕ

abbrev pub number_metric : Metric → NumberMetric
number_metric f =
    record { name = f.name.now; kind = f.kind.now; help = f.help.now; number = f.number }

-- a count that rises, and a number that rises and falls
abbrev pub counter : List ℕ → List ℕ → ℕ → NumberMetric
counter name help number =
    record { name = name; kind = codes "counter"; help = help; number = number }

abbrev pub gauge : List ℕ → List ℕ → ℕ → NumberMetric
gauge name help number =
    record { name = name; kind = codes "gauge"; help = help; number = number }

abbrev pub metric_text : NumberMetric → List ℕ
metric_text t =
    kind_text t.name t.kind t.help ++ (t.name ++ (codes " " ++ (decimal t.number ++ 10 ∷ [])))

abbrev pub metrics_text : List NumberMetric → List ℕ
metrics_text [] = []
metrics_text (t ∷ more) = metric_text t ++ metrics_text more

-- what a daemon counted itself when it was asked
pub record DaemonCounts : Type 0 where
  pub failed : ℕ
  pub requests : ℕ
  pub allocs : ℕ
  pub frees : ℕ
  pub notices : ℕ
  pub started : ℕ
  pub steps : ℕ

-- the frames of each place
abbrev pub place_line : List ℕ → ℕ → List ℕ
place_line place frames =
    codes "iovad_frames{place=\"" ++ (place ++ (codes "\"} " ++ (decimal frames ++ 10 ∷ [])))

abbrev pub places_text : Numbers → List ℕ
places_text n =
    kind_text (codes "iovad_frames") (codes "gauge") (codes "Page frames of the domain, by place.")
    ++ (place_line (codes "free") n.free
    ++ (place_line (codes "reserved") n.reserved
    ++ (place_line (codes "client") n.client
    ++ (place_line (codes "magazine") n.magazine
    ++ (place_line (codes "depot") n.depot
    ++ place_line (codes "ring") n.ring)))))

abbrev pub flush_metrics : Numbers → List NumberMetric
flush_metrics n =
    counter (codes "iovad_flushes_begun_total") (codes "Flushes that have begun.") n.start
    ∷ counter (codes "iovad_flushes_ended_total") (codes "The finish count.") n.finish
    ∷ gauge (codes "iovad_flushes_owed") (codes "Failed flushes that none has made up for.") n.owed
    ∷ []

abbrev pub daemon_metrics : Facts → DaemonCounts → DaemonMetrics → List NumberMetric
daemon_metrics f c g =
    counter (codes "iovad_flushes_failed_total")
    (codes "Flushes that failed or could not begin.") c.failed
    ∷ gauge (codes "iovad_workers") (codes "Workers of the domain.") f.workers
    ∷ gauge (codes "iovad_granule_bytes") (codes "Bytes of a page frame.") f.granule
    ∷ gauge (codes "iovad_clients") (codes "The most sessions that are served at a time.") f.clients
    ∷ gauge (codes "iovad_sessions") (codes "Sessions that are served.") g.served
    ∷ counter (codes "iovad_clients_full_total")
    (codes "How often the last place for a session was taken.") g.full
    ∷ counter (codes "iovad_sessions_total") (codes "Sessions that were accepted.") g.accepted
    ∷ counter (codes "iovad_requests_total") (codes "Lines that sessions sent.") c.requests
    ∷ counter (codes "iovad_allocs_total") (codes "Ranges that were given to clients.") c.allocs
    ∷ counter (codes "iovad_frees_total") (codes "Ranges that clients freed.") c.frees
    ∷ gauge (codes "iovad_clients_waiting") (codes "Clients whose end waits.") g.waiting
    ∷ counter (codes "iovad_notices_total") (codes "Notices on standard error.") c.notices
    ∷ gauge (codes "iovad_record_steps") (codes "Steps that are recorded.") c.steps
    ∷ gauge (codes "iovad_start_time_seconds")
    (codes "When the daemon started, in seconds since the beginning of 1970.") c.started
    ∷ []

-- milliseconds, in seconds with three places
abbrev pub seconds_text : ℕ → List ℕ
seconds_text ms =
    decimal (ms / 1000) ++ (codes "." ++ (decimal (ms % 1000 / 100)
    ++ (decimal (ms % 100 / 10) ++ (decimal (ms % 10) ++ 10 ∷ []))))

-- how long a range has waited at most, where so many frames are in rings
abbrev pub waited : (ring since_round : ℕ) → ℕ
waited ring since_round = if ring == 0 then 0 else since_round

abbrev pub wait_text : (ring since_round : ℕ) → List ℕ
wait_text ring since_round =
    kind_text (codes "iovad_oldest_wait_seconds") (codes "gauge")
    (codes "How long a range has waited in a ring, at most.")
    ++ (codes "iovad_oldest_wait_seconds " ++ seconds_text (waited ring since_round))

-- how many requests were refused by this number, where any was
abbrev pub refusal_text : (number refusals : ℕ) → List ℕ
refusal_text number zero = []
refusal_text number (suc n) =
    codes "iovad_refusals_total{number=\"" ++ (decimal number ++ (codes "\"} "
    ++ (decimal (suc n) ++ 10 ∷ [])))

-- how many requests were refused by this number and by each of those behind it
abbrev pub refusals_text : (number : ℕ) → List ℕ → List ℕ
refusals_text number [] = []
refusals_text number (n ∷ more) = refusal_text number n ++ refusals_text (suc number) more

-- for each number there is how many it was
abbrev pub PutsRefusals : (number : ℕ) → List ℕ → List ℕ → Type 0
PutsRefusals number old new =
    (counts : List ℕ) × (length counts + number ≡ MAX_REFUSAL + 1)
    × (new ≡ old ++ refusals_text number counts)

abbrev pub refusals_kind : List ℕ
refusals_kind =
    kind_text (codes "iovad_refusals_total") (codes "counter")
    (codes "Requests that were refused, by number.")

-- the metric that says of which kind the sink is
abbrev pub sink_text : Bool → List ℕ
sink_text has_peer =
    kind_text (codes "iovad_sink") (codes "gauge") (codes "Of which kind the sink is.")
    ++ (codes "iovad_sink{kind=\"" ++ (sink_kind has_peer ++ codes "\"} 1\n"))

abbrev pub build_text : List ℕ → List ℕ
build_text version =
    kind_text (codes "iovad_build_info") (codes "gauge")
    (codes "The version, and the kit that proved it.")
    ++ (codes "iovad_build_info{version=\"" ++ (first_line version ++ (codes "\",kit=\""
    ++ (second_line version ++ codes "\"} 1\n"))))

-- the name, and nothing without one
abbrev pub named_text : List ℕ → List ℕ
named_text name =
    kind_text (codes "iovad_name") (codes "gauge") (codes "The name that --name gives.")
    ++ (codes "iovad_name{name=\"" ++ (name ++ codes "\"} 1\n"))

abbrev pub name_text : List ℕ → List ℕ
name_text [] = []
name_text (b ∷ name) = named_text (b ∷ name)

abbrev pub program_text : Facts → List ℕ
program_text f =
    sink_text f.has_peer ++ (build_text f.version.bytes ++ name_text f.name.bytes)

-- All metrics of such a daemon, of a domain with these numbers: those with counts of its own have
-- some counts.
abbrev pub PutsMetrics : Facts → Numbers → DaemonMetrics → List ℕ → List ℕ → Type 0
PutsMetrics f n g old new =
    (c : DaemonCounts) × (refusals : List ℕ) × (length refusals ≡ MAX_REFUSAL)
    × (new ≡ old ++ ((places_text n ++ metrics_text (flush_metrics n))
    ++ (metrics_text (daemon_metrics f c g)
    ++ (wait_text n.ring g.since_round
    ++ ((refusals_kind ++ refusals_text 1 refusals) ++ program_text f)))))
