-- DaemonMetrics and counts, one behind another.
use Rattle.std.proofs.Common.{ℕ, zero, suc, ◌≡◌, ◌∙◌, ◌+◌, List, [], ◌∷◌, ◌++◌, ap, ap₂, refl, sym, codes, decimal, length, map, append-nil, arith, Result}
use Rattle.iova_range.specs.declared.limits.TheConstants.{MAX_REFUSAL}
use Rattle.iova_control.specs.declared.metrics.Metric.{Metric}
use Rattle.std.specs.Prelude.{OnOk}
use Rattle.std.specs.declared.alloc.AllocError.{AllocError}
use Rattle.iova_links.specs.declared.control_task.DaemonMetrics.{DaemonMetrics}
use Rattle.iova_control.specs.declared.control.Facts.{Facts}
use Rattle.iova_control.specs.declared.metrics.Numbers.{Numbers}
use Rattle.iova_control.specs.Metrics.{NumberMetric, number_metric, DaemonCounts, places_text, metrics_text, flush_metrics, daemon_metrics, wait_text, refusal_text, refusals_text, refusals_kind, program_text, PutsRefusals, PutsMetrics}
use Rattle.iova_control.proofs.Behind.{ok_map, behind}

-- a metric more
pub metric_more : (f : Metric) (t : NumberMetric) (fs : List Metric) (ts : List NumberMetric) → number_metric f ≡ t → map number_metric fs ≡ ts → map number_metric (f ∷ fs) ≡ t ∷ ts
metric_more f t fs ts is more = ap₂ (λ x xs. x ∷ xs) is more

-- a count that isn't 0 has its line
pub refusal_some : (number n : ℕ) → (n ≡ 0 → ⊥)
    → codes "iovad_refusals_total{number=\"" ++ (decimal number ++ (codes "\"} " ++ (decimal n ++ 10 ∷ []))) ≡ refusal_text number n
refusal_some number zero some = absurd (some refl)
refusal_some number (suc n) some = refl

pub no_refusals : (number : ℕ) (text : List ℕ) → number ≡ MAX_REFUSAL + 1 → PutsRefusals number text text
no_refusals number text last = ([], omega (arith, last), sym (append-nil text))

pub more_refusals : (number n : ℕ) (old mid new : List ℕ) → mid ≡ old ++ refusal_text number n → PutsRefusals (number + 1) mid new → PutsRefusals number old new
more_refusals number n old mid new first (counts, long, then) =
    let next : number + 1 ≡ suc number = omega arith in (
      n ∷ counts,
      omega (arith, long),
      behind old mid new (refusal_text number n) (refusals_text (suc number) counts) first (then ∙ ap (λ k. mid ++ refusals_text k counts) next),
    )

-- behind what they are
pub refusals_behind : (r : Result Unit AllocError) (old mid new kind : List ℕ) → mid ≡ old ++ kind → OnOk r (PutsRefusals 1 mid new)
    → OnOk r ((counts : List ℕ) × (length counts ≡ MAX_REFUSAL) × (new ≡ old ++ (kind ++ refusals_text 1 counts)))
refusals_behind r old mid new kind first then =
    ok_map r (λ from. (from.0, omega (arith, from.1), behind old mid new kind (refusals_text 1 from.0) first from.2)) then

-- all metrics, part by part
pub metrics_behind : (r : Result Unit AllocError) (f : Facts) (n : Numbers) (g : DaemonMetrics) (c : DaemonCounts) (counts : List ℕ) (a b d e h k : List ℕ)
    → b ≡ a ++ (places_text n ++ metrics_text (flush_metrics n)) → d ≡ b ++ metrics_text (daemon_metrics f c g) → e ≡ d ++ wait_text n.ring g.since_round
    → length counts ≡ MAX_REFUSAL → h ≡ e ++ (refusals_kind ++ refusals_text 1 counts) → OnOk r (k ≡ h ++ program_text f) → OnOk r (PutsMetrics f n g a k)
metrics_behind r f n g c counts a b d e h k domain daemon wait long refusals program =
    ok_map r
    (λ last. (
      c,
      counts,
      long,
      behind a b k (places_text n ++ metrics_text (flush_metrics n))
          (metrics_text (daemon_metrics f c g) ++ (wait_text n.ring g.since_round ++ ((refusals_kind ++ refusals_text 1 counts) ++ program_text f)))
          domain
          (behind b d k (metrics_text (daemon_metrics f c g)) (wait_text n.ring g.since_round ++ ((refusals_kind ++ refusals_text 1 counts) ++ program_text f))
          daemon
          (behind d e k (wait_text n.ring g.since_round) ((refusals_kind ++ refusals_text 1 counts) ++ program_text f)
          wait
          (behind e h k (refusals_kind ++ refusals_text 1 counts) (program_text f) refusals last))),
    ))
    program
