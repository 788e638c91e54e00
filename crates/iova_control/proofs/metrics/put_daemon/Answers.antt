use Rattle.std.proofs.Common.{[], ◌∷◌, ap, refl}
use Rattle.iova_control.specs.Metrics.{metrics_text}
use Rattle.iova_control.proofs.Behind.{ok_map, is_put}
use Rattle.iova_control.proofs.MetricTexts.{metric_more}
use Rattle.iova_control.proofs.metrics.put_daemon.Goals as goal

pub returns : goal.returns
returns c =
    ok_map c.put_all.result
    (λ put. (
      record {
        failed = c.failed_flushes.result;
        requests = c.requests.result;
        allocs = c.allocs.result;
        frees = c.frees-freed.result;
        notices = c.notices.result;
        started = c.started.result;
        steps = c.args.steps;
      },
      is_put _ _ _ _ put (ap metrics_text
          (metric_more c.counter.result _ (c.gauge.result ∷ c.gauge-2.result ∷ c.gauge-3.result ∷ c.gauge-4.result ∷ c.counter-2.result ∷ c.counter-3.result ∷ c.counter-4.result ∷ c.counter-5.result ∷ c.counter-6.result ∷ c.gauge-5.result ∷ c.counter-7.result ∷ c.gauge-6.result ∷ c.gauge-7.result ∷ []) _ c.counter.ensures
          (metric_more c.gauge.result _ (c.gauge-2.result ∷ c.gauge-3.result ∷ c.gauge-4.result ∷ c.counter-2.result ∷ c.counter-3.result ∷ c.counter-4.result ∷ c.counter-5.result ∷ c.counter-6.result ∷ c.gauge-5.result ∷ c.counter-7.result ∷ c.gauge-6.result ∷ c.gauge-7.result ∷ []) _ c.gauge.ensures
          (metric_more c.gauge-2.result _ (c.gauge-3.result ∷ c.gauge-4.result ∷ c.counter-2.result ∷ c.counter-3.result ∷ c.counter-4.result ∷ c.counter-5.result ∷ c.counter-6.result ∷ c.gauge-5.result ∷ c.counter-7.result ∷ c.gauge-6.result ∷ c.gauge-7.result ∷ []) _ c.gauge-2.ensures
          (metric_more c.gauge-3.result _ (c.gauge-4.result ∷ c.counter-2.result ∷ c.counter-3.result ∷ c.counter-4.result ∷ c.counter-5.result ∷ c.counter-6.result ∷ c.gauge-5.result ∷ c.counter-7.result ∷ c.gauge-6.result ∷ c.gauge-7.result ∷ []) _ c.gauge-3.ensures
          (metric_more c.gauge-4.result _ (c.counter-2.result ∷ c.counter-3.result ∷ c.counter-4.result ∷ c.counter-5.result ∷ c.counter-6.result ∷ c.gauge-5.result ∷ c.counter-7.result ∷ c.gauge-6.result ∷ c.gauge-7.result ∷ []) _ c.gauge-4.ensures
          (metric_more c.counter-2.result _ (c.counter-3.result ∷ c.counter-4.result ∷ c.counter-5.result ∷ c.counter-6.result ∷ c.gauge-5.result ∷ c.counter-7.result ∷ c.gauge-6.result ∷ c.gauge-7.result ∷ []) _ c.counter-2.ensures
          (metric_more c.counter-3.result _ (c.counter-4.result ∷ c.counter-5.result ∷ c.counter-6.result ∷ c.gauge-5.result ∷ c.counter-7.result ∷ c.gauge-6.result ∷ c.gauge-7.result ∷ []) _ c.counter-3.ensures
          (metric_more c.counter-4.result _ (c.counter-5.result ∷ c.counter-6.result ∷ c.gauge-5.result ∷ c.counter-7.result ∷ c.gauge-6.result ∷ c.gauge-7.result ∷ []) _ c.counter-4.ensures
          (metric_more c.counter-5.result _ (c.counter-6.result ∷ c.gauge-5.result ∷ c.counter-7.result ∷ c.gauge-6.result ∷ c.gauge-7.result ∷ []) _ c.counter-5.ensures
          (metric_more c.counter-6.result _ (c.gauge-5.result ∷ c.counter-7.result ∷ c.gauge-6.result ∷ c.gauge-7.result ∷ []) _ c.counter-6.ensures
          (metric_more c.gauge-5.result _ (c.counter-7.result ∷ c.gauge-6.result ∷ c.gauge-7.result ∷ []) _ c.gauge-5.ensures
          (metric_more c.counter-7.result _ (c.gauge-6.result ∷ c.gauge-7.result ∷ []) _ c.counter-7.ensures
          (metric_more c.gauge-6.result _ (c.gauge-7.result ∷ []) _ c.gauge-6.ensures
          (metric_more c.gauge-7.result _ [] _ c.gauge-7.ensures
          refl))))))))))))))),
    ))
    c.put_all.ensures
