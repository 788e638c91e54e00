use Rattle.std.proofs.Common.{[], ◌∷◌, ap, refl}
use Rattle.iova_control.specs.Metrics.{metrics_text}
use Rattle.iova_control.proofs.Behind.{then_ok, is_put_ok}
use Rattle.iova_control.proofs.MetricTexts.{metric_more}
use Rattle.iova_control.proofs.metrics.put_domain.Goals as goal

pub returns : goal.returns
returns c =
    then_ok _ _ _ _ _ _ c.in_ok-put_places.ensures
    (is_put_ok _ _ _ _ _ c.put_all.ensures
    (ap metrics_text
    (metric_more c.counter.result _ (c.counter-2.result ∷ c.gauge.result ∷ []) _ c.counter.ensures
    (metric_more c.counter-2.result _ (c.gauge.result ∷ []) _ c.counter-2.ensures
    (metric_more c.gauge.result _ [] _ c.gauge.ensures
    refl)))))
