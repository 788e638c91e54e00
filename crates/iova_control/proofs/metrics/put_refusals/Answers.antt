use Rattle.iova_control.proofs.MetricTexts.{refusals_behind}
use Rattle.iova_control.proofs.metrics.put_refusals.Goals as goal

pub returns : goal.returns
returns c = refusals_behind _ _ _ _ _ c.in_ok-put_kind.ensures c.put_refusals_from.ensures
