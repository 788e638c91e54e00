use Rattle.iova_control.proofs.Behind.{is_put_ok}
use Rattle.iova_control.proofs.MetricTexts.{refusal_some}
use Rattle.iova_control.proofs.metrics.put_refusal.Goals as goal

pub returns : goal.returns
returns c = is_put_ok _ _ _ _ _ c.writeln.ensures.bytes (refusal_some c.args.number c.args.refusals c.if-refusals-eq0.false)
