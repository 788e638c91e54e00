use Rattle.std.proofs.Common.{arith}
use Rattle.iova_control.proofs.Behind.{ok_map}
use Rattle.iova_control.proofs.MetricTexts.{no_refusals, more_refusals}
use Rattle.iova_control.proofs.metrics.+put_refusals_from.Goals as goal

pub returns-then-number-gt-MAX_REFUSAL : goal.returns-then-number-gt-MAX_REFUSAL
returns-then-number-gt-MAX_REFUSAL t c = no_refusals c.args.number _ (omega (arith, c.requires, c.if-number-gt-MAX_REFUSAL.true))

pub returns : goal.returns
returns t c = ok_map _ (more_refusals c.args.number _ _ _ _ c.in_ok-put_refusal.ensures) c.put_refusals_from.ensures
