use Rattle.std.proofs.Common.{◌+◌, ◌-◌}
use Rattle.iova_range.specs.declared.limits.TheConstants.{MAX_REFUSAL}
use Rattle.iova_control.proofs.metrics.+put_refusals_from.Given as goal

abbrev pub decreases-put_refusals_from : goal.decreases-put_refusals_from
decreases-put_refusals_from l = MAX_REFUSAL + 1 - l.number
