use Rattle.std.proofs.Common.{◌-◌}
use Rattle.iova_control.proofs.sessions.+put_from.Given as goal

abbrev pub decreases-put_from : goal.decreases-put_from
decreases-put_from g l = l.workers - l.worker
