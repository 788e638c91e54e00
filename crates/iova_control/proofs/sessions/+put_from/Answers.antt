use Rattle.iova_control.proofs.Behind.{more_sessions}
use Rattle.iova_control.proofs.sessions.+put_from.Goals as goal

pub returns : goal.returns
returns g t c = more_sessions _ _ _ _ _ _ c.if-worker-workers.false c.in_ok-put_worker.ensures c.put_from.ensures
