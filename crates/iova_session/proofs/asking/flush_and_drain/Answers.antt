use Rattle.iova_session.proofs.Alone.{flush_fails, flush_drains}
use Rattle.iova_session.proofs.asking.flush_and_drain.Goals as goal

pub returns-in-Err-clause-flushes : goal.returns-in-Err-clause-flushes
returns-in-Err-clause-flushes g c = flush_fails _ _ c.args.seat.now.worker c.flush.result c.in-Err.refusal _ _ _ c.in-Err.is c.flush.ensures.domain

pub returns-in-Ok-drain_all-clause-flushes : goal.returns-in-Ok-drain_all-clause-flushes
returns-in-Ok-drain_all-clause-flushes g c =
    flush_drains _ _ _ _ _ c.flush.result c.drain_all.result c.in-Ok.no c.in-Ok-drain_all.freed _ _ _ c.worker.ensures.is c.in-Ok.is c.in-Ok-drain_all.is c.flush.ensures.domain c.drain_all.ensures.domain
