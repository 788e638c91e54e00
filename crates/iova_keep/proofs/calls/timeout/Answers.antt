use Rattle.std.proofs.Common.{arith, refl}
use Rattle.iova_keep.proofs.Endings.{known_idle, known_not_flushed, known_drained, failed_then}
use Rattle.iova_keep.proofs.calls.timeout.Goals as goal

pub returns-then-stat-eq0-clause-domain : goal.returns-then-stat-eq0-clause-domain
returns-then-stat-eq0-clause-domain g c = known_idle _ c.stat.result _ _ c.stat.ensures c.if-stat-eq0.true

pub returns-in-Ok-clause-domain : goal.returns-in-Ok-clause-domain
returns-in-Ok-clause-domain g c =
    known_drained _ _ _ c.stat.result c.in-Ok._no _ _ _ _ c.steps_keep_the_domain.ensures c.stat.ensures (omega (arith, c.if-stat-eq0.false)) (c.drain_all.ensures.first refl)
    c.in-Ok.ensures.domain c.drain_all.ensures.domain

pub returns-in-Err-clause-domain : goal.returns-in-Err-clause-domain
returns-in-Err-clause-domain g c = known_not_flushed _ _ c.stat.result c.in-Err.refusal _ _ _ c.stat.ensures (omega (arith, c.if-stat-eq0.false)) c.in-Err.ensures.domain

pub returns-in-Err-clause-fault : goal.returns-in-Err-clause-fault
returns-in-Err-clause-fault g c = λ e. let h = c.in-Err.ensures.fault e in failed_then _ h.0 _ _ _ h.1 refl
