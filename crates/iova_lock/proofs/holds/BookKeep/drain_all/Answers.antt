use Rattle.std.proofs.Common.{◌≤◌, sym, arith}
use Rattle.iova_lock.proofs.Drains.{refused_so}
use Rattle.iova_lock.proofs.Ends.{all_drained, none_drained}
use Rattle.iova_lock.proofs.Storing.{does}
use Rattle.iova_lock.proofs.holds.BookKeep.drain_all.Goals as goal

pub returns-then-by-workers-clause-log : goal.returns-then-by-workers-clause-log
returns-then-by-workers-clause-log g c =
    let w = c.workers-workers.ensures.is in
    all_drained c.workers-workers.result c.args.by c.drain_rings.result _ _ _ _ (sym w) c.if-by-workers.true c.drain_rings.ensures.drains

pub returns-then-by-workers-clause-domain : goal.returns-then-by-workers-clause-domain
returns-then-by-workers-clause-domain g c = does (returns-then-by-workers-clause-log g c)

pub returns-clause-log : goal.returns-clause-log
returns-clause-log g c =
    let w = c.workers-workers.ensures.is in
    let none : c.args.self.now.state.workers ≤ c.args.by = omega (arith, w, c.if-by-workers.false) in
    let d = c.run_drain-refused.ensures in
    let refused = refused_so c.args.self.now.state.workers c.args.by c.run_drain-refused.result d.drained none in
    none_drained c.args.by _ _ _ _ none (rw refused at d.takes) (rw refused at d.stores)

pub returns-clause-domain : goal.returns-clause-domain
returns-clause-domain g c = does (returns-clause-log g c)
