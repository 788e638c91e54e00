use Rattle.std.proofs.Common.{arith}
use Rattle.std.proofs.lemmas.Bool.Decides.{nat_tests}
use Rattle.iova_lock.proofs.Releases.{last_answered}
use Rattle.iova_lock.proofs.Storing.{does}
use Rattle.iova_lock.proofs.holds.BookKeep.release_last.Goals as goal

pub returns-clause-log : goal.returns-clause-log
returns-clause-log g c =
    let drained = rw c.worker-worker.ensures.is at c.drain_one-freed.ensures.takes in
    let finish = c.finish.ensures in
    let stored = rw c.worker-worker.ensures.is at c.drain_one-freed.ensures.stores in
    last_answered c.args.seat.now.worker _ _ _ _ _ _ _ _ _ _ _ c.run_flush_at-ended.ensures.takes c.run_flush_at-ended.ensures.stores drained stored (λ e. grind (arith, nat_tests)) (λ e. grind (arith, nat_tests))

pub returns-clause-domain : goal.returns-clause-domain
returns-clause-domain g c = does (returns-clause-log g c)
