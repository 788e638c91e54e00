use Rattle.iova_lock.proofs.Ends.{first_closed}
use Rattle.iova_lock.proofs.Ends.{first_full}
use Rattle.iova_lock.proofs.Storing.{does}
use Rattle.iova_lock.proofs.holds.BookKeep.close_first.Goals.{then-is_full, else-is_full}
use Rattle.iova_lock.proofs.holds.BookKeep.close_first.Goals as goal

pub returns-clause-log : goal.returns-clause-log
returns-clause-log g c =
    let closes = c.close_all-reply.ensures.closes in
    elim c.if-is_full.branch [
      | then-is_full w ↦ rw (w.begun-is, w.self-is, w.seat-is, w.run_flush_at.ensures.rest.1) (first_full _ _ _ _ _ _ _ _ _ _ _ (rw w.if-is_full.true at c.is_full.ensures) closes w.run_flush_at.ensures.takes w.run_flush_at.ensures.stores)
      | else-is_full w ↦ rw (w.begun-is, w.self-is, w.seat-is) (first_closed _ _ _ _ _ _ _ _ (rw w.if-is_full.false at c.is_full.ensures) closes)
    ]

pub returns-clause-domain : goal.returns-clause-domain
returns-clause-domain g c = does (returns-clause-log g c)
