use Rattle.std.proofs.Common.{◌≡◌, ◌∙◌}
use Rattle.iova_lock.proofs.Releases.{first_with, first_without, release_begun}
use Rattle.iova_lock.proofs.Storing.{does}
use Rattle.iova_lock.proofs.holds.BookKeep.release_first.Goals.{then-flush_follows, else-flush_follows}
use Rattle.iova_lock.proofs.holds.BookKeep.release_first.Goals as goal

pub returns-clause-log : goal.returns-clause-log
returns-clause-log g c =
    let unmaps = rw c.worker-worker.ensures.is at c.run_within-reply.ensures.runs in
    let strictly : c.is_strict.result ≡ c.args.self.now.strict = c.is_strict.ensures ∙ c.run_within-reply.ensures.same.1 in
    let flush = rw strictly at c.flush_follows.ensures in
    elim c.if-flush_follows.branch [
      | then-flush_follows w ↦ rw (w.begun-is, w.self-is) (first_with _ _ _ _ _ _ _ _ _ _ _ (rw w.if-flush_follows.true at flush) unmaps w.run_flush_at.ensures.takes w.run_flush_at.ensures.stores)
      | else-flush_follows w ↦ rw (w.begun-is, w.self-is) (first_without _ _ _ _ _ _ _ _ (rw w.if-flush_follows.false at flush) unmaps)
    ]

pub returns-clause-domain : goal.returns-clause-domain
returns-clause-domain g c = does (returns-clause-log g c)

pub returns-clause-begun : goal.returns-clause-begun
returns-clause-begun g c =
    let flush = c.flush_follows.ensures in
    elim c.if-flush_follows.branch [
      | then-flush_follows w ↦ rw w.begun-is (release_begun c.is_strict.result _ _ (rw w.if-flush_follows.true at flush) w.run_flush_at.ensures.kind)
      | else-flush_follows w ↦ rw w.begun-is tt
    ]
