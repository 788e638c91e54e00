use Rattle.std.proofs.Common.{◌≡◌, ◌∙◌}
use Rattle.iova_lock.proofs.Releases.{again_with, again_without, second_begun}
use Rattle.iova_lock.proofs.Storing.{does}
use Rattle.iova_lock.proofs.holds.BookKeep.release_again.Goals.{then-queued_strictly, else-queued_strictly}
use Rattle.iova_lock.proofs.holds.BookKeep.release_again.Goals as goal

pub returns-clause-log : goal.returns-clause-log
returns-clause-log g c =
    let held = c.run_flush_at-ended.ensures.rest.1 in
    let unmaps = rw (c.worker-worker.ensures.is, held) at c.run_within-reply.ensures.runs in
    let strictly : c.is_strict.result ≡ c.args.self.now.strict = c.is_strict.ensures ∙ (c.run_within-reply.ensures.same.1 ∙ c.run_flush_at-ended.ensures.same.1) in
    let flush = rw strictly at c.queued_strictly.ensures in
    elim c.if-queued_strictly.branch [
      | then-queued_strictly w ↦ rw (w.begun-is, w.self-is)
          (again_with _ _ _ _ _ _ _ _ _ _ _ _ _ _ _ _ c.run_flush_at-ended.ensures.takes c.run_flush_at-ended.ensures.stores (rw w.if-queued_strictly.true at flush) unmaps w.run_flush_at.ensures.takes w.run_flush_at.ensures.stores)
      | else-queued_strictly w ↦ rw (w.begun-is, w.self-is)
          (again_without _ _ _ _ _ _ _ _ _ _ _ _ _ c.run_flush_at-ended.ensures.takes c.run_flush_at-ended.ensures.stores (rw w.if-queued_strictly.false at flush) unmaps)
    ]

pub returns-clause-domain : goal.returns-clause-domain
returns-clause-domain g c = does (returns-clause-log g c)

pub returns-clause-begun : goal.returns-clause-begun
returns-clause-begun g c =
    let flush = c.queued_strictly.ensures in
    elim c.if-queued_strictly.branch [
      | then-queued_strictly w ↦ rw w.begun-is (second_begun c.is_strict.result _ _ (rw w.if-queued_strictly.true at flush) w.run_flush_at.ensures.kind)
      | else-queued_strictly w ↦ rw w.begun-is tt
    ]
