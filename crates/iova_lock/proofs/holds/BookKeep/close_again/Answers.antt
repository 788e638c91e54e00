use Rattle.std.proofs.Common.{◌≡◌, ◌<◌, ap, arith}
use Rattle.iova_model.specs.declared.totals.Totals.{Totals}
use Rattle.iova_lock.proofs.Ends.{again_closed, again_none_queued, again_full}
use Rattle.iova_lock.proofs.Storing.{does}
use Rattle.iova_lock.proofs.holds.BookKeep.close_again.Goals.{then-is_full+then-count-before, else-is_full, else-is_full-via-then-is_full+else-count-before, else-is_full-via-else-is_full}
use Rattle.iova_lock.proofs.holds.BookKeep.close_again.Goals as goal

pub returns-clause-log : goal.returns-clause-log
returns-clause-log g c =
    let held = c.run_flush_at-ended.ensures.rest.1 in
    let worker = c.run_flush_at-ended.ensures.rest.0 in
    let closes = rw (worker, held) at c.close_all-reply.ensures.closes in
    let before = ap (λ (t : Totals). t.count) c.held-before.ensures in
    let lowered = rw held at c.close_all-reply.ensures.shares in
    elim c.if-is_full.branch [
      | then-is_full+then-count-before w ↦
          let some : c.close_all-reply.new.seat.held.count < c.args.seat.now.held.count = omega (arith, before, w.count.ensures, w.if-count-before.true) in
          rw (w.begun-is, w.self-is, w.seat-is, w.run_flush_at.ensures.rest.1) (again_full _ _ _ _ _ _ _ _ _ _ _ _ _ _ _ _ c.run_flush_at-ended.ensures.takes c.run_flush_at-ended.ensures.stores (rw w.if-is_full.true at c.is_full.ensures) some closes w.run_flush_at.ensures.takes w.run_flush_at.ensures.stores)
      | else-is_full w ↦ rw (w.begun-is, w.self-is, w.seat-is) (elim w.else-is_full.branch [
        | else-is_full-via-then-is_full+else-count-before v ↦
            let less = ap (λ (t : Totals). t.count) lowered.1 in
            let none : c.close_all-reply.new.seat.held.count ≡ c.args.seat.now.held.count = omega (arith, before, less, v.count.ensures, v.if-count-before.false) in
            again_none_queued _ _ _ _ _ _ _ _ _ _ _ _ _ c.run_flush_at-ended.ensures.takes c.run_flush_at-ended.ensures.stores (rw v.if-is_full.true at c.is_full.ensures) none closes
        | else-is_full-via-else-is_full v ↦ again_closed _ _ _ _ _ _ _ _ _ _ _ _ _ c.run_flush_at-ended.ensures.takes c.run_flush_at-ended.ensures.stores (rw v.if-is_full.false at c.is_full.ensures) closes
      ])
    ]

pub returns-clause-domain : goal.returns-clause-domain
returns-clause-domain g c = does (returns-clause-log g c)
