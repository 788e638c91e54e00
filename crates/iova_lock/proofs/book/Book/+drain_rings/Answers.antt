use Rattle.std.proofs.Common.{◌∙◌}
use Rattle.iova_lock.proofs.Drains.{drains_none, drains_more, rings_step}
use Rattle.iova_lock.proofs.book.Book.+drain_rings.Goals as goal

pub returns-then-left-eq0-clause-drains : goal.returns-then-left-eq0-clause-drains
returns-then-left-eq0-clause-drains g t c = rw c.if-left-eq0.true (drains_none c.args.by _ _)

pub returns-clause-drains : goal.returns-clause-drains
returns-clause-drains g t c =
    rw (rings_step c.args.ring c.args.left c.if-left-eq0.false) (drains_more c.args.by c.args.ring _ _ _ _ _ _ _ c.drain_one-n.new.self.state _ c.drain_one-n.ensures.takes c.drain_one-n.ensures.stores c.drain_rings.ensures.drains)

pub returns-clause-same : goal.returns-clause-same
returns-clause-same g t c =
    let h = c.drain_one-n.ensures.same in
    let k = c.drain_rings.ensures.same in
    (k.0 ∙ h.0, k.1 ∙ h.1)
