use Rattle.std.proofs.Common.{sym, ◌∙◌}
use Rattle.iova_tree.proofs.Hinted.{start_hinted}
use Rattle.iova_tree.proofs.block.BlockNode.highest.Goals as goal

pub highest_of-found-requires-clause-hinted : goal.highest_of-found-requires-clause-hinted
highest_of-found-requires-clause-hinted c =
    rw c.deref.ensures.value (start_hinted c.self.inside.hint c.start-hint.result c.self.inside.spans.items c.len.result c.args.wanted.now.size (c.len.ensures ∙ sym (rw c.deref.ensures.value at c.deref.ensures.len)) c.requires.wanted.bounded c.self.invariant c.start-hint.ensures.less c.start-hint.ensures.known)
