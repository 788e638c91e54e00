use Rattle.std.proofs.Common.{◌-◌, max, sym, subst}
use Rattle.iova_tree.specs.declared.search.Hint.{Hint}
use Rattle.iova_tree.specs.Spans.{IsHinted}
use Rattle.iova_tree.proofs.Hinted.{removed_hinted}
use Rattle.iova_tree.proofs.block.BlockNode.remove.Goals as goal

pub invariant_of-self : goal.invariant_of-self
invariant_of-self c =
    let i = c.self.inside in
    let at = c.place_held-at.result in
    let h : IsHinted (record { at = max (i.hint.at - 1) at; above = i.hint.above }) c.remove.new.self.items = rw c.remove.ensures.items (removed_hinted i.hint at i.spans.items c.self.invariant) in
    subst (λ (hint : Hint). IsHinted hint c.remove.new.self.items) (sym c.without-self-inside.ensures) h
