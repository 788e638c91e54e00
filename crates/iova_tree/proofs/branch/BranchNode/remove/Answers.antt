use Rattle.std.proofs.Common.{◌≡◌, ◌+◌, arith}
use Rattle.iova_tree.specs.Branches.{KeepBounds}
use Rattle.iova_tree.proofs.Bounds.{hinted_behind}
use Rattle.iova_tree.proofs.branch.BranchNode.remove.Goals as goal

pub invariant_of-self : goal.invariant_of-self
invariant_of-self g c =
    let at = c.link_to-at.result in
    let j : at + 1 + 1 ≡ at + 2 = omega arith in
    let keep : KeepBounds (at + 1 + 1) c.self.inside.links.items c.remove_at.new.links.items = rw j c.remove_at.ensures.others in
    (c.remove_at.ensures.linked, rw c.behind-self-inside.ensures (hinted_behind c.self.inside.hint (at + 1) c.self.inside.links.items c.remove_at.new.links.items keep c.self.invariant.1))
