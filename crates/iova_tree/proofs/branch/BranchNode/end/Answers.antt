use Rattle.std.proofs.Common.{◌-◌, length, slice_index_or, refl, ◌∙◌, arith}
use Rattle.iova_tree.specs.Branches.{AreLinked}
use Rattle.std.proofs.lemmas.List.{get_or_default}
use Rattle.iova_tree.proofs.Branches.{end_last, some_links}
use Rattle.iova_tree.proofs.branch.BranchNode.end.Goals as goal

pub returns : goal.returns
returns g c =
    let links = c.as_slice-links.result.now in
    let is = c.as_slice-links.ensures.value in
    let linked : AreLinked g.N.Node.spans links = rw is c.self.invariant.0 in
    let some = some_links g.N.Node.spans links (rw (is, c.self.view_is) c.requires.some) in
    let k = slice_index_or links (length links - 1) c.index-links-links.result in
    end_last g.N.Node.spans 0 links k linked some (get_or_default links (length links - 1) c.index-links-links.result k (omega (arith, some))) ∙ rw (is, c.self.view_is) refl
