use Rattle.std.proofs.Common.{take, drop, sym, ap, subst, ◌∙◌, arith, take-append-drop, length-drop}
use Rattle.std.proofs.lemmas.List.{length-take-le}
use Rattle.iova_tree.specs.Branches.{spans_below, AreLinked}
use Rattle.iova_tree.proofs.Branches.{below-append, linked_front, linked_back, some_below}
use Rattle.iova_tree.proofs.branch.BranchNode.split.Goals as goal

pub invariant_of-result : goal.invariant_of-result
invariant_of-result g c =
    let links = c.self.inside.links.items in
    let keep = c.cut_at-keep.result in
    (rw c.in_ok-high.ensures.tail (linked_back g.N.Node.spans (take keep links) (drop keep links) (subst (AreLinked g.N.Node.spans) (sym (take-append-drop keep links)) c.self.invariant.0)), λ low. absurd (omega (arith, low, c.none.ensures)))

pub invariant_of-self-2 : goal.invariant_of-self-2
invariant_of-self-2 g c =
    let links = c.self.inside.links.items in
    let keep = c.cut_at-keep.result in
    (rw c.in_ok-high.ensures.items (linked_front g.N.Node.spans (take keep links) (drop keep links) (subst (AreLinked g.N.Node.spans) (sym (take-append-drop keep links)) c.self.invariant.0)), λ low. absurd (omega (arith, low, c.none-self-inside.ensures)))

pub returns-clause-cut : goal.returns-clause-cut
returns-clause-cut g c =
    let links = c.self.inside.links.items in
    let keep = c.cut_at-keep.result in
    let whole = subst (AreLinked g.N.Node.spans) (sym (take-append-drop keep links)) c.self.invariant.0 in
    let lt = rw c.deref.ensures.value at (c.cut_at-keep.ensures (omega (arith, c.if-keep-eq0.false))) in
    let n = length-take-le keep links (omega (arith, lt)) in
    let m = length-drop keep links in
    record {
      low_some = rw c.in_ok-high.ensures.items (some_below g.N.Node.spans (take keep links) (linked_front g.N.Node.spans (take keep links) (drop keep links) whole) (omega (arith, n, c.if-keep-eq0.false)));
      high_some = rw c.in_ok-high.ensures.tail (some_below g.N.Node.spans (drop keep links) (linked_back g.N.Node.spans (take keep links) (drop keep links) whole) (omega (arith, m, lt)));
      parts = rw (c.in_ok-high.ensures.items, c.in_ok-high.ensures.tail) (sym c.self.view_is ∙ ap (spans_below g.N.Node.spans) (sym (take-append-drop keep links)) ∙ below-append g.N.Node.spans (take keep links) (drop keep links));
    }
