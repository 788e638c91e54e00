use Rattle.std.proofs.Common.{◌≡◌, ◌+◌, ◌∙◌, ap, drop, sym, arith}
use Rattle.iova_tree.proofs.Spans.{rising-without}
use Rattle.iova_tree.proofs.Places.{whole_back}
use Rattle.iova_tree.specs.Branches.{KeepBounds}
use Rattle.iova_tree.proofs.Bounds.{same_behind, hinted_behind}
use Rattle.iova_tree.proofs.branch.BranchNode.insert.Goals as goal

pub open_link_to-requires-clause-rising : goal.open_link_to-requires-clause-rising
open_link_to-requires-clause-rising g c = rw c.self.view_is (rising-without 0 _ _ c.requires.free)

pub insert_at-requires-clause-rising : goal.insert_at-requires-clause-rising
insert_at-requires-clause-rising g c = rw (c.deref_mut.ensures.value, c.in_ok-at.ensures.same, c.self.view_is) (rising-without 0 _ _ c.requires.free)

pub invariant_of-self-2 : goal.invariant_of-self-2
invariant_of-self-2 g c =
    let at = c.in_ok-at.at in
    let old = c.open_link_to.new.links.items in
    let new = c.insert_at.new.links in
    let j : at + 1 + 1 ≡ at + 2 = omega arith in
    let same = c.insert_at.ensures.others ∙ ap (drop (at + 2)) c.deref_mut.ensures.value in
    let keep : KeepBounds (at + 1 + 1) old new = rw j (same_behind (at + 2) old new same) in
    let hinted = hinted_behind c.open_link_to.new.hint (at + 1) old new keep c.in_ok-at.ensures.hinted in
    rw (whole_back c.open_link_to.new.links.len new old (omega (arith, c.insert_at.ensures.count, c.deref_mut.ensures.len)) (rw (sym c.deref_mut.ensures.value) c.deref_mut.ensures.len)) (c.insert_at.ensures.linked, rw c.behind-self-inside.ensures hinted)
