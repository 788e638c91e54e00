use Rattle.std.proofs.Common.{sym, ◌∙◌, arith}
use Rattle.iova_tree.specs.Spans.{end_after}
use Rattle.iova_tree.proofs.Spans.{end_after-append, end_after-any, rising-front, rising-back, rising-weaken}
use Rattle.iova_tree.proofs.Blocks.{room-front, room-back}
use Rattle.iova_tree.proofs.Branches.{first_front}
use Rattle.iova_tree.proofs.branch.split_below.Goals as goal

pub room-link-requires : goal.room-link-requires
room-link-requires g c =
    let cut = rw c.in-Some.is at c.in_ok-node.ensures.cut in
    let low = g.N.Node.spans c.split.new.self in
    let high = g.N.Node.spans c.in-Some.node in
    let rises = rw cut.parts at c.requires.rising in
    let most = rw cut.parts at c.requires.linked.room_most in
    record { rising = rising-front 0 low high rises; most = omega (arith, most, room-front low high) }

pub room-room-requires : goal.room-room-requires
room-room-requires g c =
    let cut = rw c.in-Some.is at c.in_ok-node.ensures.cut in
    let low = g.N.Node.spans c.split.new.self in
    let high = g.N.Node.spans c.in-Some.node in
    let rises = rw cut.parts at c.requires.rising in
    let most = rw cut.parts at c.requires.linked.room_most in
    record { rising = rising-weaken 0 (end_after 0 low) high (omega arith) (rising-back 0 low high rises); most = omega (arith, most, room-back low high) }

pub returns-clause-linked : goal.returns-clause-linked
returns-clause-linked g c =
    let cut = rw c.in-Some.is at c.in_ok-node.ensures.cut in
    let low = g.N.Node.spans c.split.new.self in
    let high = g.N.Node.spans c.in-Some.node in
    record {
      some = cut.low_some;
      first_is = rw cut.parts at c.requires.linked.first_is ∙ first_front low high cut.low_some;
      end_is = c.end-link.ensures;
      room_most = c.room-link.ensures;
    }

pub returns-clause-end : goal.returns-clause-end
returns-clause-end g c =
    let cut = rw c.in-Some.is at c.in_ok-node.ensures.cut in
    let low = g.N.Node.spans c.split.new.self in
    let high = g.N.Node.spans c.in-Some.node in
    let old = rw cut.parts at c.requires.linked.end_is in
    c.to.ensures.linked.end_is ∙ sym (old ∙ end_after-append 0 low high ∙ end_after-any (end_after 0 low) 0 high cut.high_some)
