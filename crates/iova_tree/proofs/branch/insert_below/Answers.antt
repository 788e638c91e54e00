use Rattle.std.proofs.Common.{arith}
use Rattle.iova_tree.proofs.Spans.{length-with}
use Rattle.iova_tree.proofs.Branches.{first_with, end_with}
use Rattle.iova_tree.proofs.branch.insert_below.Goals as goal

pub returns-clause-linked : goal.returns-clause-linked
returns-clause-linked g c =
    let l = g.N.Node.spans c.args.link.now.node in
    let k = c.requires.linked in
    let is = c.in_ok-insert.ensures.ok in
    record {
      some = rw (is, length-with c.args.span l) (omega (arith, k.some));
      first_is = rw (c.min-link.ensures, is, first_with c.args.span l k.some, k.first_is, c.lo.ensures) (omega arith);
      end_is = rw (c.max-link.ensures, is, end_with 0 c.args.span l k.some c.requires.free, k.end_is, c.end.ensures) (omega arith);
      room_most = c.in_ok-insert.ensures.room;
    }
