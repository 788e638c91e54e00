use Rattle.iova_tree.proofs.Blocks.{room_between-bounded}
use Rattle.iova_tree.proofs.Branches.{length_replaced}
use Rattle.iova_tree.proofs.branch.replace_below.Goals as goal

pub returns-clause-linked : goal.returns-clause-linked
returns-clause-linked g c = record {
  some = rw (c.replace.ensures, length_replaced c.args.lo c.args.span (g.N.Node.spans c.args.link.now.node)) c.requires.linked.some;
  first_is = c.first-link.ensures;
  end_is = c.end-link.ensures;
  room_most = room_between-bounded (g.N.Node.spans c.replace.new.self);
}
