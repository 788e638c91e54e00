use Rattle.std.proofs.Common.{arith}
use Rattle.iova_tree.proofs.Places.{most_linked}
use Rattle.iova_tree.proofs.branch.room_of.Goals as goal

pub returns : goal.returns
returns g c =
    let is = c.in-Some.ensures.cases.0 in
    rw is (most_linked g.N.Node.spans c.args.from c.most_room.result c.in-Some.first.now c.in-Some.rest.now (rw is at c.requires.linked) (omega (arith, c.room_with.ensures, c.most_room.ensures.known)) c.most_room.ensures.most)
