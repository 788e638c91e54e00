use Rattle.std.proofs.Common.{◌≡◌, max, arith}
use Rattle.iova_tree.specs.Spans.{room_after}
use Rattle.iova_tree.proofs.block.room_among.Goals as goal

pub room_of_all-requires-clause-most : goal.room_of_all-requires-clause-most
room_of_all-requires-clause-most c =
    let most = rw c.in-Some.ensures.cases.0 at c.requires.most in
    rw c.end.ensures most

pub returns : goal.returns
returns c =
    let found : c.room_of_all.result ≡ max 0 (room_after c.in-Some.first.now.end c.in-Some.rest.now) = rw c.end.ensures at c.room_of_all.ensures in
    rw c.in-Some.ensures.cases.0 (omega (arith, found))
