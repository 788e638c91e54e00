use Rattle.std.proofs.Common.{arith}
use Rattle.iova_tree.proofs.Searched.{room_found}
use Rattle.iova_tree.proofs.branch.take_renewed.Goals as goal

pub returns-in_default-clause-room : goal.returns-in_default-clause-room
returns-in_default-clause-room g c =
    let room = room_found c.args.wanted.now c.requires.wanted c.args.from _ _ c.take_highest.result c.requires.rising c.take_highest.ensures.found in
    omega (arith, room, c.requires.room)

pub room_of-requires-clause-rising : goal.room_of-requires-clause-rising
room_of-requires-clause-rising g c = rw c.in-Nowhere.ensures.found.1 c.requires.rising
