use Rattle.std.proofs.Common.{arith}
use Rattle.iova_tree.proofs.Rooms.{room-short}
use Rattle.iova_tree.proofs.room.room_above.Goals as goal

pub returns-then-until-from-clause-most : goal.returns-then-until-from-clause-most
returns-then-until-from-clause-most c = omega (arith, room-short c.args.from c.args.until, c.if-until-from.true)
