use Rattle.std.proofs.Common.{arith}
use Rattle.iova_tree.proofs.Rooms.{room-below}
use Rattle.iova_tree.proofs.room.room_with.Goals as goal

pub returns-then-known-ge-MOST_ROOM : goal.returns-then-known-ge-MOST_ROOM
returns-then-known-ge-MOST_ROOM c = omega (arith, room-below c.args.from c.args.until, c.if-known-ge-MOST_ROOM.true)
