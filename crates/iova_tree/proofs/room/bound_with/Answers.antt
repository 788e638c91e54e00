use Rattle.std.proofs.Common.{arith}
use Rattle.iova_tree.proofs.Rooms.{room-short}
use Rattle.iova_tree.proofs.room.bound_with.Goals as goal

pub returns-then-frames-lt-LONG_GAP : goal.returns-then-frames-lt-LONG_GAP
returns-then-frames-lt-LONG_GAP c = omega (arith, room-short c.args.from c.args.until, c.max.ensures)
