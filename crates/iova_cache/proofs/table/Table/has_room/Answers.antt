use Rattle.std.proofs.Common.{arith}
use Rattle.iova_cache.specs.Held.{home_of, in_order}
use Rattle.std.proofs.Common.{length, ◌*◌, ◌-◌}
use Rattle.iova_cache.proofs.Tables.{room_test, length_in_order}
use Rattle.iova_cache.proofs.table.Table.has_room.Goals as goal

pub returns : goal.returns
returns c =
    let bs = c.self.inside.buckets.items in
    rw (← c.self.view_is) (room_test c.self.inside.room (length (in_order (home_of c.self.inside.bits) bs)) (6 * length bs - 48) (omega (arith, c.self.invariant.0.fills, length_in_order (home_of c.self.inside.bits) bs)))
