use Rattle.std.proofs.Common.{arith}
use Rattle.iova_cache.specs.Held.{home_of}
use Rattle.iova_cache.proofs.Tables.{length_in_order, some_buckets}
use Rattle.iova_cache.proofs.table.Table.len.Goals as goal

pub returns : goal.returns
returns c =
    let bs = c.self.inside.buckets.items in
    rw (← c.self.view_is) (omega (arith, c.self.invariant.0.fills, c.len.ensures, length_in_order (home_of c.self.inside.bits) bs, some_buckets bs c.self.inside.strays.items c.self.inside.bits c.self.inside.room c.self.invariant.0))
