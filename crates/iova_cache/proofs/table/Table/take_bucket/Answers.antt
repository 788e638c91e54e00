use Rattle.std.proofs.Common.{take, arith}
use Rattle.std.proofs.lemmas.List.{length-take-le}
use Rattle.iova_cache.proofs.Tables.{length_sums}
use Rattle.iova_cache.proofs.table.Table.take_bucket.Goals as goal

pub insert-requires-clause-room : goal.insert-requires-clause-room
insert-requires-clause-room c =
    let so_far = length_sums c.args.self.now.ranges c.loop-place.self.ranges (take c.loop-place.place c.args.bucket.now) c.loop-place.invariant.0 in
    let long = length-take-le c.loop-place.place c.args.bucket.now (omega (arith, c.loop-place-test.true, c.len-place-end.ensures.is)) in
    omega (arith, so_far, long, c.loop-place.invariant.1, c.requires, c.loop-place-test.true, c.len-place-end.ensures.is)
