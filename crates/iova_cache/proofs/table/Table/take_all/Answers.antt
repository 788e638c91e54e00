use Rattle.std.proofs.Common.{take, arith}
use Rattle.iova_cache.specs.Held.{all_ranges}
use Rattle.iova_cache.proofs.Tables.{length_sums, sum_more, within_all}
use Rattle.iova_cache.proofs.table.Table.take_all.Goals as goal

pub take_bucket-requires : goal.take_bucket-requires
take_bucket-requires c =
    let bs = c.args.buckets.now in
    let so_far = length_sums c.args.self.now.ranges c.loop-place.self.ranges (all_ranges (take c.loop-place.place bs)) c.loop-place.invariant.0 in
    omega (arith, so_far, within_all bs c.loop-place.place c.index-buckets-place.result c.loop-place-test.true c.index-buckets-place.is, c.loop-place.invariant.1, c.requires)

pub loop-place-preserved : goal.loop-place-preserved
loop-place-preserved c =
    let bs = c.args.buckets.now in (
      λ weigh. omega (arith, c.take_bucket.ensures.moved weigh, c.loop-place.invariant.0 weigh, sum_more weigh bs c.loop-place.place c.index-buckets-place.result c.loop-place-test.true c.index-buckets-place.is),
      omega (arith, c.take_bucket.ensures.same, c.loop-place.invariant.1),
    )
