use Rattle.std.proofs.Common.{◌<◌, length, ap, ◌∙◌}
use Rattle.iova_cache.proofs.Tables.{full_more, bucket_at}
use Rattle.iova_cache.proofs.table.roomy.Goals as goal

pub loop-place-preserved : goal.loop-place-preserved
loop-place-preserved c =
    let lt : c.loop-place.place < length c.args.buckets.now = c.loop-place-test.true in
    let here = ap length (bucket_at c.args.buckets.now c.loop-place.place c.index-buckets-place.result lt c.index-buckets-place.is) in
    full_more c.args.buckets.now c.loop-place.place lt c.loop-place.invariant (here ∙ c.is_full.ensures.is.0 c.if-not-is_full.false)
