use Rattle.std.proofs.Common.{◌≡◌, ◌<◌, get_or, find, length, None, [], sym, ◌∙◌}
use Rattle.iova_model.specs.Clients.{begins_at}
use Rattle.iova_cache.proofs.Tables.{none_so_far, not_some, bucket_at}
use Rattle.iova_cache.proofs.table.seek.Goals as goal

pub loop-place-preserved : goal.loop-place-preserved
loop-place-preserved c =
    let lt : c.loop-place.place < length c.args.buckets.now = c.loop-place-test.true in
    let none : c.find.result ≡ None = not_some c.find.result c.is_some.result c.is_some.ensures c.if-is_some.false in
    let here : find (begins_at c.args.lo) (get_or c.args.buckets.now c.loop-place.place []) ≡ None
    = rw (bucket_at c.args.buckets.now c.loop-place.place c.index-buckets-place.result lt c.index-buckets-place.is) (sym c.find.ensures.is ∙ none) in
    none_so_far c.args.lo c.loop-place.place c.args.buckets.now lt c.loop-place.invariant here
