use Rattle.std.proofs.Common.{◌≢◌, ◌<◌, find, take, drop, length, None, ap, arith}
use Rattle.std.proofs.lemmas.List.{length-take-le, length-drop}
use Rattle.iova_model.specs.Clients.{begins_at}
use Rattle.iova_cache.proofs.Tables.{sought_at, sought_onward, sought_around, bucket_at, is_some_not, the_rest}
use Rattle.iova_cache.proofs.table.seek_from.Goals as goal

pub returns-then-is_some-clause-is : goal.returns-then-is_some-clause-is
returns-then-is_some-clause-is c =
    let here = bucket_at c.args.buckets.now c.args.home c.index-buckets-home.result c.requires.within c.index-buckets-home.is in
    let found : find (begins_at c.args.lo) c.index-buckets-home.result ≢ None = rw c.find.ensures.is at (is_some_not c.find.result c.is_some.result c.is_some.ensures c.if-is_some.true) in
    sought_at c.args.lo c.args.home c.args.buckets.now c.requires.within (rw here found)

pub returns-then-onward-buckets-clause-is : goal.returns-then-onward-buckets-clause-is
returns-then-onward-buckets-clause-is c =
    let bs = c.args.buckets.now in
    let h = c.args.home in
    let lt : c.seek-onward.result < length (drop h bs) = omega (arith, length-drop h bs, c.if-onward-buckets.true) in
    sought_onward c.args.lo h c.seek-onward.result bs lt (rw (the_rest h bs) at c.seek-onward.ensures.before) (rw (the_rest h bs) at (c.seek-onward.ensures.found (omega (arith, lt, ap length (the_rest h bs)))))

pub returns-clause-is : goal.returns-clause-is
returns-clause-is c =
    let bs = c.args.buckets.now in
    let h = c.args.home in
    let long = length-drop h bs in
    let short = length-take-le h bs (omega (arith, c.requires.within)) in
    let lt : c.seek-around.result < length (take h bs) = omega (arith, short, c.if-around-home.false, c.seek-around.ensures.within) in
    sought_around c.args.lo h c.seek-around.result c.seek-onward.result bs (omega (arith, long, c.if-onward-buckets.false)) (rw (the_rest h bs) at c.seek-onward.ensures.before)
    lt (omega (arith, short, lt)) c.seek-around.ensures.before (c.seek-around.ensures.found lt)
