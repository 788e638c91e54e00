use Rattle.std.proofs.Common.{◌<◌, length, arith}
use Rattle.std.proofs.lemmas.List.{take_all}
use Rattle.iova_cache.specs.Held.{home_of}
use Rattle.iova_cache.proofs.Tables.{none_more, nothing_held, is_found, any_first, any_some}
use Rattle.iova_cache.proofs.table.Table.any.Goals as goal

pub loop-place-preserved : goal.loop-place-preserved
loop-place-preserved c =
    none_more c.self.inside.buckets.items c.loop-place.place c.index-bucket.result.now (omega (arith, c.len-count.ensures)) c.index-bucket.ensures (omega (arith, c.len-ranges.ensures.is)) c.loop-place.invariant

pub returns-then-ranges-gt0-clause-first : goal.returns-then-ranges-gt0-clause-first
returns-then-ranges-gt0-clause-first c = any_first c.find.result _ c.args.self.now.ranges c.find.ensures.is

pub returns-then-ranges-gt0-clause-none : goal.returns-then-ranges-gt0-clause-none
returns-then-ranges-gt0-clause-none c =
    let bs = c.self.inside.buckets.items in
    let lt : c.loop-place.place < length bs = omega (arith, c.loop-place-test.true, c.len-count.ensures) in
    any_some c.find.result c.lo.result c.args.self.now.ranges c.find.ensures.is
    (rw (← c.self.view_is) (is_found (home_of c.self.inside.bits) c.lo.result bs c.loop-place.place c.index-bucket.result.now c.get-range.result lt c.index-bucket.ensures (omega (arith, c.if-ranges-gt0.true, c.len-ranges.ensures.is)) c.get-range.ensures.value c.lo.ensures))

pub returns-clause-none : goal.returns-clause-none
returns-clause-none c =
    let bs = c.self.inside.buckets.items in
    let all = take_all c.loop-place.place bs (omega (arith, c.loop-place-test.false, c.len-count.ensures)) in
    rw (← c.self.view_is) (nothing_held (home_of c.self.inside.bits) bs (rw all at c.loop-place.invariant))
