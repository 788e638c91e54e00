use Rattle.std.proofs.Common.{◌<◌, length, find, sym, ap, ◌∙◌, arith}
use Rattle.std.proofs.lemmas.List.{get_or_default}
use Rattle.iova_model.specs.Clients.{begins_at}
use Rattle.iova_cache.specs.Held.{home_of}
use Rattle.iova_cache.proofs.Tables.{alone, seen, none_beyond, bucket_at}
use Rattle.iova_cache.proofs.table.Table.find.Goals as goal

pub seek_from-place-requires-clause-alone : goal.seek_from-place-requires-clause-alone
seek_from-place-requires-clause-alone c = λ none.
    let bs = c.self.inside.buckets.items in
    let lt : c.home-home.result < length bs = omega (arith, c.home-home.ensures.within, c.self.invariant.0.count) in
    let within : c.home-home.result < length c.self.inside.strays.items = omega (arith, lt, c.self.invariant.0.slots) in
    rw c.as_slice.ensures.value
    (alone (home_of c.self.inside.bits) c.args.lo c.home-home.result bs c.self.inside.strays.items c.home-home.ensures.is lt c.self.invariant.0.away
    (get_or_default c.self.inside.strays.items c.home-home.result 0 c.index.result.now within ∙ (sym c.index.ensures ∙ none)))

pub returns-then-place-len-clause-is : goal.returns-then-place-len-clause-is
returns-then-place-len-clause-is c =
    let bs = c.self.inside.buckets.items in
    let found = rw c.as_slice.ensures.value at c.seek_from-place.ensures.is in
    rw (← c.self.view_is)
    (sym (seen (home_of c.self.inside.bits) c.args.lo c.home-home.result c.seek_from-place.result bs c.home-home.ensures.is found ∙ none_beyond c.args.lo c.seek_from-place.result bs (omega (arith, c.if-place-len.true, c.len.ensures))))

pub returns-clause-is : goal.returns-clause-is
returns-clause-is c =
    let bs = c.self.inside.buckets.items in
    let found = rw c.as_slice.ensures.value at c.seek_from-place.ensures.is in
    let lt : c.seek_from-place.result < length bs = omega (arith, c.if-place-len.false, c.len.ensures, c.seek_from-place.ensures.within, c.as_slice.ensures.len) in
    rw (← c.self.view_is)
    (c.find.ensures.is ∙ (ap (λ b. find (begins_at c.args.lo) b) (sym (bucket_at bs c.seek_from-place.result c.index-2.result.now lt c.index-2.ensures))
    ∙ sym (seen (home_of c.self.inside.bits) c.args.lo c.home-home.result c.seek_from-place.result bs c.home-home.ensures.is found)))
