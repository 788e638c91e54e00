use Rattle.std.proofs.Common.{◌≢◌, ◌+◌, ◌<◌, length, find, get_or, None, [], sym, ap, ◌∙◌, arith}
use Rattle.std.proofs.lemmas.List.{get_or_default}
use Rattle.iova_model.specs.Clients.{begins_at}
use Rattle.iova_cache.specs.Held.{home_of}
use Rattle.iova_cache.proofs.Tables.{alone, seen, none_beyond, bucket_at, is_stray, seen_out, IsTable-taken}
use Rattle.iova_cache.proofs.table.Table.take.Goals as goal

pub seek_from-place-requires-clause-alone : goal.seek_from-place-requires-clause-alone
seek_from-place-requires-clause-alone c = λ none.
    let bs = c.self.inside.buckets.items in
    let lt : c.home-home.result < length bs = omega (arith, c.home-home.ensures.within, c.self.invariant.0.count) in
    let within : c.home-home.result < length c.self.inside.strays.items = omega (arith, lt, c.self.invariant.0.slots) in
    rw c.as_slice.ensures.value
    (alone (home_of c.self.inside.bits) c.args.lo c.home-home.result bs c.self.inside.strays.items c.home-home.ensures.is lt c.self.invariant.0.away
    (get_or_default c.self.inside.strays.items c.home-home.result 0 c.index.result.now within ∙ (sym c.index.ensures ∙ none)))

pub returns-then-place-len-clause-value : goal.returns-then-place-len-clause-value
returns-then-place-len-clause-value c =
    let bs = c.self.inside.buckets.items in
    let found = rw c.as_slice.ensures.value at c.seek_from-place.ensures.is in
    rw (← c.self.view_is)
    (sym (seen (home_of c.self.inside.bits) c.args.lo c.home-home.result c.seek_from-place.result bs c.home-home.ensures.is found ∙ none_beyond c.args.lo c.seek_from-place.result bs (omega (arith, c.if-place-len.true, c.len.ensures))))

pub lose_stray-requires-clause-some : goal.lose_stray-requires-clause-some
lose_stray-requires-clause-some c = λ ne.
    let bs = c.self.inside.buckets.items in
    let lt : c.home-home.result < length bs = omega (arith, c.home-home.ensures.within, c.self.invariant.0.count) in
    let there : c.seek_from-place.result < length bs = omega (arith, c.if-place-len.false, c.len.ensures, c.seek_from-place.ensures.within, c.as_slice.ensures.len) in
    let some : find (begins_at c.args.lo) (get_or bs c.seek_from-place.result []) ≢ None = rw c.as_slice.ensures.value at (c.seek_from-place.ensures.found (omega (arith, there, c.as_slice.ensures.len))) in
    is_stray (home_of c.self.inside.bits) bs c.self.inside.strays.items c.home-home.result c.seek_from-place.result c.args.lo c.home-home.ensures.is lt there ne some c.self.invariant.0.away

pub invariant_of-self : goal.invariant_of-self
invariant_of-self c =
    let bs = c.self.inside.buckets.items in
    let there : c.seek_from-place.result < length bs = omega (arith, c.if-place-len.false, c.len.ensures, c.seek_from-place.ensures.within, c.as_slice.ensures.len) in
    let some : find (begins_at c.args.lo) (get_or bs c.seek_from-place.result []) ≢ None = rw c.as_slice.ensures.value at (c.seek_from-place.ensures.found (omega (arith, there, c.as_slice.ensures.len))) in (
      IsTable-taken c.take-taken.result bs c.self.inside.strays.items c.lose_stray.new.strays.items c.self.inside.bits c.home-home.result c.seek_from-place.result c.args.lo c.self.inside.room (c.self.inside.room + 1)
          c.index_mut.result.now c.take-taken.new.self c.self.invariant.0 c.home-home.ensures.is there c.index_mut.ensures.value c.take-taken.ensures.value some c.take-taken.ensures.taken
          c.lose_stray.ensures.slots (omega arith) c.lose_stray.ensures.each,
      c.self.invariant.1,
    )

pub returns-clause-value : goal.returns-clause-value
returns-clause-value c =
    let bs = c.self.inside.buckets.items in
    let found = rw c.as_slice.ensures.value at c.seek_from-place.ensures.is in
    let there : c.seek_from-place.result < length bs = omega (arith, c.if-place-len.false, c.len.ensures, c.seek_from-place.ensures.within, c.as_slice.ensures.len) in
    rw (← c.self.view_is)
    (c.take-taken.ensures.value ∙ (ap (λ b. find (begins_at c.args.lo) b) (sym (bucket_at bs c.seek_from-place.result c.index_mut.result.now there c.index_mut.ensures.value))
    ∙ sym (seen (home_of c.self.inside.bits) c.args.lo c.home-home.result c.seek_from-place.result bs c.home-home.ensures.is found)))

pub returns-clause-taken : goal.returns-clause-taken
returns-clause-taken c =
    let bs = c.self.inside.buckets.items in
    let there : c.seek_from-place.result < length bs = omega (arith, c.if-place-len.false, c.len.ensures, c.seek_from-place.ensures.within, c.as_slice.ensures.len) in
    rw (← c.self.view_is)
    (seen_out c.take-taken.result (home_of c.self.inside.bits) bs c.seek_from-place.result c.index_mut.result.now c.take-taken.new.self there c.index_mut.ensures.value c.take-taken.ensures.taken)
