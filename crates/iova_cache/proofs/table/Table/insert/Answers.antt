use Rattle.std.proofs.Common.{◌≤◌, ◌-◌, ◌<◌, length, arith}
use Rattle.iova_cache.specs.Held.{home_of}
use Rattle.iova_cache.proofs.Tables.{IsTable-more, gains_pushed, seen_in, length_in_order, few_strays, some_buckets}
use Rattle.iova_cache.proofs.table.Table.insert.Goals as goal

pub gain_stray-requires-clause-fits : goal.gain_stray-requires-clause-fits
gain_stray-requires-clause-fits c =
    let bs = c.self.inside.buckets.items in
    let lt : c.home-home.result < length bs = omega (arith, c.home-home.ensures.within, c.self.invariant.0.count) in
    omega (arith, few_strays (home_of c.self.inside.bits) bs c.self.inside.strays.items c.home-home.result lt c.self.invariant.0.away, c.self.invariant.0.fills, some_buckets bs c.self.inside.strays.items c.self.inside.bits c.self.inside.room c.self.invariant.0)

pub overflow_sub-self : goal.overflow_sub-self
overflow_sub-self c =
    let room = rw (← c.self.view_is) at c.requires.room in
    omega (arith, room, c.self.invariant.0.fills, length_in_order (home_of c.self.inside.bits) c.self.inside.buckets.items)

pub invariant_of-self : goal.invariant_of-self
invariant_of-self c =
    let bs = c.self.inside.buckets.items in
    let room = rw (← c.self.view_is) at c.requires.room in
    let some : 1 ≤ c.self.inside.room = omega (arith, room, c.self.invariant.0.fills, length_in_order (home_of c.self.inside.bits) bs) in
    let there : c.roomy_from-place.result < length bs = omega (arith, c.roomy_from-place.ensures.within, c.as_slice.ensures.len) in
    let is = rw c.lo.ensures at c.home-home.ensures.is in (
      IsTable-more bs c.self.inside.strays.items c.gain_stray.new.strays.items c.self.inside.bits c.home-home.result c.roomy_from-place.result c.self.inside.room (c.self.inside.room - 1) c.args.range c.index_mut.result.now c.push.new.self c.self.invariant.0 is there
          c.index_mut.ensures.value (rw c.push.ensures (gains_pushed c.args.range c.index_mut.result.now)) c.gain_stray.ensures.slots (omega arith) c.gain_stray.ensures.each,
      c.self.invariant.1,
    )

pub returns-clause-gained : goal.returns-clause-gained
returns-clause-gained c =
    let bs = c.self.inside.buckets.items in
    let there : c.roomy_from-place.result < length bs = omega (arith, c.roomy_from-place.ensures.within, c.as_slice.ensures.len) in
    rw (← c.self.view_is)
    (seen_in c.args.range (home_of c.self.inside.bits) bs c.roomy_from-place.result c.index_mut.result.now c.push.new.self there c.index_mut.ensures.value (rw c.push.ensures (gains_pushed c.args.range c.index_mut.result.now)))
