use Rattle.std.proofs.Common.{◌≤◌, ◌-◌, ◌<◌, length, refl, arith}
use Rattle.iova_cache.specs.Held.{home_of}
use Rattle.iova_cache.proofs.Tables.{IsTable-more, gains_pushed, seen_in, length_in_order, stray_none}
use Rattle.iova_cache.proofs.table.Table.insert_at_home.Goals as goal

pub invariant_of-self-2 : goal.invariant_of-self-2
invariant_of-self-2 c =
    let bs = c.self.inside.buckets.items in
    let some : 1 ≤ c.self.inside.room = omega (arith, c.if-self-eq0.false) in
    let lt : c.home-place.result < length bs = omega (arith, c.home-place.ensures.within, c.self.invariant.0.count) in
    let is = rw c.lo.ensures at c.home-place.ensures.is in
    let s = c.self.inside.strays.items in (
      IsTable-more bs s s c.self.inside.bits c.home-place.result c.home-place.result c.self.inside.room (c.self.inside.room - 1) c.args.range c.index_mut-bucket.result.now c.push.new.self c.self.invariant.0 is lt
          c.index_mut-bucket.ensures.value (rw c.push.ensures (gains_pushed c.args.range c.index_mut-bucket.result.now)) refl (omega arith) (λ p. omega (arith, stray_none c.home-place.result p)),
      c.self.invariant.1,
    )

pub returns-clause-gained : goal.returns-clause-gained
returns-clause-gained c =
    let bs = c.self.inside.buckets.items in
    let lt : c.home-place.result < length bs = omega (arith, c.home-place.ensures.within, c.self.invariant.0.count) in
    rw (← c.self.view_is)
    (seen_in c.args.range (home_of c.self.inside.bits) bs c.home-place.result c.index_mut-bucket.result.now c.push.new.self lt c.index_mut-bucket.ensures.value (rw c.push.ensures (gains_pushed c.args.range c.index_mut-bucket.result.now)))

pub returns-clause-room : goal.returns-clause-room
returns-clause-room c =
    rw (← c.self.view_is) (omega (arith, c.if-self-eq0.false, c.self.invariant.0.fills, length_in_order (home_of c.self.inside.bits) c.self.inside.buckets.items))
