use Rattle.std.proofs.Common.{◌+◌, ◌<◌, length, refl, sym, ap, ◌∙◌, arith}
use Rattle.iova_cache.specs.Held.{home_of}
use Rattle.iova_cache.proofs.Tables.{IsTable-less, seen_out_of, at_home, stray_none, found_begins}
use Rattle.iova_cache.proofs.table.Table.take_at_home.Goals as goal

pub invariant_of-self : goal.invariant_of-self
invariant_of-self c =
    let bs = c.self.inside.buckets.items in
    let s = c.self.inside.strays.items in
    let lt : c.home-place.result < length bs = omega (arith, c.home-place.ensures.within, c.self.invariant.0.count) in
    let told = c.in-Ok.ensures.taken in
    let at = found_begins c.args.lo c.index_mut-bucket.result.now c.in-Ok.range told.0 in (
      IsTable-less bs s s c.self.inside.bits c.home-place.result c.home-place.result c.self.inside.room (c.self.inside.room + 1) c.in-Ok.range c.index_mut-bucket.result.now c.take_cached.new.self c.self.invariant.0
          (c.home-place.ensures.is ∙ ap (home_of c.self.inside.bits) (sym at)) lt c.index_mut-bucket.ensures.value told.1 refl (omega arith) (λ p. omega (arith, stray_none c.home-place.result p)),
      c.self.invariant.1,
    )

pub returns-in-Ok-clause-taken : goal.returns-in-Ok-clause-taken
returns-in-Ok-clause-taken c =
    let bs = c.self.inside.buckets.items in
    let lt : c.home-place.result < length bs = omega (arith, c.home-place.ensures.within, c.self.invariant.0.count) in
    let told = c.in-Ok.ensures.taken in
    rw (← c.self.view_is) (
      at_home (home_of c.self.inside.bits) c.args.lo c.home-place.result bs c.index_mut-bucket.result.now c.in-Ok.range c.home-place.ensures.is lt c.index_mut-bucket.ensures.value told.0,
      seen_out_of c.in-Ok.range (home_of c.self.inside.bits) bs c.home-place.result c.index_mut-bucket.result.now c.take_cached.new.self lt c.index_mut-bucket.ensures.value told.1,
    )
