use Rattle.iova_cache.proofs.Orders.{is_cached, sizes_lost}
use Rattle.iova_cache.proofs.cache.Cache.unmap_fast.Goals as goal

pub add-requires-clause-cached : goal.add-requires-clause-cached
add-requires-clause-cached c =
    let lost = sizes_lost c.in_ok-range.range c.self.inside.held.ranges c.take_at_home.new.self.ranges c.in_ok-range.ensures.taken.1 c.self.invariant in
    rw c.entry_of.ensures (is_cached c.in_ok-range.range _ c.in_ok-range.ensures.held.low lost.0 c.in_ok-range.ensures.few)
