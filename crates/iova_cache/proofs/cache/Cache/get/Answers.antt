use Rattle.iova_cache.proofs.Orders.{even_power, sizes_gained}
use Rattle.iova_cache.proofs.cache.Cache.get.Goals as goal

pub invariant_of-self-2 : goal.invariant_of-self-2
invariant_of-self-2 c =
    sizes_gained c.in_ok-range.range c.self.inside.held.ranges c.insert.new.self.ranges c.insert.ensures.gained (even_power c.in_ok-range.range c.args.order c.requires.order c.in_ok-range.ensures.taken.0.size) c.self.invariant
