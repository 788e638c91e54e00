use Rattle.iova_cache.proofs.Orders.{even_power, sizes_gained}
use Rattle.iova_cache.proofs.Stacks.{not_none}
use Rattle.iova_cache.proofs.cache.Cache.get_fast.Goals as goal

pub drop_newest-requires-clause-some : goal.drop_newest-requires-clause-some
drop_newest-requires-clause-some c = not_none _ c.in_ok-range.range c.in_ok-range.ensures.newest

pub invariant_of-self-2 : goal.invariant_of-self-2
invariant_of-self-2 c =
    sizes_gained c.in_ok-range.range c.self.inside.held.ranges c.insert_at_home.new.self.ranges c.if-not-insert_at_home.ensures.gained (even_power c.in_ok-range.range c.args.order c.requires c.in_ok-range.ensures.size) c.self.invariant
