use Rattle.iova_cache.proofs.Stacks.{newest_size}
use Rattle.iova_cache.proofs.magazine.Magazines.newest_up_to.Goals as goal

pub returns-clause-size : goal.returns-clause-size
returns-clause-size c = newest_size c.self.inside.magazines.items c.args.order c.index.result.now c.in_ok-range.range c.self.invariant c.requires c.index.ensures c.in_ok-range.ensures.some
