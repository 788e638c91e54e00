use Rattle.iova_cache.proofs.Stacks.{magazines_put}
use Rattle.iova_cache.proofs.magazine.Magazines.put.Goals as goal

pub invariant_of-self-2 : goal.invariant_of-self-2
invariant_of-self-2 c = magazines_put c.self.inside.magazines.items c.args.order c.index_mut-magazine.result.now c.push.new.self c.args.range c.self.invariant c.requires.order c.index_mut-magazine.ensures.value c.push.ensures c.requires.size
