use Rattle.std.proofs.Common.{arith}
use Rattle.iova_cache.proofs.Stacks.{magazines_taken, is_taken}
use Rattle.iova_cache.proofs.magazine.Magazines.take_up_to.Goals as goal

pub invariant_of-self-2 : goal.invariant_of-self-2
invariant_of-self-2 c = magazines_taken c.self.inside.magazines.items c.args.order c.index_mut-magazine.result.now c.drop_newest.new.self c.in-Some.range c.self.invariant c.requires c.index_mut-magazine.ensures.value c.in-Some.ensures.some c.drop_newest.ensures

pub returns-clause-taken : goal.returns-clause-taken
returns-clause-taken c = rw (← c.self.view_is) (is_taken c.self.inside.magazines.items c.args.order c.index_mut-magazine.result.now c.drop_newest.new.self c.in-Some.range c.self.invariant c.requires c.index_mut-magazine.ensures.value c.in-Some.ensures.some c.drop_newest.ensures, omega (arith, c.hi.ensures))
