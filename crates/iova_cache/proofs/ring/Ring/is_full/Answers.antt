use Rattle.std.proofs.Common.{rules, arith}
use Rattle.iova_cache.proofs.Windows.{length_window}
use Rattle.iova_cache.proofs.ring.Ring.is_full.Goals as goal

pub returns-clause-full : goal.returns-clause-full
returns-clause-full c = let long = length_window c.self.inside.slots.items c.self.inside.head c.self.inside.count in rw (← c.self.view_is, long) (search rules)

pub returns-clause-bounded : goal.returns-clause-bounded
returns-clause-bounded c = let long = length_window c.self.inside.slots.items c.self.inside.head c.self.inside.count in rw (← c.self.view_is) (omega (arith, long, c.self.invariant.few))
