use Rattle.std.proofs.Common.{arith}
use Rattle.std.proofs.lemmas.Nat.{pow_pos}
use Rattle.iova_cache.proofs.Orders.{small_power}
use Rattle.iova_cache.proofs.cache.Cache.put.Goals as goal

pub returns-then-len-eq0-clause-no_order : goal.returns-then-len-eq0-clause-no_order
returns-then-len-eq0-clause-no_order c = λ is order lt at. let some = pow_pos order in omega (arith, at, some, c.if-len-eq0.true)

pub returns-then-len-gt-MOST_CACHED-clause-no_order : goal.returns-then-len-gt-MOST_CACHED-clause-no_order
returns-then-len-gt-MOST_CACHED-clause-no_order c = λ is order lt at. let few = small_power order lt in omega (arith, at, few, c.if-len-gt-MOST_CACHED.true)
