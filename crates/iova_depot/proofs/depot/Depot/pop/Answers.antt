use Rattle.std.proofs.Common.{◌≡◌, length, vec_len, arith}
use Rattle.iova_depot.proofs.OfMagazines.{stored-take, popped}
use Rattle.iova_depot.proofs.depot.Depot.pop.Goals as goal

pub invariant_of-self : goal.invariant_of-self
invariant_of-self c = (rw c.pop.ensures.rest (stored-take _ _ _ c.self.invariant.0), rw c.pop.ensures.capacity c.self.invariant.1)

pub returns-clause-some : goal.returns-clause-some
returns-clause-some c =
    let len : vec_len c.self.inside.magazines ≡ length c.self.inside.magazines.items = omega (arith, c.self.inside.magazines.ok.0) in
    rw (← c.self.view_is) (popped _ _ c.pop.result _ c.self.invariant.0 len c.pop.ensures.variant.0 c.pop.ensures.value)

pub returns-clause-sound : goal.returns-clause-sound
returns-clause-sound c = rw c.pop.ensures.rest (stored-take _ _ _ c.self.invariant.0).sound
