use Rattle.std.proofs.Common.{arith}
use Rattle.std.proofs.lemmas.Bool.Decides.{nat_tests}
use Rattle.iova_flush.proofs.Sound.{AreSound-begun}
use Rattle.iova_flush.proofs.flights.Flights.begin.Goals as goal

pub invariant_of-self : goal.invariant_of-self
invariant_of-self c = rw c.push.ensures.items (AreSound-begun _ (grind (arith, nat_tests)) (omega arith) c.self.invariant)
