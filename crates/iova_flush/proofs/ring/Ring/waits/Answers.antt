use Rattle.std.proofs.Common.{arith}
use Rattle.std.proofs.lemmas.Bool.Decides.{nat_tests}
use Rattle.iova_flush.proofs.RingSteps.{oldest-waits, waits-oldest, flushed-waits, unflushed-waits}
use Rattle.iova_flush.proofs.ring.Ring.waits.Goals as goal

pub returns-clause-is : goal.returns-clause-is
returns-clause-is c = (
  λ is. oldest-waits c.args.finish c.self.invariant c.self.view_is (grind (arith, nat_tests)),
  λ waits. let le = waits-oldest c.args.finish c.ranges.finish.fits c.self.invariant c.self.view_is waits in grind (arith, nat_tests),
)

pub returns-clause-none : goal.returns-clause-none
returns-clause-none c = λ is. flushed-waits c.args.finish c.args.self.now (oldest-waits c.args.finish c.self.invariant c.self.view_is (grind (arith, nat_tests)))

pub returns-clause-all : goal.returns-clause-all
returns-clause-all c = λ is. unflushed-waits c.args.finish c.args.self.now (oldest-waits c.args.finish c.self.invariant c.self.view_is (grind (arith, nat_tests)))
