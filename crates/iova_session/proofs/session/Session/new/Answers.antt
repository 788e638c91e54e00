use Rattle.std.proofs.Common.{refl, arith}
use Rattle.iova_session.specs.Desks.{client_after, listed_after, AreAnswers}
use Rattle.iova_session.proofs.session.Session.new.Goals as goal

pub invariant_of-result : goal.invariant_of-result
unfolding client_after listed_after AreAnswers
invariant_of-result c = rw c.new.ensures (refl, refl, omega arith, tt)
