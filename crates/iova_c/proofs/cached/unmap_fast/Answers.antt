use Rattle.iova_c.proofs.FastCalls.{given_up_call}
use Rattle.iova_c.proofs.cached.unmap_fast.Goals as goal

pub returns-in-Some-clause-given_up : goal.returns-in-Some-clause-given_up
returns-in-Some-clause-given_up c =
    rw c.in-Some.is (given_up_call c.unmap_fast.result c.in-Some.cached c.unmap_fast.new.self c.args.lo c.args.start c.unmap_fast.ensures.given_up c.unmap_fast.ensures.room)
