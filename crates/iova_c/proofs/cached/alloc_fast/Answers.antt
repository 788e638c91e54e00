use Rattle.iova_c.proofs.FastCalls.{met_call}
use Rattle.iova_c.proofs.cached.alloc_fast.Goals as goal

pub returns-in-Some-clause-met : goal.returns-in-Some-clause-met
returns-in-Some-clause-met c =
    rw c.in-Some.is (met_call c.alloc_fast.result c.in-Some.cached c.alloc_fast.new.self c.args.frames c.args.limit c.alloc_fast.ensures.met)
