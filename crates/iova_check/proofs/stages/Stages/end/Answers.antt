use Rattle.std.proofs.Common.{arith}
use Rattle.std.specs.BTreeMap.{get}
use Rattle.std.specs.Ordering.{nat_cmp}
use Rattle.iova_check.proofs.Marks.{shown_bare}
use Rattle.iova_check.proofs.stages.Stages.end.Goals as goal

pub returns-clause-same : goal.returns-clause-same
returns-clause-same c = λ f from under.
    shown_bare (get nat_cmp c.args.self.now.marks) c.args.frame f from (λ q after le. c.next_mark.ensures.bare q after (omega arith))
