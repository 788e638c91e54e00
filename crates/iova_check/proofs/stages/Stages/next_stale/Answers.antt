use Rattle.std.proofs.Common.{arith}
use Rattle.std.specs.BTreeMap.{get}
use Rattle.std.specs.Ordering.{nat_cmp}
use Rattle.iova_check.proofs.Marks.{unstale_along}
use Rattle.iova_check.proofs.stages.Stages.next_stale.Goals as goal

pub returns-clause-none : goal.returns-clause-none
returns-clause-none c = λ here f from under.
    unstale_along (get nat_cmp c.args.self.now.marks) c.args.frame f here from (λ q lt le. c.next_stale_mark.ensures.none q lt (omega arith))
