use Rattle.std.proofs.Common.{sym, ◌∙◌, arith}
use Rattle.std.specs.BTreeMap.{get}
use Rattle.std.specs.Ordering.{nat_cmp}
use Rattle.iova_check.proofs.Marks.{before_is}
use Rattle.iova_check.proofs.stages.Stages.stage_before.Goals as goal

pub returns : goal.returns
returns c = c.stage.ensures ∙ sym (before_is (get nat_cmp c.args.self.now.marks) c.args.at (omega arith))
