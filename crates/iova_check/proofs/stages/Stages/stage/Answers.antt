use Rattle.std.proofs.Common.{sym}
use Rattle.std.specs.BTreeMap.{get}
use Rattle.std.specs.Ordering.{nat_cmp}
use Rattle.iova_check.proofs.Marks.{last_shown, none_shown}
use Rattle.iova_check.proofs.stages.Stages.stage.Goals as goal

pub returns-in-Some : goal.returns-in-Some
returns-in-Some c =
    let range = c.range.ensures.in_range tt in
    let entry = range.3 _ _ c.in-Some.ensures.steps in
    sym (last_shown (get nat_cmp c.args.self.now.marks) c.in-Some.field-0-0.now c.args.frame c.in-Some.stage.now entry.0.1 entry.1 (range.4 _ _ c.in-Some.ensures.steps))

pub returns-in-None : goal.returns-in-None
returns-in-None c = sym (none_shown (get nat_cmp c.args.self.now.marks) c.args.frame ((c.range.ensures.in_range tt).5 c.in-None.ensures.steps.0))
