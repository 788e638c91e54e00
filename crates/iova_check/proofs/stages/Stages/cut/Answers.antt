use Rattle.std.proofs.Common.{ap, ◌∙◌, Some}
use Rattle.std.specs.BTreeMap.{get}
use Rattle.std.specs.Ordering.{nat_cmp}
use Rattle.iova_check.specs.declared.stage.Stage.{Stage}
use Rattle.iova_check.proofs.Marks.{shown_cut}
use Rattle.iova_check.proofs.stages.Stages.cut.Goals as goal

pub returns-clause-same : goal.returns-clause-same
returns-clause-same c =
    shown_cut (get nat_cmp c.args.self.now.marks) (get nat_cmp c.mark.new.self.marks) c.args.at
    (c.in_ok-mark.ensures.marked ∙ ap (λ (s : Stage). Some s) c.stage-stage.ensures) c.in_ok-mark.ensures.others
