use Rattle.std.proofs.Common.{◌∙◌, ◌≡◌, sym, rules}
use Rattle.std.specs.BTreeMap.{get}
use Rattle.std.specs.Ordering.{nat_cmp}
use Rattle.iova_check.proofs.Marks.{shown_join, apart_is}
use Rattle.iova_check.proofs.stages.Stages.join.Goals as goal

pub returns-then-eq : goal.returns-then-eq
returns-then-eq c =
    let same : c.stage_before.result ≡ c.stage.result = search rules in
    shown_join (get nat_cmp c.args.self.now.marks) (get nat_cmp c.remove-gone.new.self) c.args.at
    (sym c.stage_before.ensures ∙ (same ∙ c.stage.ensures)) c.remove-gone.ensures.updates.1
    (λ q other. c.remove-gone.ensures.updates.2 q (apart_is c.args.at q other))
