use Rattle.std.proofs.Common.{refl, ◌∙◌, ap, List, ◌∷◌, rules}
use Rattle.iova_check.specs.declared.event.Event.{Event}
use Rattle.iova_check.specs.Following.{Follows}
use Rattle.iova_check.specs.Counting.{counts_after}
use Rattle.iova_check.proofs.NextLines.{checks_next}
use Rattle.iova_check.proofs.checker.Checker.check.Goals as goal

pub returns-in-Ok-clause-ok : goal.returns-in-Ok-clause-ok
returns-in-Ok-clause-ok c =
    let follows : (past : List Event) → Follows past c.args.self.now.tracker → Follows (c.args.event ∷ past) c.take.new.self = search rules in
    checks_next c.args.self.now _ c.args.event c.args.out.now.items c.write_findings.new.out.items c.findings-told.result refl c.in-Ok.ensures.ok
    c.findings-told.ensures.told c.findings-told.ensures.breaks follows (c.in_ok-self.ensures.counted ∙ ap (counts_after c.args.self.now.counts c.args.event) c.how_many.ensures)
