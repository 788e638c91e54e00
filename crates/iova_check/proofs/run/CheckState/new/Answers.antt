use Rattle.iova_check.proofs.LineSteps.{begun_stands}
use Rattle.iova_check.proofs.run.CheckState.new.Goals as goal

pub returns-clause-ok : goal.returns-clause-ok
returns-clause-ok c = begun_stands c.args.source.now _ c.in_ok-checker.ensures.ok c.new.ensures c.in_ok-findings.ensures.items
