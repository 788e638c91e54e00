use Rattle.std.proofs.Common.{refl}
use Rattle.iova_check.proofs.LineSteps.{header_taken}
use Rattle.iova_check.proofs.run.CheckState.run_header.Goals as goal

pub returns-clause-takes : goal.returns-clause-takes
returns-clause-takes g c = λ one.
    header_taken c.args.source.now c.args.self.now _ c.args.line.now c.in-Some.header.first c.in-Some.header.last c.in-Ok.checker c.check.new.self
    c.requires.log c.requires.fresh c.requires.first c.in-Some.ensures.spelled.0 c.in-Some.ensures.spelled.1 refl refl c.in-Ok.ensures c.in-Ok-check.ensures.ok
