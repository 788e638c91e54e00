use Rattle.std.proofs.Common.{◌∙◌, refl}
use Rattle.iova_text.specs.Lines.{whole_line}
use Rattle.iova_check.proofs.LineSteps.{line_taken, trace_grows, front_says, no_memory}
use Rattle.iova_check.proofs.run.CheckState.run_trace_line.Goals as goal

pub returns-in-Ok-clause-takes : goal.returns-in-Ok-clause-takes
returns-in-Ok-clause-takes g c = λ source whole is one front.
    let event = c.read_trace_line-event.result in
    line_taken source c.args.self.now _ whole c.in-Some.checker c.check.new.self event
    (trace_grows source c.args.domain event whole is one (c.read_trace_line-event.ensures.said ∙ front_says c.args.domain c.args.line.now whole front))
    c.requires c.in-Some.is c.in-Ok.ensures.ok refl refl

pub returns-in-Err-clause-takes : goal.returns-in-Err-clause-takes
returns-in-Err-clause-takes g c = λ source whole is one front. (no_memory source c.args.self.now (whole_line whole), c.in-Err.ensures.err.1)
