use Rattle.std.proofs.Common.{refl}
use Rattle.iova_check.proofs.LineSteps.{line_taken, log_grows}
use Rattle.iova_check.proofs.run.CheckState.run_log_line.Goals as goal

pub returns-in-Ok-clause-takes : goal.returns-in-Ok-clause-takes
returns-in-Ok-clause-takes g c = λ one.
    let event = c.in-Some-read_event.event in
    let spelled = c.in-Some-read_event.ensures.spelled in
    line_taken c.args.source.now c.args.self.now _ c.args.line.now c.in-Some.checker c.check.new.self event
    (log_grows c.args.source.now event c.args.line.now c.requires.log spelled.0 spelled.1) c.requires.fresh c.in-Some.is c.in-Ok.ensures.ok refl refl
