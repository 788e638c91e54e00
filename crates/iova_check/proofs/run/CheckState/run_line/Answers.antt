use Rattle.std.proofs.Common.{subst}
use Rattle.iova_check.specs.declared.source.Form.{Form}
use Rattle.iova_check.specs.CheckState.{IsKeptOf}
use Rattle.iova_check.proofs.run.CheckState.run_line.Goals as goal

pub returns-in-Trace-clause-takes : goal.returns-in-Trace-clause-takes
returns-in-Trace-clause-takes g c = λ whole one kept.
    let P : Form → Type 0 = λ f. IsKeptOf f c.args.line.now whole in
    c.run_trace_line.ensures.takes c.args.source.now whole c.in-Trace.is one (subst P c.in-Trace.is kept)
