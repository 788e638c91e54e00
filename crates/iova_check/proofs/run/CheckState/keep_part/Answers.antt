use Rattle.iova_check.proofs.run.CheckState.keep_part.Goals as goal

pub returns-in-Log-clause-takes : goal.returns-in-Log-clause-takes
returns-in-Log-clause-takes g c = c.keep_all.ensures.takes c.args.source.now c.in-Log.is

pub returns-in-Trace-clause-takes : goal.returns-in-Trace-clause-takes
returns-in-Trace-clause-takes g c = c.keep_front.ensures.goes c.args.source.now c.in-Trace.field-0 c.in-Trace.is
