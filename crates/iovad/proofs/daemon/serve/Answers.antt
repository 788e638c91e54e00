use Rattle.iovad.proofs.daemon.serve.Goals as goal

pub returns-clause-faults : goal.returns-clause-faults
returns-clause-faults g c = c.fault.ensures c.args.plan.now
