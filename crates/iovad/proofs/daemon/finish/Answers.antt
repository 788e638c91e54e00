use Rattle.iovad.proofs.daemon.finish.Goals as goal

pub returns-in-Err : goal.returns-in-Err
returns-in-Err g c = c.fault.ensures c.args.run.now.plan.now
