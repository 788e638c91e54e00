use Rattle.std.proofs.Common.{◌∙◌}
use Rattle.iova_lock.proofs.Batches.{none_runs, stop_runs, more_runs}
use Rattle.iova_lock.proofs.batch.+run_all.Goals as goal

pub returns-in_default-clause-runs : goal.returns-in_default-clause-runs
returns-in_default-clause-runs g t c = none_runs _ _ c.args.asks.now _ _ _ _ c.in_default.ensures.cases

pub returns-then-not-run_one-clause-runs : goal.returns-then-not-run_one-clause-runs
returns-then-not-run_one-clause-runs g t c =
    let none = c.if-not-run_one.true in
    let stops = c.run_one.ensures.stops none in
    rw c.in-Some.ensures.cases.0 (stop_runs _ _ _ _ _ _ _ _ _ _ _ _ stops.2 stops.1 (c.run_one.ensures.runs_none none))

pub returns-clause-runs : goal.returns-clause-runs
returns-clause-runs g t c =
    let one = c.run_one.ensures.runs c.if-not-run_one.false in
    let same = c.run_one.ensures.rest.1.0 in
    rw c.in-Some.ensures.cases.0 (more_runs _ _ _ _ _ _ _ _ _ _ _ _ _ _ _ _ _ one (rw same at c.run_all.ensures.runs))

pub returns-clause-rest : goal.returns-clause-rest
returns-clause-rest g t c =
    let h = c.run_one.ensures.rest in
    let k = c.run_all.ensures.rest in
    ((k.0.0 ∙ h.0.0, k.0.1 ∙ h.0.1), (k.1.0 ∙ h.1.0, k.1.1 ∙ h.1.1))
