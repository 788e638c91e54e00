use Rattle.iova_lock.proofs.SingleHolds.{does_run, does_not_run}
use Rattle.iova_lock.proofs.Storing.{does}
use Rattle.iova_lock.proofs.book.Book.run_within.Goals as goal

pub returns-then-not-covers_step-clause-runs : goal.returns-then-not-covers_step-clause-runs
returns-then-not-covers_step-clause-runs g c = does_not_run _ _ _ _ (c.covers_step.ensures.none c.if-not-covers_step.true)

pub returns-then-not-covers_step-clause-does : goal.returns-then-not-covers_step-clause-does
returns-then-not-covers_step-clause-does g c = does (returns-then-not-covers_step-clause-runs g c)

pub returns-clause-runs : goal.returns-clause-runs
returns-clause-runs g c = does_run _ _ _ _ _ _ _ c.run.ensures.takes c.run.ensures.stores

pub returns-clause-does : goal.returns-clause-does
returns-clause-does g c = does (returns-clause-runs g c)
