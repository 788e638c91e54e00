use Rattle.std.proofs.Common.{[], refl}
use Rattle.iova_lock.proofs.Batches.{tells_of_asked}
use Rattle.iova_lock.proofs.batch.batch.Goals as goal

pub returns-then-is_err-clause-runs : goal.returns-then-is_err-clause-runs
returns-then-is_err-clause-runs g c = record { events = []; allowed = refl; leads = refl; stored = refl }

pub returns-clause-runs : goal.returns-clause-runs
returns-clause-runs g c =
    let d = rw (c.may_do-asks.ensures.is, c.reserve.ensures.items, c.is_strict.ensures) at c.run_all.ensures.runs in
    record { events = d.events; allowed = d.allowed; leads = d.leads; stored = d.stored }

pub returns-clause-told : goal.returns-clause-told
returns-clause-told g c =
    tells_of_asked c.is_strict.result c.args.asks.now _ _ _ _ _ (rw (c.may_do-asks.ensures.is, c.reserve.ensures.items) at c.run_all.ensures.told)
