use Rattle.std.proofs.Common.{refl, arith}
use Rattle.iova_session.proofs.Emptied.{told_good}
use Rattle.iova_session.proofs.leaving.leave_with.Goals as goal

pub returns-in-Ok-clause-place : goal.returns-in-Ok-clause-place
returns-in-Ok-clause-place g c =
    let k = told_good _ _ _ _ _ _ c.tell.ensures in
    let place = c.end_client.ensures.place in
    record { worker = place.worker; parts = place.parts; tally = omega (arith, place.tally, k) }

pub returns-in-Err-clause-place : goal.returns-in-Err-clause-place
returns-in-Err-clause-place g c = let k = told_good _ _ _ _ _ _ c.tell.ensures in record { worker = refl; parts = refl; tally = omega (arith, k) }
