use Rattle.std.proofs.Common.{refl}
use Rattle.iova_tools.proofs.Sound.{checks_sound}
use Rattle.iova_tools.proofs.checking.check_from.Goals as goal

pub returns : goal.returns
returns g c =
    let checked = c.check_and_print-checked.ensures in
    checks_sound c.promise_is_told.ensures c.args.plan.now c.args.windows.now _ _ _ checked.0 checked.1 c.check_and_print-checked.result
    c.write_counts-told.result c.end_of_check-ended.result c.args.plan.now.path
    (record { form = refl; first = refl; last = refl; kept_out = c.ranges-2.ensures.is })
    checked.2 c.end_of_check-ended.ensures
