use Rattle.iova_range.proofs.Powers.{align_of-from_next}
use Rattle.iova_range.proofs.sizes.align_of.Goals as goal

pub returns-clause-computed : goal.returns-clause-computed
returns-clause-computed c =
    let e = c.next_power_of_two.ensures in
    align_of-from_next c.args.size c.next_power_of_two.result c.requires.some (e.power, e.lower_bound, e.upper_bound)
