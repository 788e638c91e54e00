use Rattle.std.proofs.Common.{ap, ◌∙◌, arith}
use Rattle.iova_range.specs.Sizes.{order_of}
use Rattle.iova_range.proofs.SmallSizes.{small_size, order_of_power}
use Rattle.iova_range.proofs.sizes.order_of_need.Goals as goal

pub returns-clause-low : goal.returns-clause-low
returns-clause-low c =
    (small_size c.args.frames c.requires.some (omega (arith, c.requires.few))).0

pub returns-clause-size : goal.returns-clause-size
returns-clause-size c =
    (small_size c.args.frames c.requires.some (omega (arith, c.requires.few))).1

pub returns-clause-is : goal.returns-clause-is
returns-clause-is c =
    let small = small_size c.args.frames c.requires.some (omega (arith, c.requires.few)) in
    ap order_of small.1 ∙ order_of_power _ small.0
