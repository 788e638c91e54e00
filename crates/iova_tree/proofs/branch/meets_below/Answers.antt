use Rattle.std.proofs.Common.{◌-◌, false, sym, arith}
use Rattle.iova_range.specs.Frames.{Frames}
use Rattle.iova_tree.proofs.Allocated.{none_meets_below, none_meets_above}
use Rattle.iova_tree.proofs.branch.meets_below.Goals as goal

pub returns-then-link-lo : goal.returns-then-link-lo
returns-then-link-lo g c =
    let a : Frames = record { lo = c.args.lo; len = c.args.end - c.args.lo } in
    sym (none_meets_below false 0 a _ c.requires.rising (omega (arith, c.requires.linked.end_is, c.if-link-lo.true)))

pub returns-then-end-link : goal.returns-then-end-link
returns-then-end-link g c =
    let a : Frames = record { lo = c.args.lo; len = c.args.end - c.args.lo } in
    sym (none_meets_above false a _ c.requires.rising (omega (arith, c.requires.linked.first_is, c.if-end-link.true, c.requires.some)))
