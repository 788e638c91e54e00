use Rattle.std.proofs.Common.{arith}
use Rattle.iova_c.proofs.Filled.{one_more, filled}
use Rattle.iova_c.proofs.lists.put_ranges.Goals as goal

pub loop-i-preserved : goal.loop-i-preserved
loop-i-preserved c =
    one_more c.loop-i.list c.args.list.now c.args.ranges.now c.loop-i.i c.lo.result c.len.result c.index-ranges-i.result c.lo.ensures
    c.len.ensures.is (omega arith) (omega arith) c.index-ranges-i.is c.loop-i.invariant.0 c.loop-i.invariant.1

pub returns : goal.returns
returns c =
    filled c.loop-i.list c.args.list.now c.args.ranges.now c.loop-i.i (omega arith) c.loop-i.invariant.0 c.loop-i.invariant.1
