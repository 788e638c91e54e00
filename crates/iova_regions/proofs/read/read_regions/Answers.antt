use Rattle.std.proofs.Common.{arith}
use Rattle.iova_regions.proofs.Taking.{read_more}
use Rattle.iova_regions.proofs.read.read_regions.Goals as goal

pub loop-rest-preserved : goal.loop-rest-preserved
loop-rest-preserved c =
    let line = c.in-Some.ensures.spelled in
    let taken = c.in-Ok.ensures in
    record {
      read = read_more c.args.which c.args.bounds c.args.bytes.now c.loop-rest.rest.now c.in-Some.more.now c.loop-rest.number c.in-Some.region
          c.args.windows.now c.loop-rest.windows c.take_region.new.windows c.loop-rest.invariant.read line.1 line.0 taken.ok taken.room taken.covers;
      few = omega (arith, c.loop-rest.invariant.few, c.in-Some.ensures.less);
    }
