use Rattle.std.proofs.Common.{◌<◌, arith}
use Rattle.iova_mag.proofs.Frames.{frames_of-pairs}
use Rattle.iova_mag.proofs.worker.WorkerCache.frames.Goals as goal

pub loop-order-preserved : goal.loop-order-preserved
loop-order-preserved c =
    let order : c.loop-order.order < 6 = omega arith in
    let few = c.loop-order.invariant.few in
    let more = c.frames-frames.ensures.few in
    record {
      counted = λ worker. (let step = frames_of-pairs _ _ _ _ _ c.self.invariant order c.index.ensures c.frames-frames.ensures.is worker in omega (arith, c.loop-order.invariant.counted worker));
      few = omega arith;
    }
