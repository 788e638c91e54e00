use Rattle.std.proofs.Common.{refl}
use Rattle.iova_trace.proofs.LineSteps.{overlong}
use Rattle.iova_trace.proofs.replay.ReplayState.keep_part.Goals as goal

pub returns-else-keep-clause-takes : goal.returns-else-keep-clause-takes
returns-else-keep-clause-takes c log = (
  overlong c.args.self.now log c.args.bytes.now c.number.result (c.if-keep.ensures.long refl).0 c.number.ensures,
  refl,
)
