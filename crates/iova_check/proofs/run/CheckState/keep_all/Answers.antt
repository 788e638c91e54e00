use Rattle.std.proofs.Common.{refl, arith}
use Rattle.iova_check.proofs.LineSteps.{overlong}
use Rattle.iova_check.proofs.run.CheckState.keep_all.Goals as goal

pub returns-then-len-bytes-ge-MAX_LINE-clause-takes : goal.returns-then-len-bytes-ge-MAX_LINE-clause-takes
returns-then-len-bytes-ge-MAX_LINE-clause-takes g c = λ source is. (
  overlong source c.args.self.now c.args.bytes.now c.number-number.result is c.requires (omega (arith, c.len.ensures.value, c.if-len-bytes-ge-MAX_LINE.true)) c.number-number.ensures,
  refl,
)
