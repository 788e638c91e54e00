use Rattle.std.proofs.Common.{refl, ap, arith, subst, length}
use Rattle.iova_text.specs.Lines.{IsUnended}
use Rattle.iova_text.proofs.LineEnds.{overlong}
use Rattle.iova_text.proofs.cutter.LineCutter.keep.Goals as goal

pub returns-then-len-piece-ge-MAX_LINE-clause-long : goal.returns-then-len-piece-ge-MAX_LINE-clause-long
returns-then-len-piece-ge-MAX_LINE-clause-long c = λ no. (
  overlong c.args.self.now c.args.piece.now (subst IsUnended c.self.view_is c.self.invariant) c.requires
      (omega (arith, c.len.ensures.value, c.if-len-piece-ge-MAX_LINE.true, ap length c.self.view_is)),
  refl,
)
