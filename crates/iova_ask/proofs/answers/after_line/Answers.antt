use Rattle.std.proofs.Common.{arith, refl}
use Rattle.iova_ask.proofs.Answering.{leaves_first, leaves_range}
use Rattle.iova_ask.proofs.answers.after_line.Goals as goal

pub returns-then-owed-gt0 : goal.returns-then-owed-gt0
returns-then-owed-gt0 c = leaves_range c.args.owed _ c.args.line.now c.requires.line (omega (arith, c.if-owed-gt0.true)) refl

pub returns-else-owed-gt0 : goal.returns-else-owed-gt0
returns-else-owed-gt0 c =
    leaves_first c.args.owed _ c.args.line.now c.requires.line (omega (arith, c.if-owed-gt0.false)) (omega (arith, c.if-owed-gt0.false, c.requires.some)) c.ranges_of.ensures
