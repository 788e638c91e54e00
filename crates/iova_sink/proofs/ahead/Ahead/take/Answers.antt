use Rattle.std.proofs.Common.{length-take-le, sym, arith}
use Rattle.iova_sink.proofs.HandedOn.{handed_on}
use Rattle.iova_sink.proofs.ahead.Ahead.take.Goals as goal

pub returns-clause-order : goal.returns-clause-order
returns-clause-order c =
    handed_on c.self.inside.bytes _ c.copy_from_slice.new.self c.args.self.now c.self.inside.from c.self.inside.left c.min-n.result (omega (arith, c.min-n.ensures)) c.self.invariant
    c.copy_from_slice.ensures.after (omega (arith, c.copy_from_slice.ensures.len, length-take-le c.min-n.result c.args.buffer.now (omega (arith, c.min-n.ensures)))) (sym c.self.view_is)
