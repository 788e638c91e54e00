use Rattle.std.proofs.Common.{arith, append_assoc}
use Rattle.itoa.proofs.Decimal.{decimal_pair}
use Rattle.iova_text.proofs.buffer.put_short.Goals as goal

pub returns-else-n-lt100-clause-items : goal.returns-else-n-lt100-clause-items
returns-else-n-lt100-clause-items g c =
    rw (c.put_pair.ensures, c.put_shorter-else-n-lt100.ensures.items, decimal_pair c.args.n (omega (arith, c.if-n-lt100.false)) c.ranges.n.fits)
    (append_assoc c.args.out.now.items _ _)
