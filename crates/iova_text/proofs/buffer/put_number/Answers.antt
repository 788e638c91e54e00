use Rattle.std.proofs.Common.{arith, append_assoc}
use Rattle.itoa.proofs.Decimal.{decimal_four}
use Rattle.iova_text.proofs.buffer.put_number.Goals as goal

pub returns-then-n-lt100000000-clause-items : goal.returns-then-n-lt100000000-clause-items
returns-then-n-lt100000000-clause-items g c =
    rw (
      c.put_pair-then-n-lt100000000.ensures,
      c.put_pair.ensures,
      c.put_short-then-n-lt100000000.ensures.items,
      decimal_four c.args.n (omega (arith, c.if-n-lt10000.false)) c.ranges.n.fits,
    ) (simp append_assoc)
