use Rattle.std.proofs.Common.{arith}
use Rattle.std.proofs.lemmas.Fmt.{decimal_digit}
use Rattle.itoa.proofs.Decimal.{decimal_two}
use Rattle.iova_text.proofs.buffer.put_shorter.Goals as goal

pub returns-then-n-lt10-clause-items : goal.returns-then-n-lt10-clause-items
returns-then-n-lt10-clause-items g c = rw (decimal_digit c.args.n c.if-n-lt10.true) c.push.ensures.items

pub returns-else-n-lt10-clause-items : goal.returns-else-n-lt10-clause-items
returns-else-n-lt10-clause-items g c = rw (decimal_two c.args.n (omega (arith, c.if-n-lt10.false)) c.requires.short) c.put_pair.ensures
