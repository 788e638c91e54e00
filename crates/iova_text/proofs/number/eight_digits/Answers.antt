use Rattle.std.proofs.Common.{arith}
use Rattle.iova_text.proofs.EightDigits.{less_zeros, eight_are, tested_spell}
use Rattle.iova_text.proofs.number.eight_digits.Goals as goal

pub overflow_mul-pairs : goal.overflow_mul-pairs
overflow_mul-pairs c =
    omega (arith, eight_are (less_zeros c.from_le_bytes-digits.result) (omega arith) c.if-digits-ne0.false c.if-digits-ne0-2.false)

pub overflow_add-pairs : goal.overflow_add-pairs
overflow_add-pairs c =
    omega (arith, eight_are (less_zeros c.from_le_bytes-digits.result) (omega arith) c.if-digits-ne0.false c.if-digits-ne0-2.false)

pub returns-clause-spelled : goal.returns-clause-spelled
returns-clause-spelled c =
    (tested_spell c.args.text.now c.in_ok-bytes.bytes.now c.from_le_bytes-digits.result c.requires.within (λ i. omega (arith, c.type_inv.text i)) c.requires.first
    c.in_ok-bytes.ensures.cases.same (omega (arith, c.from_le_bytes-digits.ensures)) c.if-digits-ne0.false c.if-digits-ne0-2.false).spelled

pub returns-clause-some : goal.returns-clause-some
returns-clause-some c =
    (tested_spell c.args.text.now c.in_ok-bytes.bytes.now c.from_le_bytes-digits.result c.requires.within (λ i. omega (arith, c.type_inv.text i)) c.requires.first
    c.in_ok-bytes.ensures.cases.same (omega (arith, c.from_le_bytes-digits.ensures)) c.if-digits-ne0.false c.if-digits-ne0-2.false).some

pub returns-clause-fits : goal.returns-clause-fits
returns-clause-fits c =
    (tested_spell c.args.text.now c.in_ok-bytes.bytes.now c.from_le_bytes-digits.result c.requires.within (λ i. omega (arith, c.type_inv.text i)) c.requires.first
    c.in_ok-bytes.ensures.cases.same (omega (arith, c.from_le_bytes-digits.ensures)) c.if-digits-ne0.false c.if-digits-ne0-2.false).fits
