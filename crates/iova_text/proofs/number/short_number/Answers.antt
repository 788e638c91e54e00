use Rattle.std.proofs.Common.{◌-◌, length, sym, arith}
use Rattle.std.proofs.lemmas.Bool.{eqb-false}
use Rattle.iova_text.proofs.Digits.{one_digit}
use Rattle.iova_text.proofs.number.short_number.Goals as goal

pub digits-n-requires-clause-front : goal.digits-n-requires-clause-front
digits-n-requires-clause-front c =
    let some = eqb-false (length c.args.text.now) 0 (sym c.if-is_empty.ensures) in
    one_digit c.args.text.now (c.from-first.result - 48) (omega (arith, some)) (omega arith) (omega arith)

pub digits-n-requires-in_default-clause-front : goal.digits-n-requires-in_default-clause-front
digits-n-requires-in_default-clause-front c = one_digit c.args.text.now (c.from-first.result - 48) (omega arith) (omega arith) (omega arith)
