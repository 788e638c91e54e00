use Rattle.std.proofs.Common.{◌∙◌, ◌+◌, ◌<◌, ◌≤◌, length, sym, arith}
use Rattle.iova_check.proofs.DecimalDigits.{has_room, one_more_digit, decimal_step}
use Rattle.iova_check.proofs.trace.decimal_from.Goals as goal

pub overflow_mul-value : goal.overflow_mul-value
overflow_mul-value c =
    let inv = c.loop-first.invariant in
    let some : length c.in-Some.others.now + 1 ≤ length c.loop-first.rest.now = omega (arith, c.in-Some.ensures.cases.1) in
    omega (arith, has_room inv.0 c.loop-first.value (length c.loop-first.rest.now) inv.1 (omega arith) inv.2)

pub overflow_add-value : goal.overflow_add-value
overflow_add-value c =
    let inv = c.loop-first.invariant in
    let some : length c.in-Some.others.now + 1 ≤ length c.loop-first.rest.now = omega (arith, c.in-Some.ensures.cases.1) in
    omega (arith, has_room inv.0 c.loop-first.value (length c.loop-first.rest.now) inv.1 (omega arith) inv.2, c.from.ensures, c.in_ok-digit.ensures.small)

pub loop-first-preserved : goal.loop-first-preserved
loop-first-preserved c =
    let inv = c.loop-first.invariant in
    let small : c.from.result < 10 = omega (arith, c.from.ensures, c.in_ok-digit.ensures.small) in (
      inv.0 + 1,
      omega (arith, c.in-Some.ensures.cases.1, inv.1),
      one_more_digit inv.0 c.loop-first.value c.from.result inv.2 small,
      decimal_step c.loop-first.value c.in-Some.first.now c.in_ok-digit.digit c.from.result c.loop-first.rest.now c.in-Some.others.now c.in-Some.ensures.cases.0
          (sym c.in_ok-digit.ensures.is) c.from.ensures ∙ inv.3,
    )
