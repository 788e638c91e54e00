use Rattle.std.proofs.Common.{◌≡◌, ◌+◌, ◌-◌, ◌%◌, ◌<◌, ◌≤◌, ◌^◌, ℕ, get_or, arith}
use Rattle.iova_text.proofs.Digits.{digit_fits, digit_more}
use Rattle.iova_text.proofs.number.digits.Goals as goal

-- a byte less 48, without a borrow
abbrev digit_of : ℕ → ℕ
digit_of b = (b + (2 ^ 64 - 48)) % 2 ^ 64

digit_is : (b : ℕ) → b < 2 ^ 8 → digit_of b ≤ 9 → b ≡ 48 + digit_of b
digit_is b byte few = omega (arith, byte, few)

pub overflow_mul-n : goal.overflow_mul-n
overflow_mul-n c =
    omega (arith, (digit_fits c.loop-len.n 0 c.loop-len.len c.loop-len.invariant.fits (omega arith) (omega (arith, c.loop-len-test.true, c.requires.within))).1)

pub overflow_add-n : goal.overflow_add-n
overflow_add-n c =
    let digit = digit_of c.from-digit.result in
    let sure : c.loop-len.len < 19 = omega (arith, c.loop-len-test.true, c.requires.within) in
    omega (arith, (digit_fits c.loop-len.n digit c.loop-len.len c.loop-len.invariant.fits (omega (arith, c.if-digit-gt9.false)) sure).1)

pub loop-len-preserved : goal.loop-len-preserved
loop-len-preserved c =
    let text = c.args.text.now in
    let n = c.loop-len.n in
    let len = c.loop-len.len in
    let digit = digit_of c.from-digit.result in
    let few : digit < 10 = omega (arith, c.if-digit-gt9.false) in
    let small : c.from-digit.result < 2 ^ 8 = omega (arith, c.from-digit.ensures, c.type_inv.text len) in
    let byte : get_or text len 0 ≡ 48 + digit = omega (arith, c.from-digit.ensures, digit_is c.from-digit.result small c.if-digit-gt9.false) in
    let fits = digit_fits n digit len c.loop-len.invariant.fits few (omega (arith, c.loop-len-test.true, c.requires.within)) in
    record {
      from = omega (arith, c.loop-len.invariant.from);
      to = omega (arith, c.loop-len-test.true);
      some = omega (arith, c.loop-len.invariant.some);
      fits = fits.0;
      spelled = digit_more text n digit len (omega (arith, c.loop-len-test.true, c.requires.within)) byte few c.loop-len.invariant.some c.loop-len.invariant.fits
          (omega (arith, c.loop-len-test.true, c.requires.within)) c.loop-len.invariant.spelled;
    }
