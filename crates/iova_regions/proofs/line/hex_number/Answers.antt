use Rattle.std.proofs.Common.{◌≡◌, ℕ, ◌<◌, ◌∙◌, refl, ap, List, length, get_or, arith}
use Rattle.iova_regions.specs.Text.{hex_digit}
use Rattle.iova_regions.proofs.Hex.{digit_at, digits_more, number_more, number_fits}
use Rattle.iova_regions.proofs.line.hex_number.Goals as goal

pub returns-in_err-digit-clause-none : goal.returns-in_err-digit-clause-none
returns-in_err-digit-clause-none c = λ none n e.
    let i = c.loop-byte.byte-index in
    let r = digit_at (length c.args.digits.now) n i c.loop-byte-test.true in
    c.in_err-digit.ensures.none refl r.0 r.1 (ap (λ (x : List ℕ). get_or x i 0) e ∙ r.2)

pub overflow_mul-n : goal.overflow_mul-n
overflow_mul-n c =
    let within : c.loop-byte.byte-index < 16 = omega (arith, c.loop-byte-test.true, c.requires) in
    omega (arith, number_fits c.loop-byte.byte-index c.loop-byte.n 0 within c.loop-byte.invariant.fits (omega arith))

pub overflow_add-n : goal.overflow_add-n
overflow_add-n c =
    let within : c.loop-byte.byte-index < 16 = omega (arith, c.loop-byte-test.true, c.requires) in
    let small : c.from.result < 16 = omega (arith, c.from.ensures, c.in_ok-digit.ensures.spelled.0) in
    omega (arith, number_fits c.loop-byte.byte-index c.loop-byte.n c.from.result within c.loop-byte.invariant.fits small)

pub loop-byte-preserved : goal.loop-byte-preserved
loop-byte-preserved c =
    let i = c.loop-byte.byte-index in
    let is : c.in_ok-digit.digit ≡ c.from.result = omega (arith, c.from.ensures) in
    let small : c.from.result < 16 = omega (arith, c.from.ensures, c.in_ok-digit.ensures.spelled.0) in
    record {
      digits = digits_more c.args.digits.now i c.loop-byte.n c.from.result c.loop-byte-test.true c.loop-byte.invariant.digits small
          (c.in_ok-digit.ensures.spelled.1 ∙ ap hex_digit is);
      fits = number_more i c.loop-byte.n c.from.result c.loop-byte.invariant.fits small;
    }
