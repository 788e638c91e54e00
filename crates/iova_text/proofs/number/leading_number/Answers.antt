use Rattle.std.proofs.Common.{◌∙◌, decimal, sym}
use Rattle.std.proofs.lemmas.Fmt.{decimal_injective}
use Rattle.iova_text.proofs.Digits.{decimal-digits, front_is}
use Rattle.iova_text.proofs.number.leading_number.Goals as goal

pub returns-in-Some-clause-read : goal.returns-in-Some-clause-read
returns-in-Some-clause-read c = λ n rest fits stop e.
    let a = c.in-Some.n in
    let is = front_is (decimal a) c.in-Some.rest.now rest n fits (decimal-digits a c.in-Some.ensures.fits) c.in-Some.ensures.all stop (sym c.in-Some.ensures.spelled ∙ e) in
    (decimal_injective a n c.in-Some.ensures.fits fits is.0, is.1)
