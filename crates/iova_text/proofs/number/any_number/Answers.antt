use Rattle.std.proofs.Common.{arith, ◌≡◌, ◌∙◌, sym, ap, ℕ, ◌-◌, List, ◌∷◌, decimal, length, length-append, take, drop, get_or}
use Rattle.std.proofs.lemmas.Bool.{eqb-true, eqb-false}
use Rattle.std.proofs.lemmas.Fmt.{decimal_digit, decimal_nonempty}
use Rattle.iova_text.proofs.Cuts.{first_and_rest}
use Rattle.iova_text.proofs.Digits.{begins_with_zero}
use Rattle.iova_text.proofs.number.any_number.Goals as goal

pub returns-then-is_empty-clause-read : goal.returns-then-is_empty-clause-read
returns-then-is_empty-clause-read c = λ n rest fits stop e.
    let none : length c.args.text.now ≡ 0 = eqb-true (length c.args.text.now) 0 (sym c.if-is_empty.ensures) in
    omega (arith, none, ap length e, length-append (decimal n) rest, decimal_nonempty n fits)

-- the text is a `0` and the rest
from_zero : (text : List ℕ) → (length text ≡ 0 → ⊥) → get_or text 0 0 ≡ 48 → text ≡ 48 ∷ take (length text - 1) (drop 1 text)
from_zero text some zero =
    let cut = first_and_rest text (omega (arith, some)) in
    cut ∙ ap (λ b. b ∷ take (length text - 1) (drop 1 text)) zero

pub returns-then-text-eq48-clause-spelled : goal.returns-then-text-eq48-clause-spelled
returns-then-text-eq48-clause-spelled c =
    let text = c.args.text.now in
    let cut = from_zero text (eqb-false (length text) 0 (sym c.if-is_empty.ensures)) c.if-text-eq48.true in
    rw (decimal_digit 0 (omega arith)) cut

pub returns-then-text-eq48-clause-read : goal.returns-then-text-eq48-clause-read
returns-then-text-eq48-clause-read c = λ n rest fits stop e.
    let text = c.args.text.now in
    let cut = from_zero text (eqb-false (length text) 0 (sym c.if-is_empty.ensures)) c.if-text-eq48.true in
    begins_with_zero n (take (length text - 1) (drop 1 text)) rest fits (sym cut ∙ e)
