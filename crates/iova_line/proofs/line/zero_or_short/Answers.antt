use Rattle.std.proofs.Common.{◌-◌, ◌∷◌, ◌∙◌, arith, ap, drop, length, sym, take}
use Rattle.std.proofs.lemmas.Bool.{eqb-false}
use Rattle.std.proofs.lemmas.Fmt.{decimal_digit}
use Rattle.iova_text.proofs.Cuts.{first_and_rest}
use Rattle.iova_line.proofs.line.zero_or_short.Goals as goal

-- a `0` and the rest
pub returns-then-text-eq48 : goal.returns-then-text-eq48
returns-then-text-eq48 c =
    let text = c.args.text.now in
    let cut = first_and_rest text (omega (arith, eqb-false (length text) 0 (sym c.if-is_empty.ensures))) in
    rw (decimal_digit 0 (omega arith)) (cut ∙ ap (λ b. b ∷ take (length text - 1) (drop 1 text)) c.if-text-eq48.true)
