use Rattle.std.proofs.Common.{◌∙◌, refl, sym, ap, [], decimal, length}
use Rattle.std.proofs.lemmas.Bool.{eqb-false}
use Rattle.std.proofs.lemmas.List.{append-nil}
use Rattle.iova_text.proofs.number.number.Goals as goal

pub returns-in_err-n-clause-read : goal.returns-in_err-n-clause-read
returns-in_err-n-clause-read c = λ n fits e. absurd (c.in_err-n.ensures.read n [] fits refl (e ∙ sym (append-nil (decimal n))))

pub returns-in_err-n-clause-all : goal.returns-in_err-n-clause-all
returns-in_err-n-clause-all c = λ none n fits e. c.in_err-n.ensures.read n [] fits refl (e ∙ sym (append-nil (decimal n)))

pub returns-else-is_empty-clause-read : goal.returns-else-is_empty-clause-read
returns-else-is_empty-clause-read c = λ n fits e.
    let is = c.in_ok-n.ensures.read n [] fits refl (e ∙ sym (append-nil (decimal n))) in
    absurd (eqb-false (length c.in_ok-n.rest.now) 0 (sym c.if-is_empty.ensures) (ap length is.1))

pub returns-else-is_empty-clause-all : goal.returns-else-is_empty-clause-all
returns-else-is_empty-clause-all c = λ none n fits e.
    let is = c.in_ok-n.ensures.read n [] fits refl (e ∙ sym (append-nil (decimal n))) in
    eqb-false (length c.in_ok-n.rest.now) 0 (sym c.if-is_empty.ensures) (ap length is.1)
