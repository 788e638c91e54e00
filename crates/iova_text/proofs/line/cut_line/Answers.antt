use Rattle.std.proofs.Common.{List, ℕ, length, arith, subst}
use Rattle.std.proofs.lemmas.List.{take_all}
use Rattle.iova_text.specs.Lines.{HasNoLf}
use Rattle.iova_text.proofs.LineEnds.{no_lf_before}
use Rattle.iova_text.proofs.line.cut_line.Goals as goal

pub returns-in_err-end-clause-none : goal.returns-in_err-end-clause-none
returns-in_err-end-clause-none c =
    let text = c.args.text.now in
    let none = no_lf_before text (length text) (omega arith) c.in_err-end.ensures in
    let P : List ℕ → Type 0 = HasNoLf in
    rw c.from_residual.ensures (subst P (take_all (length text) text (omega arith)) none)

pub returns-clause-one : goal.returns-clause-one
returns-clause-one c =
    let first = c.in_ok-end.ensures.0 in
    no_lf_before c.args.text.now c.in_ok-end.end (omega (arith, first.high)) first.before
