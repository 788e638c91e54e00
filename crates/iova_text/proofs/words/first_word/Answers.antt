use Rattle.std.proofs.Common.{arith, ◌≡◌, ◌∙◌, true, drop}
use Rattle.std.proofs.lemmas.Bool.{eq-eqb, not_from_true}
use Rattle.std.proofs.lemmas.List.{take-append-drop}
use Rattle.iova_text.specs.Reading.{stops, is_not_space}
use Rattle.iova_text.proofs.Cuts.{stops-at, stops-at_end, run_once}
use Rattle.iova_text.proofs.words.first_word.Goals as goal
use Rattle.iova_text.proofs.words.first_word.Goals.{then-loop-len-test+else-line-len-ne32, else-loop-len-test}

pub returns-clause-read : goal.returns-clause-read
returns-clause-read c = λ word rest none stop e.
    let line = c.args.line.now in
    let len = c.loop-len.len in
    let end : stops is_not_space (drop len line) ≡ true = elim c.loop-len-test.branch [
      | then-loop-len-test+else-line-len-ne32 w ↦ stops-at is_not_space line len w.loop-len-test.true (not_from_true _ (eq-eqb _ 32 w.if-line-len-ne32.false))
      | else-loop-len-test w ↦ stops-at_end is_not_space line len (omega (arith, w.loop-len-test.false))
    ] in
    let front = c.split_at.ensures.front in
    let back = c.split_at.ensures.back in
    run_once is_not_space c.split_at.result.0.now c.split_at.result.1.now word rest
    (rw front c.loop-len.invariant.word) (rw back end) none stop (rw (front, back) (take-append-drop len line) ∙ e)
