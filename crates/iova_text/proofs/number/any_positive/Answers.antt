use Rattle.std.proofs.Common.{arith, ◌≡◌, ◌∙◌, ap, true, length, take, drop, get_or}
use Rattle.std.specs.Char.{is_ascii_digit}
use Rattle.std.proofs.lemmas.Fmt.{decimal_nonempty}
use Rattle.std.proofs.lemmas.List.{take-append-drop, length-take}
use Rattle.iova_text.specs.Reading.{stops}
use Rattle.iova_text.proofs.Cuts.{list_all-more, cut_at, rest_from, stops-at, stops-at_end}
use Rattle.iova_text.proofs.Digits.{read_on, read_on-more, next_fits, read_on-decimal, front_is, decimal-read_on}
use Rattle.iova_text.proofs.number.any_positive.Goals as goal
use Rattle.iova_text.proofs.number.any_positive.Goals.{then-loop-len-test+else-is_ascii_digit, else-loop-len-test}

pub loop-len-preserved : goal.loop-len-preserved
loop-len-preserved c =
    let pass : is_ascii_digit (get_or c.args.text.now c.loop-len.len 0) ≡ true = cc in
    record {
      within = omega arith;
      digits = list_all-more is_ascii_digit c.args.text.now c.loop-len.len c.loop-len-test.true c.loop-len.invariant.digits pass;
      fits = omega (arith, c.in_ok-n.ensures);
      value = omega (arith, read_on-more c.args.text.now c.loop-len.len c.loop-len-test.true, c.in_ok-n.ensures, c.in_ok-checked_mul.ensures, c.from-digit.ensures);
    }

pub returns-in_err-checked_mul-clause-read : goal.returns-in_err-checked_mul-clause-read
returns-in_err-checked_mul-clause-read c = λ n rest fits stop e.
    let pass : is_ascii_digit (get_or c.args.text.now c.loop-len.len 0) ≡ true = cc in
    let next = next_fits c.args.text.now rest n c.loop-len.len fits stop e c.loop-len-test.true c.loop-len.invariant.digits pass in
    absurd (c.in_err-checked_mul.ensures (omega (arith, next)))

pub returns-in_err-n-clause-read : goal.returns-in_err-n-clause-read
returns-in_err-n-clause-read c = λ n rest fits stop e.
    let pass : is_ascii_digit (get_or c.args.text.now c.loop-len.len 0) ≡ true = cc in
    let next = next_fits c.args.text.now rest n c.loop-len.len fits stop e c.loop-len-test.true c.loop-len.invariant.digits pass in
    absurd (c.in_err-n.ensures (omega (arith, next, c.in_ok-checked_mul.ensures, c.from-digit.ensures)))

pub returns-then-len-eq0-clause-read : goal.returns-then-len-eq0-clause-read
returns-then-len-eq0-clause-read c = λ n rest fits stop e.
    let text = c.args.text.now in
    let len = c.loop-len.len in
    let end : stops is_ascii_digit (drop len text) ≡ true = elim c.loop-len-test.branch [
      | then-loop-len-test+else-is_ascii_digit w ↦ stops-at is_ascii_digit text len w.loop-len-test.true (cc)
      | else-loop-len-test w ↦ stops-at_end is_ascii_digit text len (omega (arith, w.loop-len-test.false))
    ] in
    let is = front_is (take len text) (drop len text) rest n fits c.loop-len.invariant.digits end stop (take-append-drop len text ∙ e) in
    absurd (omega (arith, decimal_nonempty n fits, ap length is.0, length-take len text))

pub returns-else-len-eq0-clause-spelled : goal.returns-else-len-eq0-clause-spelled
returns-else-len-eq0-clause-spelled c =
    let text = c.args.text.now in
    let same = decimal-read_on text c.loop-len.len c.loop-len.invariant.digits (omega arith) c.loop-len.invariant.within c.requires (omega arith) in
    rw (c.loop-len.invariant.value, same) (cut_at text c.loop-len.len)

pub returns-else-len-eq0-clause-read : goal.returns-else-len-eq0-clause-read
returns-else-len-eq0-clause-read c = λ n rest fits stop e.
    let text = c.args.text.now in
    let len = c.loop-len.len in
    let end : stops is_ascii_digit (drop len text) ≡ true = elim c.loop-len-test.branch [
      | then-loop-len-test+else-is_ascii_digit w ↦ stops-at is_ascii_digit text len w.loop-len-test.true (cc)
      | else-loop-len-test w ↦ stops-at_end is_ascii_digit text len (omega (arith, w.loop-len-test.false))
    ] in
    let is = front_is (take len text) (drop len text) rest n fits c.loop-len.invariant.digits end stop (take-append-drop len text ∙ e) in
    (c.loop-len.invariant.value ∙ (ap (read_on 0) is.0 ∙ read_on-decimal n fits), rest_from text len ∙ is.1)
