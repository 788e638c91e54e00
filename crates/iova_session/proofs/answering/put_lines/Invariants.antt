use Rattle.std.proofs.Common.{◌≡◌, take}
use Rattle.iova_session.specs.Pairs.{answers_text}
use Rattle.iova_session.proofs.answering.put_lines.Given as goal

abbrev pub invariant-loop-answer : goal.invariant-loop-answer
invariant-loop-answer l = l.text.items ≡ answers_text (take l.answer-index l.answers)
