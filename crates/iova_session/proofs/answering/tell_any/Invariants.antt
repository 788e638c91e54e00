use Rattle.std.proofs.Common.{◌≡◌, take}
use Rattle.iova_session.specs.Pairs.{answers_text}
use Rattle.iova_session.proofs.answering.tell_any.Given as goal

abbrev pub invariant-loop-answer : goal.invariant-loop-answer
invariant-loop-answer g l = l.out.items ≡ answers_text (take l.answer-index l.answers)
