use Rattle.std.proofs.Common.{◌∙◌, ◌++◌, sym, ap}
use Rattle.iova_proto.specs.Answers.{answer_text}
use Rattle.iova_session.proofs.Texts.{answers_text-nil, answers_text-more}
use Rattle.iova_session.proofs.answering.put_lines.Goals as goal

pub loop-answer-init : goal.loop-answer-init
loop-answer-init c = c.requires ∙ sym answers_text-nil

pub loop-answer-preserved : goal.loop-answer-preserved
loop-answer-preserved c =
    let one = c.is_one_line.ensures c.if-not-is_one_line.false in
    c.put_first_line.ensures.items ∙ ap (λ x. c.loop-answer.text.items ++ x) (sym one)
    ∙ ap (λ x. x ++ answer_text c.answer-item.result) c.loop-answer.invariant
    ∙ sym (answers_text-more c.args.answers.now c.loop-answer.answer-index c.answer-item.result c.loop-answer-test.true c.answer-item.is)
