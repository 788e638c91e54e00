use Rattle.std.proofs.Common.{◌≡◌, ◌∙◌, ◌++◌, sym, ap, true, Result, Ok, Err, OnOk}
use Rattle.std.specs.Result.{is_ok}
use Rattle.iova_range.specs.declared.refusal.Refusal.{Refusal}
use Rattle.iova_proto.specs.Answers.{answer_text}
use Rattle.iova_session.proofs.Texts.{answers_text-nil, answers_text-more}
use Rattle.iova_session.proofs.answering.tell_any.Goals as goal

pub loop-answer-init : goal.loop-answer-init
loop-answer-init g c = c.clear.ensures.items ∙ sym answers_text-nil

on_ok : (r : Result Unit Refusal) (P : Type 0) → is_ok r ≡ true → OnOk r P → P
on_ok (Ok u) P e p = p
on_ok (Err e') P e p = absurd (cc)

pub loop-answer-preserved : goal.loop-answer-preserved
loop-answer-preserved g c =
    let one = on_ok c.encode.result (c.encode.new.out.items ≡ c.loop-answer.out.items ++ answer_text c.answer-item.result) c.if-is_err.ensures.negation c.encode.ensures.ok in
    one ∙ ap (λ x. x ++ answer_text c.answer-item.result) c.loop-answer.invariant
    ∙ sym (answers_text-more c.args.answers.now c.loop-answer.answer-index c.answer-item.result c.loop-answer-test.true c.answer-item.is)
