use Rattle.std.proofs.Common.{sym, ap, ◌∙◌}
use Rattle.iova_proto.specs.declared.answer.Answer.TheVariants as answer
use Rattle.iova_session.specs.Leading.{open_answer}
use Rattle.iova_session.proofs.Alone.{greets}
use Rattle.iova_session.proofs.asking.ask_first.Goals as goal

pub returns-in-Ok-clause-does : goal.returns-in-Ok-clause-does
returns-in-Ok-clause-does g c =
    greets _ _ _ _ _ _ c.args.request c.open.result (answer.Opened c.in-Ok.id) c.in-Hello.is (c.if-domain-number.false ∙ c.number.ensures) (sym (ap open_answer c.in-Ok.is)) c.open.ensures.domain

pub returns-in-Err-clause-does : goal.returns-in-Err-clause-does
returns-in-Err-clause-does g c =
    greets _ _ _ _ _ _ c.args.request c.open.result (answer.Refused c.in-Err.refusal) c.in-Hello.is (c.if-domain-number.false ∙ c.number.ensures) (sym (ap open_answer c.in-Err.is)) c.open.ensures.domain
