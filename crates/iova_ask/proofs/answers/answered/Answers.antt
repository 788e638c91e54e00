use Rattle.iova_ask.proofs.Answering.{answered_none, answered_push}
use Rattle.iova_ask.proofs.answers.answered.Goals as goal

pub loop-left-init : goal.loop-left-init
loop-left-init c = answered_none c.args.bytes.now c.args.owed

pub loop-left-preserved : goal.loop-left-preserved
loop-left-preserved c =
    answered_push c.args.bytes.now c.loop-left.rest.now c.in-Some.line.now c.in-Some.after.now c.loop-left.len c.args.owed c.loop-left.left c.after_line-left.result
    c.loop-left.invariant c.in-Some.ensures.cut c.after_line-left.ensures
