use Rattle.iova_ask.proofs.Copying.{breaks_same}
use Rattle.iova_ask.proofs.SentParts.{err_after}
use Rattle.iova_ask.proofs.ask_some.Goals as goal

pub returns-in-Ok-clause-err : goal.returns-in-Ok-clause-err
returns-in-Ok-clause-err g c =
    err_after (g.L.Link.sent c.args.link.now) (g.L.Link.sent c.put_all.new.link) (g.L.Link.sent c.copy_answers.new.link) c.args.bytes.now c.copy_answers.result
    c.in-Ok.ensures.ok c.copy_answers.ensures.sent c.copy_answers.ensures.fault

pub returns-in-Err-clause-copied : goal.returns-in-Err-clause-copied
returns-in-Err-clause-copied g c =
    breaks_same (g.L.Link.left c.args.link.now) (g.L.Link.left c.put_all.new.link) (g.W.Write.contents c.args.writer.now) c.args.answers.now c.in-Err.ensures.left
