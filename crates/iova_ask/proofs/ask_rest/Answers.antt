use Rattle.std.proofs.Common.{refl}
use Rattle.iova_ask.proofs.Copying.{breaks_same, copied_none}
use Rattle.iova_ask.proofs.ask_rest.Goals as goal

pub returns-then-is_empty-clause-copied : goal.returns-then-is_empty-clause-copied
returns-then-is_empty-clause-copied g c =
    copied_none c.args.sent (g.L.Link.left c.args.link.now) (g.W.Write.contents c.args.writer.now) c.args.answers.now

pub returns-in-Err-clause-copied : goal.returns-in-Err-clause-copied
returns-in-Err-clause-copied g c =
    breaks_same (g.L.Link.left c.args.link.now) (g.L.Link.left c.args.link.now) (g.W.Write.contents c.args.writer.now) c.args.answers.now refl
