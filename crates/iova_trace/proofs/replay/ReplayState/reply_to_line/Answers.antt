use Rattle.std.proofs.Common.{take}
use Rattle.std.proofs.lemmas.Result.{err_from_is_err_and}
use Rattle.iova_text.specs.Lines.{whole_line}
use Rattle.iova_trace.proofs.Streams.{TakesBytes-broken, TakesBytes-written}
use Rattle.iova_trace.proofs.replay.ReplayState.reply_to_line.Goals as goal

pub returns-in_err-write_replies : goal.returns-in_err-write_replies
returns-in_err-write_replies g c =
    let p = err_from_is_err_and c.from_residual.result c.from_residual.ensures.1 in
    let cut = c.in_err-write_replies.ensures.err in
    let ended = c.complete_line-ended in
    rw (p.1, p.2, cut.0) (
      take cut.1.0 ended.new.self.replies.items,
      cut.1.1,
      TakesBytes-broken c.args.self.now ended.new.self (g.L.Log.contents c.args.log.now) (g.L.Log.contents ended.new.log) (whole_line c.args.end.now) cut.1.0 ended.result ended.ensures,
    )

pub returns-in_ok-write_replies : goal.returns-in_ok-write_replies
returns-in_ok-write_replies g c =
    let ended = c.complete_line-ended in
    let wrote = c.in_ok-write_replies.ensures in (
      ended.new.self.replies.items,
      wrote.ok,
      TakesBytes-written c.args.self.now ended.new.self c.write_replies.new.self (g.L.Log.contents c.args.log.now) (g.L.Log.contents ended.new.log) (whole_line c.args.end.now)
          ended.result ended.ensures wrote.same wrote.none,
    )
