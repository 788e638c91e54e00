use Rattle.std.proofs.Common.{ℕ, ◌≡◌, List, ◌++◌, take, sym, ap, ◌∙◌, subst, append_assoc}
use Rattle.std.proofs.lemmas.Result.{err_from_is_err_and}
use Rattle.std.proofs.KnownBytes.{Appends-trans}
use Rattle.iova_text.specs.Lines.{whole_line}
use Rattle.iova_trace.specs.declared.fault.ReplayFault.TheVariants.{WriteFault}
use Rattle.iova_trace.specs.ReplayState.{Stops, Outcome}
use Rattle.iova_trace.proofs.Streams.{Goes-then, Stops-then, Stops-more, TakesBytes-broken, TakesBytes-written, Outcome-then}
use Rattle.iova_trace.proofs.replay.ReplayState.replay_piece.Goals as goal

pub loop-end-preserved : goal.loop-end-preserved
loop-end-preserved g c =
    let so_far = c.loop-end.invariant in
    let line = whole_line c.in-Some.end.now in
    let left = c.in-Some.behind.now in
    let cut = c.in-Some.ensures.cut in
    let answered = c.in_ok-reply_to_line.ensures in (
      so_far.0 ++ line,
      so_far.1 ++ answered.0,
      so_far.2 ∙ (ap (λ (x : List ℕ). so_far.0 ++ x) cut ∙ sym (append_assoc so_far.0 line left)),
      Appends-trans (g.W.Write.contents c.args.writer.now) (g.W.Write.contents c.loop-end.writer) (g.W.Write.contents c.reply_to_line.new.writer)
          so_far.1 answered.0 so_far.3 answered.1,
      Goes-then c.args.self.now c.loop-end.self c.reply_to_line.new.self (g.L.Log.contents c.args.log.now) (g.L.Log.contents c.loop-end.log) (g.L.Log.contents c.reply_to_line.new.log) so_far.0 line so_far.1 answered.0 so_far.4 answered.2,
    )

pub returns-in_err-reply_to_line-clause-outcome : goal.returns-in_err-reply_to_line-clause-outcome
returns-in_err-reply_to_line-clause-outcome g c =
    let so_far = c.loop-end.invariant in
    let line = whole_line c.in-Some.end.now in
    let left = c.in-Some.behind.now in
    let cut = c.in-Some.ensures.cut in
    let answered = c.in_err-reply_to_line.ensures in
    let fault = c.in_err-reply_to_line.field-0.0 in
    let p = err_from_is_err_and c.from_residual.result c.from_residual.ensures.1 in
    let stops = Stops-then c.args.self.now c.loop-end.self (g.L.Log.contents c.args.log.now) (g.L.Log.contents c.loop-end.log) (g.L.Log.contents c.reply_to_line.new.log) so_far.0 line so_far.1 answered.0 fault so_far.4 answered.2 in
    let more = Stops-more c.args.self.now (g.L.Log.contents c.args.log.now) (g.L.Log.contents c.reply_to_line.new.log) (so_far.0 ++ line) left (so_far.1 ++ answered.0) fault stops in
    let whole : (so_far.0 ++ line) ++ left ≡ c.args.piece.now =
    append_assoc so_far.0 line left ∙ (ap (λ (x : List ℕ). so_far.0 ++ x) (sym cut) ∙ sym so_far.2) in
    let P : List ℕ → Type 0 = λ x. Stops c.args.self.now (g.L.Log.contents c.args.log.now) x (so_far.1 ++ answered.0) (g.L.Log.contents c.reply_to_line.new.log) fault in
    rw (p.1, p.2) (
      so_far.1 ++ answered.0,
      Appends-trans (g.W.Write.contents c.args.writer.now) (g.W.Write.contents c.loop-end.writer) (g.W.Write.contents c.reply_to_line.new.writer)
          so_far.1 answered.0 so_far.3 answered.1,
      subst P whole more,
    )

pub returns-in_err-write_replies-clause-outcome : goal.returns-in_err-write_replies-clause-outcome
returns-in_err-write_replies-clause-outcome g c =
    let so_far = c.loop-end.invariant in
    let rest = c.loop-end.rest.now in
    let log = g.L.Log.contents c.loop-end.log in
    let kept = c.keep_part-kept in
    let cut = c.in_err-write_replies.ensures.err in
    let written = take cut.1.0 kept.new.self.replies.items in
    let fault = c.in_err-write_replies.field-0.0 in
    let p = err_from_is_err_and c.from_residual-in_err-write_replies.result c.from_residual-in_err-write_replies.ensures.1 in
    let broken = TakesBytes-broken c.loop-end.self kept.new.self log log rest cut.1.0 kept.result (kept.ensures.takes log) in
    let stops = Stops-then c.args.self.now c.loop-end.self (g.L.Log.contents c.args.log.now) log log so_far.0 rest so_far.1 written WriteFault so_far.4 broken in
    let P : List ℕ → Type 0 = λ x. Stops c.args.self.now (g.L.Log.contents c.args.log.now) x (so_far.1 ++ written) log WriteFault in
    rw (p.1, p.2, cut.0) (
      so_far.1 ++ written,
      Appends-trans (g.W.Write.contents c.args.writer.now) (g.W.Write.contents c.loop-end.writer) (g.W.Write.contents c.write_replies.new.writer)
          so_far.1 written so_far.3 cut.1.1,
      subst P (sym so_far.2) stops,
    )

pub returns-clause-outcome : goal.returns-clause-outcome
returns-clause-outcome g c =
    let so_far = c.loop-end.invariant in
    let rest = c.loop-end.rest.now in
    let log = g.L.Log.contents c.loop-end.log in
    let kept = c.keep_part-kept in
    let written = kept.new.self.replies.items in
    let wrote = c.in_ok-write_replies.ensures in
    let last = TakesBytes-written c.loop-end.self kept.new.self c.write_replies.new.self log log rest kept.result (kept.ensures.takes log) wrote.same wrote.none in
    let whole = Outcome-then c.args.self.now c.loop-end.self c.write_replies.new.self (g.L.Log.contents c.args.log.now) log log so_far.0 rest so_far.1 written kept.result so_far.4 last in
    let P : List ℕ → Type 0 = λ x. Outcome c.args.self.now (g.L.Log.contents c.args.log.now) x (so_far.1 ++ written) c.write_replies.new.self log kept.result in (
      so_far.1 ++ written,
      Appends-trans (g.W.Write.contents c.args.writer.now) (g.W.Write.contents c.loop-end.writer) (g.W.Write.contents c.write_replies.new.writer)
          so_far.1 written so_far.3 wrote.ok,
      subst P (sym so_far.2) whole,
    )
