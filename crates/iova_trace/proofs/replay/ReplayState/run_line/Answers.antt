use Rattle.std.proofs.Common.{refl, ap, subst, ◌∙◌, ◌++◌, take, Some}
use Rattle.std.specs.Io.KnownBytes.{Appends}
use Rattle.iova_model.specs.State.{State}
use Rattle.iova_model.specs.declared.step.Reply.{Reply}
use Rattle.iova_trace.specs.Log.{log_line}
use Rattle.iova_trace.specs.Replies.{reply_text}
use Rattle.iova_trace.proofs.LineSteps.{step_taken, step_cut, step_lost}
use Rattle.iova_trace.proofs.replay.ReplayState.run_line.Goals as goal

pub returns-in-Ok-write_reply : goal.returns-in-Ok-write_reply
returns-in-Ok-write_reply g c =
    let step = c.step-reply.ensures in
    let read = c.in-Some-next_step in
    let P : Reply → Type 0 = λ r. Appends (g.L.Log.contents c.args.log.now) (g.L.Log.contents c.log_step.new.self) (log_line read.step r) in
    step_taken c.promises_are_kept.ensures c.new_domains_are_valid.ensures c.args.self.now _ (g.L.Log.contents c.args.log.now) (g.L.Log.contents c.log_step.new.self) c.args.line.now
    c.in-Some.domain read.step step.0 c.requires.fresh c.in-Some.is read.ensures.room read.ensures.spelled.0 read.ensures.spelled.1
    refl refl (ap (λ (d : State). Some d) step.2) (c.in-Ok-write_reply.ensures.ok ∙ ap (λ r. c.args.self.now.replies.items ++ reply_text r) step.1)
    (subst P step.1 c.in-Ok.ensures.ok)

pub returns-in-Err : goal.returns-in-Err
returns-in-Err g c =
    let step = c.step-reply.ensures in
    let read = c.in-Some-next_step in
    let cut = c.in-Err.ensures.err in
    let P : Reply → Type 0 = λ r. Appends (g.L.Log.contents c.args.log.now) (g.L.Log.contents c.log_step.new.self) (take cut.0 (log_line read.step r)) in (
      step_cut c.promises_are_kept.ensures c.new_domains_are_valid.ensures c.args.self.now (g.L.Log.contents c.args.log.now) (g.L.Log.contents c.log_step.new.self) c.args.line.now
          c.in-Some.domain read.step step.0 cut.0 c.requires.fresh c.in-Some.is read.ensures.room read.ensures.spelled.0 read.ensures.spelled.1
          (subst P step.1 cut.1),
      refl,
    )

pub returns-in-Err-write_reply : goal.returns-in-Err-write_reply
returns-in-Err-write_reply g c =
    let step = c.step-reply.ensures in
    let read = c.in-Some-next_step in
    let P : Reply → Type 0 = λ r. Appends (g.L.Log.contents c.args.log.now) (g.L.Log.contents c.log_step.new.self) (log_line read.step r) in (
      step_lost c.promises_are_kept.ensures c.new_domains_are_valid.ensures c.args.self.now (g.L.Log.contents c.args.log.now) (g.L.Log.contents c.log_step.new.self) c.args.line.now
          c.in-Some.domain read.step step.0 c.requires.fresh c.in-Some.is read.ensures.room read.ensures.spelled.0 read.ensures.spelled.1
          (subst P step.1 c.in-Ok.ensures.ok),
      c.in-Err-write_reply.ensures.err.1,
    )
