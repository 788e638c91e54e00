use Rattle.std.proofs.Common.{Some}
use Rattle.iova_model.specs.Transcript.{Pair}
use Rattle.iova_keep.specs.StepLogs.{Stores}
use Rattle.iova_record.proofs.StepLogs.{takes, recorded_goes_on}
use Rattle.iova_record.proofs.Drains.{drain_replies}
use Rattle.iova_record.proofs.KnownWorkers.{known}
use Rattle.iova_record.proofs.recorded_domain.RecordedDomain.step.Goals as goal

pub returns-in_default-clause-takes : goal.returns-in_default-clause-takes
returns-in_default-clause-takes c =
    let m = c.step_at-answer in
    rw (← c.self.view_is) (takes c.self.inside.domain c.args.step m.result.1 m.result.0 m.new.self m.ensures.reply m.ensures.state)

pub returns-in_default-clause-known : goal.returns-in_default-clause-known
returns-in_default-clause-known c =
    let m = c.step_at-answer in
    rw (← c.self.view_is) (known c.self.inside.domain c.args.step m.result.1 m.result.0 m.ensures.reply)

pub returns-in_default-clause-drained : goal.returns-in_default-clause-drained
returns-in_default-clause-drained c =
    let m = c.step_at-answer in
    rw (← c.self.view_is) (drain_replies c.self.inside.domain c.args.step m.result.1 m.result.0 c.workers-workers.ensures.valid m.ensures.reply)

pub invariant_of-self-2 : goal.invariant_of-self-2
invariant_of-self-2 c =
    let s = c.self.inside in
    let m = c.step_at-answer in
    let p : Pair = record { step = c.args.step; point = m.result.1; reply = m.result.0 } in
    let stored : Stores s.log p (Some c.keep.new.self) = rw c.in-Some.is c.keep.ensures in
    recorded_goes_on s.domain m.new.self c.args.step m.result.1 m.result.0 s.log (Some c.keep.new.self) c.steps_keep_the_domain.ensures c.self.invariant m.ensures.reply m.ensures.state stored

pub returns-clause-takes : goal.returns-clause-takes
returns-clause-takes c =
    let m = c.step_at-answer in
    rw (← c.self.view_is) (takes c.self.inside.domain c.args.step m.result.1 m.result.0 m.new.self m.ensures.reply m.ensures.state)

pub returns-clause-stores : goal.returns-clause-stores
returns-clause-stores c = rw (← c.self.view_is, c.in-Some.is) (c.step_at-answer.result.1, c.keep.ensures)

pub returns-clause-known : goal.returns-clause-known
returns-clause-known c =
    let m = c.step_at-answer in
    rw (← c.self.view_is) (known c.self.inside.domain c.args.step m.result.1 m.result.0 m.ensures.reply)

pub returns-clause-drained : goal.returns-clause-drained
returns-clause-drained c =
    let m = c.step_at-answer in
    rw (← c.self.view_is) (drain_replies c.self.inside.domain c.args.step m.result.1 m.result.0 c.workers-workers.ensures.valid m.ensures.reply)
