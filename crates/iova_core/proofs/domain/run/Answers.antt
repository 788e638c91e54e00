use Rattle.std.proofs.Common.{◌≡◌, ◌<◌, [], ◌∷◌, ◌++◌, length, get_or, refl, arith}
use Rattle.std.proofs.lemmas.List.{take_more, take_all}
use Rattle.std.proofs.lemmas.Grind.{common_steps}
use Rattle.iova_model.specs.declared.step.Step.TheVariants.{Reserve}
use Rattle.iova_model.proofs.Runs.{run_more, run_keeps}
use Rattle.iova_core.proofs.domain.run.Goals as goal

pub loop-step-preserved : goal.loop-step-preserved
loop-step-preserved c =
    let step = get_or c.args.steps.now c.loop-step.step-index (Reserve 0 0) in
    let items : c.push.new.self.items ≡ c.loop-step.replies.items ++ c.step-reply.result ∷ [] = grind (arith, common_steps) in
    let within : c.loop-step.step-index < length c.args.steps.now = omega arith in
    let taken = c.step-reply.ensures in
    rw (take_more c.args.steps.now c.loop-step.step-index (Reserve 0 0), items) (run_more _ _ _ _ _ _ step taken.0 _ c.loop-step.invariant taken.1 taken.2)

pub returns-in_default-clause-err : goal.returns-in_default-clause-err
returns-in_default-clause-err c = (refl, (c.loop-step.step-index, rw c.reserve.ensures.items (run_keeps c.promises_are_kept.ensures _ _ _ _ _ c.workers-workers.ensures.valid c.loop-step.invariant)))

pub returns-clause-ok : goal.returns-clause-ok
returns-clause-ok c =
    let all = take_all c.loop-step.step-index c.args.steps.now c.loop-step-test.false in
    run_keeps c.promises_are_kept.ensures _ _ _ _ _ c.workers-workers.ensures.valid (rw all at c.loop-step.invariant)
