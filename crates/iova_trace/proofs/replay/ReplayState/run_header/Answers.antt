use Rattle.std.proofs.Common.{refl, ap, Some}
use Rattle.iova_model.specs.State.{State}
use Rattle.iova_trace.proofs.LineSteps.{header_taken, header_cut}
use Rattle.iova_trace.proofs.replay.ReplayState.run_header.Goals as goal

pub returns-in-Ok-log_bounds : goal.returns-in-Ok-log_bounds
returns-in-Ok-log_bounds g c =
    header_taken c.promises_are_kept.ensures c.new_domains_are_valid.ensures c.args.self.now _ (g.L.Log.contents c.args.log.now) _ c.args.line.now c.in-Some.header c.requires.fresh c.requires.first c.in-Some.ensures.good c.in-Some.ensures.spelled
    refl refl refl (ap (λ (d : State). Some d) c.in-Ok.ensures.value) c.in-Ok-log_bounds.ensures.ok

pub returns-in-Err-log_bounds : goal.returns-in-Err-log_bounds
returns-in-Err-log_bounds g c =
    let cut = c.in-Err-log_bounds.ensures.err in (
      header_cut c.args.self.now (g.L.Log.contents c.args.log.now) _ c.args.line.now c.in-Some.header cut.0 c.requires.fresh c.requires.first c.in-Some.ensures.good c.in-Some.ensures.spelled cut.1,
      refl,
    )
