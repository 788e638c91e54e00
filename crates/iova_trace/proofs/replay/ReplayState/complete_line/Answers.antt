use Rattle.std.proofs.Common.{refl, ◌∙◌}
use Rattle.iova_trace.proofs.Streams.{TakesBytes-ended}
use Rattle.iova_trace.proofs.replay.ReplayState.complete_line.Goals as goal

pub returns : goal.returns
returns g c =
    TakesBytes-ended c.args.self.now _ c.run_line-2.new.self (g.L.Log.contents c.args.log.now) (g.L.Log.contents c.run_line-2.new.log) c.args.end.now c.as_slice.result.now c.run_line-2.result
    c.end-line.ensures.empty refl refl refl (c.as_slice.ensures.value ∙ c.end-line.ensures.line) c.run_line-2.ensures
