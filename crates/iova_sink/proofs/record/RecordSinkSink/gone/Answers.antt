use Rattle.std.proofs.Common.{Ok, ◌∙◌, sym, ap}
use Rattle.iova_sink.specs.Calls.{is_last_failed}
use Rattle.iova_sink.proofs.Records.{still-failed}
use Rattle.iova_sink.proofs.record.RecordSinkSink.gone.Goals as goal

pub invariant_of-self : goal.invariant_of-self
invariant_of-self g c = c.self.invariant ∙ sym (ap is_last_failed c.add_gone.ensures ∙ still-failed c.self.inside.calls c.args.domain c.args.client c.args.ranges.now.items (Ok tt))
