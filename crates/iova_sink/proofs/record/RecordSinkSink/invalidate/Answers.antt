use Rattle.std.proofs.Common.{◌∙◌, sym, ap}
use Rattle.iova_sink.specs.Calls.{is_last_failed}
use Rattle.iova_sink.proofs.Records.{last-added}
use Rattle.iova_sink.proofs.record.RecordSinkSink.invalidate.Goals as goal

pub invariant_of-self : goal.invariant_of-self
invariant_of-self g c = sym (ap is_last_failed c.add.ensures ∙ last-added c.self.inside.calls c.args.domain c.args.no c.is_ok-ok.result)
