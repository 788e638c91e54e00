use Rattle.std.proofs.Common.{◌∙◌, sym, ap}
use Rattle.iova_sink.specs.Passing.{sent_of, received_of}
use Rattle.iova_sink.proofs.Passing.{sent_failed, received_failed}
use Rattle.iova_sink.proofs.memory_channel.MemoryChannel.fault.Goals as goal

pub invariant_of-self : goal.invariant_of-self
invariant_of-self c =
    let past = c.self.inside.past in
    record {
      most = c.self.invariant.most;
      sent = c.self.invariant.sent ∙ sym (ap sent_of c.add.ensures ∙ sent_failed past);
      received = c.self.invariant.received ∙ sym (ap received_of c.add.ensures ∙ received_failed past);
    }
