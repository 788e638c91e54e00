use Rattle.std.proofs.Common.{◌∙◌, sym, ap}
use Rattle.iova_sink.specs.Passing.{received_of}
use Rattle.iova_sink.proofs.Passing.{sent_kept, received_still}
use Rattle.iova_sink.proofs.memory_channel.MemoryChannelChannel.send.Goals as goal

pub invariant_of-self : goal.invariant_of-self
invariant_of-self c =
    let past = c.self-2.inside.past in
    record {
      most = c.self-2.invariant.most;
      sent = sent_kept c.self-2.inside.sent.items c.extend_from_slice.new.self.items past c.add_sent.new.self _ c.self-2.invariant.sent c.in-Ok.ensures.items c.add_sent.ensures;
      received = c.self-2.invariant.received ∙ sym (ap received_of c.add_sent.ensures ∙ received_still past _);
    }
