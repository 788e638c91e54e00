use Rattle.std.proofs.Common.{◌∙◌, sym, ap}
use Rattle.iova_sink.specs.Passing.{sent_of, received_of}
use Rattle.iova_sink.proofs.Passing.{sent_strayed, received_strayed}
use Rattle.iova_sink.proofs.memory_channel.MemoryChannelChannel.look.Goals as goal

pub invariant_of-self : goal.invariant_of-self
invariant_of-self c =
    let past = c.self-2.inside.past in
    record {
      most = c.self-2.invariant.most;
      sent = c.self-2.invariant.sent ∙ sym (ap sent_of c.add.ensures ∙ sent_strayed past);
      received = c.self-2.invariant.received ∙ sym (ap received_of c.add.ensures ∙ received_strayed past);
    }
