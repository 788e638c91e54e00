use Rattle.std.proofs.Common.{◌∙◌, ◌≡◌, ◌++◌, ℕ, List, length, take, drop, length-take-le, arith, refl, sym, ap}
use Rattle.iova_sink.specs.Passing.{sent_of, with_received_bytes}
use Rattle.iova_sink.proofs.Passing.{sent_still, received_kept, front_of}
use Rattle.iova_sink.specs.Channels.{Talk}
use Rattle.iova_sink.proofs.Talks.{hands_none_ahead}
use Rattle.iova_sink.proofs.memory_channel.MemoryChannel.take.Goals as goal

pub invariant_of-self : goal.invariant_of-self
invariant_of-self c =
    let past = c.self.inside.past in
    record {
      most = c.self.invariant.most;
      sent = c.self.invariant.sent ∙ sym (ap sent_of c.add_received.ensures ∙ sent_still past _);
      received = received_kept c.self.inside.received.items c.extend_from_slice.new.self.items past c.add_received.new.self _ c.self.invariant.received c.in-Ok.ensures.items c.add_received.ensures;
    }

pub returns-in-Ok-clause-receives : goal.returns-in-Ok-clause-receives
returns-in-Ok-clause-receives c =
    let n = c.min-n.result in
    let long : length c.copy_from_slice.new.self ≡ n = omega (arith, c.copy_from_slice.ensures.len, length-take-le n c.args.buffer.now (omega (arith, c.min-n.ensures))) in
    hands_none_ahead c.args.self.now _ _ (sym (ap (λ (t : Talk). t.ahead) c.self.view_is)) refl
    (c.add_received.ensures
    ∙ (ap (λ (x : List ℕ). with_received_bytes c.self.inside.past x) (sym (front_of n c.copy_from_slice.new.self (drop n c.args.buffer.now) _ long c.copy_from_slice.ensures.after))
    ∙ ap (λ (t : Talk). with_received_bytes t.passed (take n (c.copy_from_slice.new.self ++ drop n c.args.buffer.now))) c.self.view_is))
    (ap (λ (t : Talk). t.connected) c.self.view_is)
