use Rattle.std.proofs.Common.{List, sym, subst}
use Rattle.iova_sink.specs.Calls.{Call}
use Rattle.iova_sink.specs.Talks.{IsTalk, begun}
use Rattle.iova_sink.proofs.channel_sink.ChannelSink.new.Goals as goal

pub invariant_of-result : goal.invariant_of-result
invariant_of-result g c =
    let passed = (g.C.Channel.talk c.args.channel).passed in
    subst (λ (cs : List Call). IsTalk cs passed) (sym c.new.ensures) (begun passed)
