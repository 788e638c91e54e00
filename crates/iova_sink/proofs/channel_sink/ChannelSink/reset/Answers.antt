use Rattle.std.proofs.Common.{◌∙◌, ◌≡◌, List, ℕ, subst, codes}
use Rattle.iova_sink.specs.Records.{reset_line, done_line, fail_line}
use Rattle.iova_sink.specs.Channels.{Answers}
use Rattle.iova_sink.proofs.WholeTalks.{told_reset}
use Rattle.iova_sink.proofs.channel_sink.ChannelSink.reset.Goals as goal

pub invariant_of-self : goal.invariant_of-self
invariant_of-self g c =
    let domain = c.args.domain in
    let old = g.C.Channel.talk c.self.inside.channel in
    let new = g.C.Channel.talk c.tell.new.channel in
    let is : c.as_slice.result.now ≡ reset_line domain = c.as_slice.ensures.value ∙ c.reset_of-line.ensures in
    told_reset old new c.self.inside.calls domain c.tell.result c.self.invariant
    (subst (λ (x : List ℕ). Answers old new x (done_line (codes "reset") domain) (fail_line (codes "reset") domain) c.tell.result) is c.tell.ensures)
