use Rattle.std.proofs.Common.{◌≡◌, List, ap, sym, subst, codes}
use Rattle.iova_range.specs.Frames.{Frames}
use Rattle.iova_sink.specs.Calls.{Call, with_gone}
use Rattle.iova_sink.specs.Records.{gone_text, done_line, fail_line}
use Rattle.iova_sink.specs.Channels.{Talk, Answers}
use Rattle.iova_sink.specs.Talks.{IsTalk}
use Rattle.iova_sink.proofs.Talks.{answers_from}
use Rattle.iova_sink.proofs.WholeTalks.{told_gone}
use Rattle.iova_sink.proofs.channel_sink.ChannelSinkSink.gone.Goals as goal

pub returns-clause-answers : goal.returns-clause-answers
returns-clause-answers g c =
    let domain = c.args.domain in
    let client = c.args.client in
    let result = c.conclude-told.result in
    let old = g.C.Channel.talk c.self.inside.channel in
    let new = g.C.Channel.talk c.conclude-told.new.channel in
    let done = done_line (codes "gone") client in
    let failed = fail_line (codes "gone") client in
    let same : old ≡ g.C.Channel.talk c.args.self.now.channel = ap (λ s. g.C.Channel.talk s.channel) c.self.view_is in
    subst (λ (t : Talk). Answers t new (gone_text domain client c.args.ranges.now.items) done failed result) same
    (subst (λ (rs : List Frames). Answers old new (gone_text domain client rs) done failed result) c.as_slice.ensures.value
    (answers_from old (g.C.Channel.talk c.begin_gone-sent.new.channel) new (gone_text domain client c.as_slice.result.now) done failed c.begin_gone-sent.result result
    c.begin_gone-sent.ensures c.conclude-told.ensures))

pub invariant_of-self : goal.invariant_of-self
invariant_of-self g c =
    let domain = c.args.domain in
    let client = c.args.client in
    let result = c.conclude-told.result in
    let old = g.C.Channel.talk c.self.inside.channel in
    let new = g.C.Channel.talk c.conclude-told.new.channel in
    let done = done_line (codes "gone") client in
    let failed = fail_line (codes "gone") client in
    let told : IsTalk (with_gone c.self.inside.calls domain client c.args.ranges.now.items result) new.passed =
    told_gone old new c.self.inside.calls domain client c.args.ranges.now.items result c.self.invariant
    (subst (λ (rs : List Frames). Answers old new (gone_text domain client rs) done failed result) c.as_slice.ensures.value
    (answers_from old (g.C.Channel.talk c.begin_gone-sent.new.channel) new (gone_text domain client c.as_slice.result.now) done failed c.begin_gone-sent.result result
    c.begin_gone-sent.ensures c.conclude-told.ensures)) in
    subst (λ (cs : List Call). IsTalk cs new.passed) (sym c.add_gone.ensures) told
