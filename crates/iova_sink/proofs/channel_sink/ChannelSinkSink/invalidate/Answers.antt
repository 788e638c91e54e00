use Rattle.std.proofs.Common.{◌∙◌, ◌≡◌, List, ℕ, ap, sym, subst, codes, is_ok}
use Rattle.iova_sink.specs.Calls.{Call, with_call}
use Rattle.iova_sink.specs.Records.{inval_line, done_line, fail_line}
use Rattle.iova_sink.specs.Channels.{Talk, Answers}
use Rattle.iova_sink.specs.Talks.{IsTalk}
use Rattle.iova_sink.proofs.WholeTalks.{invalidated}
use Rattle.iova_sink.proofs.channel_sink.ChannelSinkSink.invalidate.Goals as goal

pub returns-clause-answers : goal.returns-clause-answers
returns-clause-answers g c =
    let no = c.args.no in
    let result = c.tell-told.result in
    let new = g.C.Channel.talk c.tell-told.new.channel in
    let is : c.as_slice.result.now ≡ inval_line c.args.domain no = c.as_slice.ensures.value ∙ c.record_of-line.ensures in
    let same : g.C.Channel.talk c.self.inside.channel ≡ g.C.Channel.talk c.args.self.now.channel = ap (λ s. g.C.Channel.talk s.channel) c.self.view_is in
    subst (λ (t : Talk). Answers t new (inval_line c.args.domain no) (done_line (codes "inval") no) (fail_line (codes "inval") no) result) same
    (subst (λ (x : List ℕ). Answers (g.C.Channel.talk c.self.inside.channel) new x (done_line (codes "inval") no) (fail_line (codes "inval") no) result) is
    c.tell-told.ensures)

pub invariant_of-self : goal.invariant_of-self
invariant_of-self g c =
    let domain = c.args.domain in
    let no = c.args.no in
    let r = c.tell-told.result in
    let old = g.C.Channel.talk c.self.inside.channel in
    let new = g.C.Channel.talk c.tell-told.new.channel in
    let is : c.as_slice.result.now ≡ inval_line domain no = c.as_slice.ensures.value ∙ c.record_of-line.ensures in
    let told : IsTalk (with_call c.self.inside.calls domain no (is_ok r)) new.passed =
    invalidated old new c.self.inside.calls domain no r c.self.invariant
    (subst (λ (x : List ℕ). Answers old new x (done_line (codes "inval") no) (fail_line (codes "inval") no) r) is c.tell-told.ensures) in
    subst (λ (cs : List Call). IsTalk cs new.passed) (sym (c.add.ensures ∙ ap (λ b. with_call c.self.inside.calls domain no b) c.is_ok.ensures.value)) told
