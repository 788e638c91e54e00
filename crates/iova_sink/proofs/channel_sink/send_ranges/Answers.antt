use Rattle.std.proofs.Common.{◌∙◌, ◌≤◌, ◌++◌, List, ℕ, length, take, drop, ap, subst, arith, Err}
use Rattle.std.proofs.lemmas.List.{take_all}
use Rattle.iova_sink.specs.Records.{range_line, ranges_text}
use Rattle.iova_sink.specs.Channels.{IsBegun, SendsAll}
use Rattle.iova_sink.proofs.Talks.{ranges_behind, ranges_left, begun_more, begun_sent, sends_first}
use Rattle.iova_sink.proofs.channel_sink.send_ranges.Goals as goal

pub returns-in-Err : goal.returns-in-Err
returns-in-Err g c =
    let old = g.C.Channel.talk c.args.channel.now in
    let new = g.C.Channel.talk c.add.new.channel in
    let ranges = c.args.ranges.now in
    let i = c.loop-range.range-index in
    let front = c.args.block.now.items ++ ranges_text (take i ranges) in
    let here : SendsAll old new front (Err c.in-Err.fault) =
    begun_sent old (g.C.Channel.talk c.loop-range.channel) new c.loop-range.block.items front (Err c.in-Err.fault) c.loop-range.invariant c.in-Err.ensures in
    subst (λ (x : List ℕ). SendsAll old new x (Err c.in-Err.fault)) (ranges_left c.args.block.now.items ranges i)
    (sends_first old new front (ranges_text (drop i ranges)) c.in-Err.fault here)

pub loop-range-preserved : goal.loop-range-preserved
loop-range-preserved g c =
    let old = g.C.Channel.talk c.args.channel.now in
    let new = g.C.Channel.talk c.add.new.channel in
    let ranges = c.args.ranges.now in
    let i = c.loop-range.range-index in
    let front = c.args.block.now.items ++ ranges_text (take i ranges) in
    let line = c.as_slice.result.now in
    subst (λ (x : List ℕ). IsBegun old new c.add.new.block.items x)
    (ranges_behind c.args.block.now.items ranges i c.range-item.result line c.loop-range-test.true
    (c.as_slice.ensures.value ∙ c.line_of-line.ensures.items ∙ ap range_line c.range-item.is))
    (begun_more old (g.C.Channel.talk c.loop-range.channel) new c.loop-range.block.items c.add.new.block.items front line c.loop-range.invariant c.in-Ok.ensures)

pub returns : goal.returns
returns g c =
    let old = g.C.Channel.talk c.args.channel.now in
    let new = g.C.Channel.talk c.send_all.new.channel in
    let ranges = c.args.ranges.now in
    let i = c.loop-range.range-index in
    let r = c.send_all.result in
    let past : length ranges ≤ i = omega (arith, c.loop-range-test.false) in
    subst (λ (x : List ℕ). SendsAll old new x r) (ap (λ x. c.args.block.now.items ++ ranges_text x) (take_all i ranges past))
    (begun_sent old (g.C.Channel.talk c.loop-range.channel) new c.loop-range.block.items (c.args.block.now.items ++ ranges_text (take i ranges)) r c.loop-range.invariant
    (subst (λ (x : List ℕ). SendsAll (g.C.Channel.talk c.loop-range.channel) new x r) c.as_slice-2.ensures.value c.send_all.ensures))
