use Rattle.std.proofs.Common.{◌≡◌, ◌+◌, ◌++◌, arith, length, drop, ap, sym, ◌∙◌}
use Rattle.iova_tree.specs.Branches.{spans_below}
use Rattle.iova_tree.proofs.Spans.{rising-front}
use Rattle.iova_tree.proofs.Branches.{below-append}
use Rattle.std.proofs.lemmas.List.{length-take-le}
use Rattle.iova_tree.proofs.Places.{take_less, drop_less}
use Rattle.iova_tree.proofs.Bounds.{drop_past}
use Rattle.iova_tree.proofs.branch.settle.Goals as goal

pub raise_at-requires-clause-low : goal.raise_at-requires-clause-low
raise_at-requires-clause-low g c = rw (c.split_at_mut-low.ensures.front, take_less c.args.links.now c.args.at) c.requires.low

pub raise_at-requires-clause-high : goal.raise_at-requires-clause-high
raise_at-requires-clause-high g c = rw (c.split_at_mut-low.ensures.front, drop_less c.args.links.now c.args.at) c.requires.own

pub raise_at-requires-clause-rising : goal.raise_at-requires-clause-rising
raise_at-requires-clause-rising g c =
    let parts = ap (spans_below g.N.Node.spans) c.split_at_mut-low.ensures.value ∙ below-append g.N.Node.spans c.split_at_mut-low.result.0.now c.split_at_mut-low.result.1.now in
    rising-front 0 _ _ (rw parts at c.requires.rising)

pub raise_at-requires-2-clause-rising : goal.raise_at-requires-2-clause-rising
raise_at-requires-2-clause-rising g c =
    let parts = ap (spans_below g.N.Node.spans) c.split_at_mut-low.ensures.value ∙ below-append g.N.Node.spans c.split_at_mut-low.result.0.now c.split_at_mut-low.result.1.now in
    let same : spans_below g.N.Node.spans (c.raise_at.new.links ++ c.split_at_mut-low.result.1.now) ≡ spans_below g.N.Node.spans c.args.links.now =
    below-append g.N.Node.spans c.raise_at.new.links c.split_at_mut-low.result.1.now ∙ ap (λ m. m ++ spans_below g.N.Node.spans c.split_at_mut-low.result.1.now) c.raise_at.ensures.same ∙ sym parts in
    rw same c.requires.rising

pub returns-clause-same : goal.returns-clause-same
returns-clause-same g c =
    let parts = ap (spans_below g.N.Node.spans) c.split_at_mut-low.ensures.value ∙ below-append g.N.Node.spans c.split_at_mut-low.result.0.now c.split_at_mut-low.result.1.now in
    c.raise_at-2.ensures.same ∙ below-append g.N.Node.spans c.raise_at.new.links c.split_at_mut-low.result.1.now ∙ ap (λ m. m ++ spans_below g.N.Node.spans c.split_at_mut-low.result.1.now) c.raise_at.ensures.same ∙ sym parts

pub returns-clause-others : goal.returns-clause-others
returns-clause-others g c =
    let at = c.args.at in
    let front = c.split_at_mut-low.result.0.now in
    let back = c.split_at_mut-low.result.1.now in
    let long = ap length c.split_at_mut-low.ensures.front ∙ length-take-le (at + 1) c.args.links.now (omega (arith, c.requires.within)) in
    let j : at + 1 + 1 ≡ at + 2 = omega arith in
    let old = ap (drop (at + 1 + 1)) c.split_at_mut-low.ensures.value ∙ drop_past (at + 1) front back long in
    let new = drop_past (at + 1) c.raise_at.new.links back (c.raise_at.ensures.count ∙ long) in
    let same = c.raise_at-2.ensures.others ∙ new ∙ sym old in
    rw j at same
