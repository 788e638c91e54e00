use Rattle.std.proofs.Common.{◌≡◌, ◌+◌, ◌-◌, suc, refl, sym, ap, ◌∙◌, arith}
use Rattle.iova_tree.specs.Spans.{IsRisingFrom}
use Rattle.iova_tree.specs.Fit.{highest_after}
use Rattle.iova_tree.specs.Branches.{spans_below}
use Rattle.iova_tree.proofs.Spans.{rising-weaken}
use Rattle.iova_tree.proofs.Fits.{higher-none}
use Rattle.iova_tree.proofs.Branches.{drop_behind}
use Rattle.iova_tree.proofs.Bounds.{drop_later}
use Rattle.iova_tree.proofs.Searched.{at_rising, front_whole, start_whole, front_behind, set_linked, set_own, found_of_own, found_as}
use Rattle.iova_tree.proofs.branch.take_highest.Goals as goal

pub loop-at-init : goal.loop-at-init
loop-at-init g c =
    let whole = start_whole g.N.Node.spans c.args.wanted.now c.requires.wanted c.args.from c.args.links.now c.args.start c.requires.within c.requires.linked c.requires.rising c.requires.above in
    (c.requires.within, c.requires.linked, refl, whole, refl, omega arith)

pub take_at-requires-clause-rising : goal.take_at-requires-clause-rising
take_at-requires-clause-rising g c =
    let rising : IsRisingFrom c.args.from (spans_below g.N.Node.spans c.loop-at.links) = rw c.loop-at.invariant.2 c.requires.rising in
    rising-weaken 1 c.args.from _ c.requires.some rising

pub returns-in_default-clause-found : goal.returns-in_default-clause-found
returns-in_default-clause-found g c =
    let rising : IsRisingFrom c.args.from (spans_below g.N.Node.spans c.loop-at.links) = rw c.loop-at.invariant.2 c.requires.rising in
    let front = front_behind g.N.Node.spans c.args.wanted.now c.requires.wanted c.args.from c.loop-at.links c.loop-at.at c.loop-at.invariant.0 c.loop-at.invariant.1 rising (omega (arith, c.loop-at-test.true)) in
    let whole = c.loop-at.invariant.3 ∙ front in
    let here = found_of_own _ _ _ _ _ c.take_at.result c.in_default.not-Nowhere whole c.take_at.ensures.found in
    found_as _ _ (spans_below g.N.Node.spans c.loop-at.links) (spans_below g.N.Node.spans c.args.links.now) (spans_below g.N.Node.spans c.take_at.new.links) c.args.wanted.now c.take_at.result refl c.loop-at.invariant.2 here

pub returns-in_default-clause-others : goal.returns-in_default-clause-others
returns-in_default-clause-others g c =
    drop_later (c.loop-at.at + 1) (c.args.start + 1) c.take_at.new.links c.loop-at.links (omega (arith, c.loop-at.invariant.5)) c.take_at.ensures.others ∙ c.loop-at.invariant.4

pub loop-at-preserved : goal.loop-at-preserved
loop-at-preserved g c =
    let rising : IsRisingFrom c.args.from (spans_below g.N.Node.spans c.loop-at.links) = rw c.loop-at.invariant.2 c.requires.rising in
    let front = front_behind g.N.Node.spans c.args.wanted.now c.requires.wanted c.args.from c.loop-at.links c.loop-at.at c.loop-at.invariant.0 c.loop-at.invariant.1 rising (omega (arith, c.loop-at-test.true)) in
    let whole = c.loop-at.invariant.3 ∙ front in
    let found = c.in-Nowhere.ensures.found in
    let j : suc (c.loop-at.at - 1) ≡ c.loop-at.at = omega (arith, c.loop-at-test.true) in
    let low = ap (highest_after c.args.wanted.now c.args.from) c.take_at.ensures.low in (
      omega (arith, c.loop-at.invariant.0, c.take_at.ensures.count),
      c.take_at.ensures.linked,
      found.1 ∙ c.loop-at.invariant.2,
      rw j (whole ∙ rw found.0 (sym low)),
      drop_later (c.loop-at.at + 1) (c.args.start + 1) c.take_at.new.links c.loop-at.links (omega (arith, c.loop-at.invariant.5)) c.take_at.ensures.others ∙ c.loop-at.invariant.4,
      omega (arith, c.loop-at.invariant.5),
    )

pub take_lowest-requires-clause-rising : goal.take_lowest-requires-clause-rising
take_lowest-requires-clause-rising g c =
    let rising : IsRisingFrom c.args.from (spans_below g.N.Node.spans c.loop-at.links) = rw c.loop-at.invariant.2 c.requires.rising in
    let none : c.loop-at.at ≡ 0 = omega (arith, c.loop-at-test.false) in
    let lt = rw none at c.loop-at.invariant.0 in
    at_rising g.N.Node.spans c.args.wanted.now c.requires.wanted c.args.from c.loop-at.links 0 c.index-links-0.result lt c.loop-at.invariant.1 rising

pub returns-clause-linked : goal.returns-clause-linked
returns-clause-linked g c =
    let rising : IsRisingFrom c.args.from (spans_below g.N.Node.spans c.loop-at.links) = rw c.loop-at.invariant.2 c.requires.rising in
    let none : c.loop-at.at ≡ 0 = omega (arith, c.loop-at-test.false) in
    let lt = rw none at c.loop-at.invariant.0 in
    let e = c.take_lowest.ensures in
    set_linked g.N.Node.spans c.args.wanted.now c.requires.wanted c.args.from c.loop-at.links 0 c.index-links-0.result lt c.loop-at.invariant.1 rising c.take_lowest.new.link e.linked (λ some. absurd (omega arith)) e.end

pub returns-clause-found : goal.returns-clause-found
returns-clause-found g c =
    let rising : IsRisingFrom c.args.from (spans_below g.N.Node.spans c.loop-at.links) = rw c.loop-at.invariant.2 c.requires.rising in
    let none : c.loop-at.at ≡ 0 = omega (arith, c.loop-at-test.false) in
    let lt = rw none at c.loop-at.invariant.0 in
    let whole = rw none at c.loop-at.invariant.3 in
    let own = whole ∙ front_whole g.N.Node.spans c.args.wanted.now c.requires.wanted c.args.from c.loop-at.links 0 c.index-links-0.result lt c.loop-at.invariant.1 rising ∙ higher-none _ in
    let here = set_own g.N.Node.spans c.args.wanted.now c.requires.wanted c.args.from c.loop-at.links 0 c.index-links-0.result lt c.loop-at.invariant.1 rising c.take_lowest.new.link (highest_after c.args.wanted.now c.args.from (spans_below g.N.Node.spans c.args.links.now)) c.take_lowest.result own c.take_lowest.ensures.found in
    found_as _ _ (spans_below g.N.Node.spans c.loop-at.links) (spans_below g.N.Node.spans c.args.links.now) _ c.args.wanted.now c.take_lowest.result refl c.loop-at.invariant.2 here

pub returns-clause-others : goal.returns-clause-others
returns-clause-others g c =
    drop_later 1 (c.args.start + 1) _ c.loop-at.links (omega arith) (drop_behind c.loop-at.links 0 c.take_lowest.new.link) ∙ c.loop-at.invariant.4
