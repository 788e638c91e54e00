use Rattle.std.proofs.Common.{◌≡◌, ◌+◌, ◌-◌, slice_set, ap, ◌∙◌, arith}
use Rattle.iova_tree.specs.declared.search.FoundPlace.TheVariants.{Taken}
use Rattle.iova_tree.specs.Branches.{spans_below, highest_behind}
use Rattle.iova_tree.proofs.Spans.{rising-end, rising-weaken}
use Rattle.iova_tree.proofs.Blocks.{room_between-bounded}
use Rattle.iova_tree.proofs.Branches.{take_set, drop_behind}
use Rattle.iova_tree.proofs.Bounds.{drop_later}
use Rattle.iova_tree.proofs.Searched.{before_end, at_linked, at_rising, at_gap, low_rising, set_linked, set_own, set_rises, behind_is}
use Rattle.iova_tree.proofs.branch.take_at.Goals as goal

pub take_below-found-requires-clause-some : goal.take_below-found-requires-clause-some
take_below-found-requires-clause-some g c =
    let end = before_end g.N.Node.spans 1 c.args.links.now c.args.at c.index-links-at.result c.requires.linked (omega (arith, c.requires.some)) c.requires.within in
    let le = rising-end 1 _ (low_rising g.N.Node.spans c.args.wanted.now c.requires.wanted 1 c.args.links.now c.args.at c.index-links-at-3.result c.requires.within c.requires.linked c.requires.rising) in
    rw end (omega (arith, le))

pub take_below-found-requires-clause-linked : goal.take_below-found-requires-clause-linked
take_below-found-requires-clause-linked g c =
    at_linked g.N.Node.spans c.args.wanted.now c.requires.wanted 1 c.args.links.now c.args.at c.index-links-at-3.result c.requires.within c.requires.linked c.requires.rising

pub take_below-found-requires-clause-gap : goal.take_below-found-requires-clause-gap
take_below-found-requires-clause-gap g c =
    let end = before_end g.N.Node.spans 1 c.args.links.now c.args.at c.index-links-at.result c.requires.linked (omega (arith, c.requires.some)) c.requires.within in
    rw end (at_gap g.N.Node.spans c.args.wanted.now c.requires.wanted 1 c.args.links.now c.args.at c.index-links-at-3.result c.requires.within c.requires.linked c.requires.rising (omega (arith, c.requires.some)))

pub take_below-found-requires-clause-rising : goal.take_below-found-requires-clause-rising
take_below-found-requires-clause-rising g c =
    let end = before_end g.N.Node.spans 1 c.args.links.now c.args.at c.index-links-at.result c.requires.linked (omega (arith, c.requires.some)) c.requires.within in
    rw end (at_rising g.N.Node.spans c.args.wanted.now c.requires.wanted 1 c.args.links.now c.args.at c.index-links-at-3.result c.requires.within c.requires.linked c.requires.rising)

pub renew_at-requires-clause-linked : goal.renew_at-requires-clause-linked
renew_at-requires-clause-linked g c =
    let end = before_end g.N.Node.spans 1 c.args.links.now c.args.at c.index-links-at.result c.requires.linked (omega (arith, c.requires.some)) c.requires.within in
    let e = c.take_below-found.ensures in
    set_linked g.N.Node.spans c.args.wanted.now c.requires.wanted 1 c.args.links.now c.args.at c.index-links-at-3.result c.requires.within c.requires.linked c.requires.rising c.take_below-found.new.link e.linked (λ some. rw end at e.gap) e.end

pub renew_at-requires-clause-rising : goal.renew_at-requires-clause-rising
renew_at-requires-clause-rising g c =
    let end = before_end g.N.Node.spans 1 c.args.links.now c.args.at c.index-links-at.result c.requires.linked (omega (arith, c.requires.some)) c.requires.within in
    let f = rw end at c.in-Taken.ensures.found in
    rising-weaken 0 1 _ (omega arith) (set_rises g.N.Node.spans c.args.wanted.now c.requires.wanted 1 c.args.links.now c.args.at c.index-links-at-3.result c.requires.within c.requires.linked c.requires.rising c.take_below-found.new.link c.in-Taken.lo f.0 f.1)

pub renew_at-requires-clause-room : goal.renew_at-requires-clause-room
renew_at-requires-clause-room g c =
    room_between-bounded (spans_below g.N.Node.spans (slice_set c.args.links.now c.args.at c.take_below-found.new.link))

pub returns-then-lo-first-clause-found : goal.returns-then-lo-first-clause-found
returns-then-lo-first-clause-found g c =
    let end = before_end g.N.Node.spans 1 c.args.links.now c.args.at c.index-links-at.result c.requires.linked (omega (arith, c.requires.some)) c.requires.within in
    let f = rw end at c.in-Taken.ensures.found in
    let behind = behind_is g.N.Node.spans c.args.wanted.now c.requires.wanted 1 c.args.links.now c.args.at c.index-links-at-3.result c.requires.within c.requires.linked c.requires.rising (omega (arith, c.requires.some)) in
    let r = set_own g.N.Node.spans c.args.wanted.now c.requires.wanted 1 c.args.links.now c.args.at c.index-links-at-3.result c.requires.within c.requires.linked c.requires.rising c.take_below-found.new.link (highest_behind g.N.Node.spans c.args.wanted.now c.args.at c.args.links.now) (Taken c.in-Taken.lo) behind f in
    (r.0, c.renew_at.ensures.same ∙ r.1)

pub returns-then-lo-first-clause-low : goal.returns-then-lo-first-clause-low
returns-then-lo-first-clause-low g c =
    let j : c.args.at - 1 + 1 ≡ c.args.at = omega (arith, c.requires.some) in
    let low = rw j at c.renew_at.ensures.low in
    low ∙ ap (spans_below g.N.Node.spans) (take_set c.args.links.now c.args.at c.take_below-found.new.link)

pub returns-then-lo-first-clause-others : goal.returns-then-lo-first-clause-others
returns-then-lo-first-clause-others g c =
    let j : c.args.at - 1 + 1 ≡ c.args.at = omega (arith, c.requires.some) in
    let others = rw j at c.renew_at.ensures.others in
    drop_later c.args.at (c.args.at + 1) _ _ (omega arith) others ∙ drop_behind c.args.links.now c.args.at c.take_below-found.new.link

pub returns-else-lo-first-clause-linked : goal.returns-else-lo-first-clause-linked
returns-else-lo-first-clause-linked g c =
    let end = before_end g.N.Node.spans 1 c.args.links.now c.args.at c.index-links-at.result c.requires.linked (omega (arith, c.requires.some)) c.requires.within in
    let e = c.take_below-found.ensures in
    set_linked g.N.Node.spans c.args.wanted.now c.requires.wanted 1 c.args.links.now c.args.at c.index-links-at-3.result c.requires.within c.requires.linked c.requires.rising c.take_below-found.new.link e.linked (λ some. rw end at e.gap) e.end

pub returns-else-lo-first-clause-found : goal.returns-else-lo-first-clause-found
returns-else-lo-first-clause-found g c =
    let end = before_end g.N.Node.spans 1 c.args.links.now c.args.at c.index-links-at.result c.requires.linked (omega (arith, c.requires.some)) c.requires.within in
    let f = rw end at c.in-Taken.ensures.found in
    let behind = behind_is g.N.Node.spans c.args.wanted.now c.requires.wanted 1 c.args.links.now c.args.at c.index-links-at-3.result c.requires.within c.requires.linked c.requires.rising (omega (arith, c.requires.some)) in
    let r = set_own g.N.Node.spans c.args.wanted.now c.requires.wanted 1 c.args.links.now c.args.at c.index-links-at-3.result c.requires.within c.requires.linked c.requires.rising c.take_below-found.new.link (highest_behind g.N.Node.spans c.args.wanted.now c.args.at c.args.links.now) (Taken c.in-Taken.lo) behind f in
    r

pub returns-else-lo-first-clause-low : goal.returns-else-lo-first-clause-low
returns-else-lo-first-clause-low g c =
    ap (spans_below g.N.Node.spans) (take_set c.args.links.now c.args.at c.take_below-found.new.link)

pub returns-else-lo-first-clause-others : goal.returns-else-lo-first-clause-others
returns-else-lo-first-clause-others g c =
    drop_behind c.args.links.now c.args.at c.take_below-found.new.link

pub returns-in_default-clause-linked : goal.returns-in_default-clause-linked
returns-in_default-clause-linked g c =
    let end = before_end g.N.Node.spans 1 c.args.links.now c.args.at c.index-links-at.result c.requires.linked (omega (arith, c.requires.some)) c.requires.within in
    let e = c.take_below-found.ensures in
    set_linked g.N.Node.spans c.args.wanted.now c.requires.wanted 1 c.args.links.now c.args.at c.index-links-at-3.result c.requires.within c.requires.linked c.requires.rising c.take_below-found.new.link e.linked (λ some. rw end at e.gap) e.end

pub returns-in_default-clause-found : goal.returns-in_default-clause-found
returns-in_default-clause-found g c =
    let end = before_end g.N.Node.spans 1 c.args.links.now c.args.at c.index-links-at.result c.requires.linked (omega (arith, c.requires.some)) c.requires.within in
    let f = rw end at c.take_below-found.ensures.found in
    let behind = behind_is g.N.Node.spans c.args.wanted.now c.requires.wanted 1 c.args.links.now c.args.at c.index-links-at-3.result c.requires.within c.requires.linked c.requires.rising (omega (arith, c.requires.some)) in
    set_own g.N.Node.spans c.args.wanted.now c.requires.wanted 1 c.args.links.now c.args.at c.index-links-at-3.result c.requires.within c.requires.linked c.requires.rising c.take_below-found.new.link (highest_behind g.N.Node.spans c.args.wanted.now c.args.at c.args.links.now) c.take_below-found.result behind f

pub returns-in_default-clause-low : goal.returns-in_default-clause-low
returns-in_default-clause-low g c =
    ap (spans_below g.N.Node.spans) (take_set c.args.links.now c.args.at c.take_below-found.new.link)

pub returns-in_default-clause-others : goal.returns-in_default-clause-others
returns-in_default-clause-others g c =
    drop_behind c.args.links.now c.args.at c.take_below-found.new.link
