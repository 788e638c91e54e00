use Rattle.std.proofs.Common.{refl, sym, ◌∙◌, arith, rules}
use Rattle.iova_tree.proofs.Fits.{higher-none}
use Rattle.iova_tree.proofs.Searched.{before_end, at_rising, at_whole, low_linked, low_rising}
use Rattle.iova_tree.proofs.branch.+highest_of.Goals as goal

pub returns-then-at-eq0 : goal.returns-then-at-eq0
returns-then-at-eq0 g t c =
    let some = rw c.if-at-eq0.true at c.requires.within in
    let whole = at_whole g.N.Node.spans c.args.wanted.now c.requires.wanted c.args.from c.args.links.now 0 c.index-links-0.result some c.requires.linked c.requires.rising (rw c.if-at-eq0.true at c.requires.above) in
    c.highest.ensures ∙ sym (whole ∙ higher-none _)

pub highest-requires-2-clause-rising : goal.highest-requires-2-clause-rising
highest-requires-2-clause-rising g t c =
    let lt = c.requires.within in
    rw (before_end g.N.Node.spans c.args.from c.args.links.now c.args.at c.index-links-at-2.result c.requires.linked (omega (arith, c.if-at-eq0.false)) lt)
    (at_rising g.N.Node.spans c.args.wanted.now c.requires.wanted c.args.from c.args.links.now c.args.at c.index-links-at.result lt c.requires.linked c.requires.rising)

pub returns-in-Some : goal.returns-in-Some
returns-in-Some g t c =
    let lt = c.requires.within in
    let end = before_end g.N.Node.spans c.args.from c.args.links.now c.args.at c.index-links-at-2.result c.requires.linked (omega (arith, c.if-at-eq0.false)) lt in
    let whole = at_whole g.N.Node.spans c.args.wanted.now c.requires.wanted c.args.from c.args.links.now c.args.at c.index-links-at.result lt c.requires.linked c.requires.rising c.requires.above in
    let own = rw end at (sym c.highest-2.ensures ∙ c.in-Some.is) in
    sym (whole ∙ rw own refl)

pub returns : goal.returns
returns g t c =
    let lt = c.requires.within in
    let end = before_end g.N.Node.spans c.args.from c.args.links.now c.args.at c.index-links-at-2.result c.requires.linked (omega (arith, c.if-at-eq0.false)) lt in
    let whole = at_whole g.N.Node.spans c.args.wanted.now c.requires.wanted c.args.from c.args.links.now c.args.at c.index-links-at.result lt c.requires.linked c.requires.rising c.requires.above in
    let own = rw end at (sym c.highest-2.ensures ∙ c.in_default.is) in
    c.highest_of.ensures ∙ sym (whole ∙ rw own refl)

pub highest-requires-clause-rising : goal.highest-requires-clause-rising
highest-requires-clause-rising g t c =
    let some = rw c.if-at-eq0.true at c.requires.within in
    at_rising g.N.Node.spans c.args.wanted.now c.requires.wanted c.args.from c.args.links.now 0 c.index-links-0.result some c.requires.linked c.requires.rising

pub highest_of-requires : goal.highest_of-requires
highest_of-requires g t c =
    let lt = c.requires.within in
    let at = c.args.at in
    let d = c.index-links-at.result in
    let low = low_linked g.N.Node.spans c.args.wanted.now c.requires.wanted c.args.from c.args.links.now at d lt c.requires.linked c.requires.rising in
    let rise = low_rising g.N.Node.spans c.args.wanted.now c.requires.wanted c.args.from c.args.links.now at d lt c.requires.linked c.requires.rising in
    (λ κs sub. (search rules, (search rules, (c.last_with_room-next.ensures.within, (c.last_with_room-next.ensures.above, (c.requires.wanted, (low, rise)))))))
