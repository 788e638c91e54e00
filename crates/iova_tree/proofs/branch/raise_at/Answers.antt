use Rattle.std.proofs.Common.{ap, arith}
use Rattle.iova_tree.proofs.Places.{end_some, end_apart, raised_linked, raised_same, raised_room, raised_others, set_low}
use Rattle.iova_tree.specs.declared.branch.Link.{Link}
use Rattle.iova_tree.proofs.branch.raise_at.Goals as goal

pub raise-requires-clause-some : goal.raise-requires-clause-some
raise-requires-clause-some g c =
    end_some g.N.Node.spans c.args.links.now c.args.at c.index-links-at-2.result c.index-links-at.result c.if-at-links.false (omega (arith, c.if-at-eq0.false)) c.requires.low c.requires.high c.requires.rising

pub raise-requires-clause-apart : goal.raise-requires-clause-apart
raise-requires-clause-apart g c =
    end_apart g.N.Node.spans c.args.links.now c.args.at c.index-links-at-2.result c.index-links-at.result c.if-at-links.false (omega (arith, c.if-at-eq0.false)) c.requires.low c.requires.high c.requires.rising

pub returns-clause-linked : goal.returns-clause-linked
returns-clause-linked g c =
    raised_linked g.N.Node.spans c.args.links.now c.args.at c.index-links-at-2.result c.index-links-at.result c.if-at-links.false (omega (arith, c.if-at-eq0.false)) c.requires.low c.requires.high c.requires.rising
    c.raise.new.link c.raise.ensures.is c.raise.ensures.known c.raise.ensures.gap

pub returns-clause-same : goal.returns-clause-same
returns-clause-same g c =
    raised_same g.N.Node.spans c.args.links.now c.args.at c.index-links-at-2.result c.index-links-at.result c.if-at-links.false (omega (arith, c.if-at-eq0.false)) c.requires.low c.requires.high c.requires.rising
    c.raise.new.link c.raise.ensures.is c.raise.ensures.known c.raise.ensures.gap

pub returns-clause-room : goal.returns-clause-room
returns-clause-room g c =
    raised_room g.N.Node.spans c.args.links.now c.args.at c.index-links-at-2.result c.index-links-at.result c.if-at-links.false (omega (arith, c.if-at-eq0.false)) c.requires.low c.requires.high c.requires.rising
    c.raise.new.link c.raise.ensures.is c.raise.ensures.known c.raise.ensures.gap c.args.room.now c.raise.new.room c.requires.room_low c.requires.room_high c.raise.ensures.room

pub returns-clause-others : goal.returns-clause-others
returns-clause-others g c =
    raised_others g.N.Node.spans c.args.links.now c.args.at c.index-links-at-2.result c.index-links-at.result c.if-at-links.false (omega (arith, c.if-at-eq0.false)) c.requires.low c.requires.high c.requires.rising
    c.raise.new.link c.raise.ensures.is c.raise.ensures.known c.raise.ensures.gap

pub returns-clause-low : goal.returns-clause-low
returns-clause-low g c =
    let same = ap (λ (x : Link g.row.N.Denot). g.N.Node.spans x.node) c.raise.ensures.is in
    set_low g.N.Node.spans c.args.links.now c.args.at c.index-links-at-2.result c.raise.new.link c.if-at-links.false same
