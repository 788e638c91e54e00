use Rattle.std.proofs.Common.{ap, ◌∙◌}
use Rattle.iova_tree.specs.declared.branch.Link.{Link}
use Rattle.iova_tree.proofs.Branches.{take_set, drop_set, drop_behind}
use Rattle.iova_tree.proofs.Places.{parts_are, own_rises, set_same, room_before, room_from, set_low}
use Rattle.iova_tree.proofs.branch.renew_at.Goals as goal

pub renew-requires-clause-linked : goal.renew-requires-clause-linked
renew-requires-clause-linked g c = (parts_are g.N.Node.spans c.args.links.now c.args.at c.index-links-at.result c.if-at-links.false c.requires.linked c.requires.rising).own

pub renew-requires-clause-rising : goal.renew-requires-clause-rising
renew-requires-clause-rising g c = own_rises g.N.Node.spans c.args.links.now c.args.at c.index-links-at.result c.if-at-links.false c.requires.linked c.requires.rising

pub raise_at-requires-clause-low : goal.raise_at-requires-clause-low
raise_at-requires-clause-low g c =
    rw (take_set c.args.links.now c.args.at c.renew.new.link) (parts_are g.N.Node.spans c.args.links.now c.args.at c.index-links-at.result c.if-at-links.false c.requires.linked c.requires.rising).low

pub raise_at-requires-clause-high : goal.raise_at-requires-clause-high
raise_at-requires-clause-high g c =
    let i = parts_are g.N.Node.spans c.args.links.now c.args.at c.index-links-at.result c.if-at-links.false c.requires.linked c.requires.rising in
    let end = ap (λ (x : Link g.row.N.Denot). x.end) c.renew.ensures.is in
    rw (drop_set c.args.links.now c.args.at c.renew.new.link c.if-at-links.false) (c.renew.ensures.linked, rw end i.high)

pub raise_at-requires-clause-rising : goal.raise_at-requires-clause-rising
raise_at-requires-clause-rising g c =
    let same = ap (λ (x : Link g.row.N.Denot). g.N.Node.spans x.node) c.renew.ensures.is in
    rw (set_same g.N.Node.spans c.args.links.now c.args.at c.index-links-at.result c.if-at-links.false c.requires.linked c.requires.rising c.renew.new.link same) c.requires.rising

pub raise_at-requires-clause-room_low : goal.raise_at-requires-clause-room_low
raise_at-requires-clause-room_low g c =
    rw (take_set c.args.links.now c.args.at c.renew.new.link) (room_before g.N.Node.spans c.args.links.now c.args.at c.index-links-at.result c.if-at-links.false c.requires.linked c.requires.rising c.args.room.now c.requires.room)

pub raise_at-requires-clause-room_high : goal.raise_at-requires-clause-room_high
raise_at-requires-clause-room_high g c =
    let same = ap (λ (x : Link g.row.N.Denot). g.N.Node.spans x.node) c.renew.ensures.is in
    let most = room_from g.N.Node.spans c.args.links.now c.args.at c.index-links-at.result c.if-at-links.false c.requires.linked c.requires.rising c.args.room.now c.requires.room in
    rw (drop_set c.args.links.now c.args.at c.renew.new.link c.if-at-links.false, same) most

pub returns-clause-same : goal.returns-clause-same
returns-clause-same g c =
    let same = ap (λ (x : Link g.row.N.Denot). g.N.Node.spans x.node) c.renew.ensures.is in
    c.raise_at.ensures.same ∙ set_same g.N.Node.spans c.args.links.now c.args.at c.index-links-at.result c.if-at-links.false c.requires.linked c.requires.rising c.renew.new.link same

pub returns-clause-others : goal.returns-clause-others
returns-clause-others g c = c.raise_at.ensures.others ∙ drop_behind c.args.links.now c.args.at c.renew.new.link

pub returns-clause-low : goal.returns-clause-low
returns-clause-low g c =
    let same = ap (λ (x : Link g.row.N.Denot). g.N.Node.spans x.node) c.renew.ensures.is in
    c.raise_at.ensures.low ∙ set_low g.N.Node.spans c.args.links.now c.args.at c.index-links-at.result c.renew.new.link c.if-at-links.false same
