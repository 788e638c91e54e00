use Rattle.std.proofs.Common.{◌≡◌, ◌+◌, ◌∙◌, arith, rules}
use Rattle.iova_tree.proofs.Branches.{take_set, drop_behind}
use Rattle.iova_tree.proofs.Bounds.{drop_later}
use Rattle.iova_tree.proofs.Places.{parts_are, own_free, set_same, set_grown, set_with, behind_alone_at, room_before, room_behind}
use Rattle.iova_tree.proofs.branch.insert_at.Goals as goal

pub insert_below-requires-clause-linked : goal.insert_below-requires-clause-linked
insert_below-requires-clause-linked g c =
    (parts_are g.N.Node.spans c.args.links.now c.args.at c.index-links-at-2.result c.requires.leads.within c.requires.linked c.requires.rising).own

pub insert_below-requires-clause-free : goal.insert_below-requires-clause-free
insert_below-requires-clause-free g c =
    (own_free g.N.Node.spans c.args.links.now c.args.at c.index-links-at-2.result c.requires.leads.within c.requires.linked c.requires.rising c.args.span c.requires.leads c.requires.free)

pub returns-in_err-insert_below-clause-linked : goal.returns-in_err-insert_below-clause-linked
returns-in_err-insert_below-clause-linked g c =
    let e = c.in_err-insert_below.ensures in
    set_grown g.N.Node.spans c.args.links.now c.args.at c.index-links-at-2.result c.requires.leads.within c.requires.linked c.requires.rising c.insert_below.new.link e.linked e.first e.end e.known

pub returns-in_err-insert_below-clause-err : goal.returns-in_err-insert_below-clause-err
returns-in_err-insert_below-clause-err g c =
    let e = c.in_err-insert_below.ensures in
    let same = set_same g.N.Node.spans c.args.links.now c.args.at c.index-links-at-2.result c.requires.leads.within c.requires.linked c.requires.rising c.insert_below.new.link e.err in
    search (rules, same)

pub returns-in_err-insert_below-clause-room : goal.returns-in_err-insert_below-clause-room
returns-in_err-insert_below-clause-room g c =
    let e = c.in_err-insert_below.ensures in
    rw (set_same g.N.Node.spans c.args.links.now c.args.at c.index-links-at-2.result c.requires.leads.within c.requires.linked c.requires.rising c.insert_below.new.link e.err) c.requires.room

pub returns-in_err-insert_below-clause-others : goal.returns-in_err-insert_below-clause-others
returns-in_err-insert_below-clause-others g c = drop_later (c.args.at + 1) (c.args.at + 2) _ c.args.links.now (omega arith) (drop_behind c.args.links.now c.args.at c.insert_below.new.link)

pub settle-requires-clause-low : goal.settle-requires-clause-low
settle-requires-clause-low g c = rw (take_set c.args.links.now c.args.at c.insert_below.new.link) (parts_are g.N.Node.spans c.args.links.now c.args.at c.index-links-at-2.result c.requires.leads.within c.requires.linked c.requires.rising).low

pub settle-requires-clause-high : goal.settle-requires-clause-high
settle-requires-clause-high g c = rw (drop_behind c.args.links.now c.args.at c.insert_below.new.link) (behind_alone_at g.N.Node.spans c.args.links.now c.args.at c.index-links-at-2.result c.requires.leads.within c.requires.linked c.requires.rising)

pub settle-requires-clause-rising : goal.settle-requires-clause-rising
settle-requires-clause-rising g c =
    rw (set_with g.N.Node.spans c.args.links.now c.args.at c.index-links-at-2.result c.requires.leads.within c.requires.linked c.requires.rising c.args.span c.requires.leads c.insert_below.new.link c.in_ok-insert_below.ensures.ok) c.requires.free

pub settle-requires-clause-room_low : goal.settle-requires-clause-room_low
settle-requires-clause-room_low g c = rw (take_set c.args.links.now c.args.at c.insert_below.new.link) (room_before g.N.Node.spans c.args.links.now c.args.at c.index-links-at-2.result c.requires.leads.within c.requires.linked c.requires.rising c.args.room.now c.requires.room)

pub settle-requires-clause-room_high : goal.settle-requires-clause-room_high
settle-requires-clause-room_high g c = rw (drop_behind c.args.links.now c.args.at c.insert_below.new.link) (room_behind g.N.Node.spans c.args.links.now c.args.at c.index-links-at-2.result c.requires.leads.within c.requires.linked c.requires.rising c.args.room.now c.requires.room)

pub renew_at-requires-clause-rising : goal.renew_at-requires-clause-rising
renew_at-requires-clause-rising g c =
    let with = set_with g.N.Node.spans c.args.links.now c.args.at c.index-links-at-2.result c.requires.leads.within c.requires.linked c.requires.rising c.args.span c.requires.leads c.insert_below.new.link c.in_ok-insert_below.ensures.ok in
    rw (c.settle.ensures.same, with) c.requires.free

pub renew_at-requires-then-links-at-clause-rising : goal.renew_at-requires-then-links-at-clause-rising
renew_at-requires-then-links-at-clause-rising g c =
    let with = set_with g.N.Node.spans c.args.links.now c.args.at c.index-links-at-2.result c.requires.leads.within c.requires.linked c.requires.rising c.args.span c.requires.leads c.insert_below.new.link c.in_ok-insert_below.ensures.ok in
    rw (c.renew_at.ensures.same, c.settle.ensures.same, with) c.requires.free

pub returns-then-links-at-clause-ok : goal.returns-then-links-at-clause-ok
returns-then-links-at-clause-ok g c =
    let with = set_with g.N.Node.spans c.args.links.now c.args.at c.index-links-at-2.result c.requires.leads.within c.requires.linked c.requires.rising c.args.span c.requires.leads c.insert_below.new.link c.in_ok-insert_below.ensures.ok in
    c.renew_at-then-links-at.ensures.same ∙ c.renew_at.ensures.same ∙ c.settle.ensures.same ∙ with

pub returns-then-links-at-clause-others : goal.returns-then-links-at-clause-others
returns-then-links-at-clause-others g c =
    let at = c.args.at in
    let j : at + 1 + 1 ≡ at + 2 = omega arith in
    let last = rw j at c.renew_at-then-links-at.ensures.others in
    let own = drop_later (at + 1) (at + 2) c.renew_at.new.links c.settle.new.links (omega arith) c.renew_at.ensures.others in
    last ∙ own ∙ c.settle.ensures.others ∙ drop_later (at + 1) (at + 2) _ c.args.links.now (omega arith) (drop_behind c.args.links.now at c.insert_below.new.link)

pub returns-else-links-at-clause-ok : goal.returns-else-links-at-clause-ok
returns-else-links-at-clause-ok g c =
    let with = set_with g.N.Node.spans c.args.links.now c.args.at c.index-links-at-2.result c.requires.leads.within c.requires.linked c.requires.rising c.args.span c.requires.leads c.insert_below.new.link c.in_ok-insert_below.ensures.ok in
    c.settle.ensures.same ∙ with

pub returns-else-links-at-clause-others : goal.returns-else-links-at-clause-others
returns-else-links-at-clause-others g c = c.settle.ensures.others ∙ drop_later (c.args.at + 1) (c.args.at + 2) _ c.args.links.now (omega arith) (drop_behind c.args.links.now c.args.at c.insert_below.new.link)
