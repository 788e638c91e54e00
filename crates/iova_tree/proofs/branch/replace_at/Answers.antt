use Rattle.std.proofs.Common.{◌∙◌}
use Rattle.iova_tree.proofs.Blocks.{room_between-bounded}
use Rattle.iova_tree.proofs.Branches.{take_set, drop_behind}
use Rattle.iova_tree.proofs.Places.{parts_are, own_held, own_rises, own_replaced, set_replaced, behind_alone_at}
use Rattle.iova_tree.proofs.branch.replace_at.Goals as goal

pub replace_below-requires-clause-linked : goal.replace_below-requires-clause-linked
replace_below-requires-clause-linked g c = (parts_are g.N.Node.spans c.args.links.now c.args.at c.index-links-at.result c.requires.leads.within c.requires.linked c.requires.rising).own

pub replace_below-requires-clause-held : goal.replace_below-requires-clause-held
replace_below-requires-clause-held g c = own_held g.N.Node.spans c.args.links.now c.args.at c.index-links-at.result c.requires.leads.within c.requires.linked c.requires.rising c.args.lo c.requires.leads c.requires.held

pub replace_below-requires-clause-rising : goal.replace_below-requires-clause-rising
replace_below-requires-clause-rising g c = own_rises g.N.Node.spans c.args.links.now c.args.at c.index-links-at.result c.requires.leads.within c.requires.linked c.requires.rising

pub replace_below-requires-clause-free : goal.replace_below-requires-clause-free
replace_below-requires-clause-free g c = own_replaced g.N.Node.spans c.args.links.now c.args.at c.index-links-at.result c.requires.leads.within c.requires.linked c.requires.rising c.args.lo c.requires.leads c.args.span c.requires.held c.requires.free

pub settle-requires-clause-low : goal.settle-requires-clause-low
settle-requires-clause-low g c = rw (take_set c.args.links.now c.args.at c.replace_below.new.link) (parts_are g.N.Node.spans c.args.links.now c.args.at c.index-links-at.result c.requires.leads.within c.requires.linked c.requires.rising).low

pub settle-requires-clause-high : goal.settle-requires-clause-high
settle-requires-clause-high g c = rw (drop_behind c.args.links.now c.args.at c.replace_below.new.link) (behind_alone_at g.N.Node.spans c.args.links.now c.args.at c.index-links-at.result c.requires.leads.within c.requires.linked c.requires.rising)

pub settle-requires-clause-rising : goal.settle-requires-clause-rising
settle-requires-clause-rising g c = rw (set_replaced g.N.Node.spans c.args.links.now c.args.at c.index-links-at.result c.requires.leads.within c.requires.linked c.requires.rising c.args.lo c.requires.leads c.args.span c.replace_below.new.link c.requires.held c.replace_below.ensures.replaced) c.requires.free

pub settle-requires-clause-room_low : goal.settle-requires-clause-room_low
settle-requires-clause-room_low g c = room_between-bounded _

pub settle-requires-clause-room_high : goal.settle-requires-clause-room_high
settle-requires-clause-room_high g c = room_between-bounded _

pub returns-clause-replaced : goal.returns-clause-replaced
returns-clause-replaced g c = c.settle.ensures.same ∙ set_replaced g.N.Node.spans c.args.links.now c.args.at c.index-links-at.result c.requires.leads.within c.requires.linked c.requires.rising c.args.lo c.requires.leads c.args.span c.replace_below.new.link c.requires.held c.replace_below.ensures.replaced
