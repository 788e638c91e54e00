use Rattle.std.proofs.Common.{sym, ◌∙◌}
use Rattle.iova_tree.proofs.Places.{own_rises, own_covered}
use Rattle.iova_tree.proofs.branch.covers_any.Goals as goal

pub covers-requires : goal.covers-requires
covers-requires g c = record { rising = own_rises g.N.Node.spans c.args.links.now c.link_to-at.result c.index-links-at.result c.link_to-at.ensures.within c.requires.linked c.requires.rising }

pub returns : goal.returns
returns g c = c.covers.ensures ∙ sym (own_covered g.N.Node.spans c.args.links.now c.link_to-at.result c.index-links-at.result c.link_to-at.ensures.within c.requires.linked c.requires.rising c.args.frame c.link_to-at.ensures)
