use Rattle.std.proofs.Common.{◌∙◌}
use Rattle.iova_tree.proofs.Apart.{rise_sorted, searched_insert}
use Rattle.iova_tree.proofs.window.insert_window.Goals as goal

pub position_of-at-requires : goal.position_of-at-requires
position_of-at-requires c = rw c.deref.ensures.value (rise_sorted c.requires.rise.0 c.requires.rise.1 _ c.requires.rise.2)

pub returns : goal.returns
returns c =
    let p = c.position_of-at.ensures in
    let stands = searched_insert c.requires.rise.0 c.requires.rise.1 c.args.window _ _ _ c.deref.ensures.value c.requires.rise.2 c.requires.some c.requires.clear p.within (rw c.lo.ensures at p.below) (rw c.lo.ensures at p.above) in
    rw c.unwrap.ensures at c.insert.ensures.items ∙ stands
