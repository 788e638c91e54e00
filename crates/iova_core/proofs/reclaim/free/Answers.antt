use Rattle.iova_core.proofs.Reclaims.{has_some, frees_one}
use Rattle.iova_core.proofs.reclaim.free.Goals as goal

pub remove-requires : goal.remove-requires
remove-requires c = rw c.lo.ensures (has_some c.args.tree.now c.args.range c.requires.space c.requires.held)

pub returns : goal.returns
returns c = frees_one c.args.tree.now c.remove.new.self c.args.range c.requires.space c.remove.ensures.space c.requires.held (rw c.lo.ensures at c.remove.ensures.rest)
