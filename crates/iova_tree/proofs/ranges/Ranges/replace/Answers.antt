use Rattle.iova_tree.proofs.Blocks.{room_between-bounded}
use Rattle.iova_tree.proofs.ranges.Ranges.replace.Goals as goal

pub invariant_of-self : goal.invariant_of-self
invariant_of-self c = room_between-bounded c.replace.new.self
