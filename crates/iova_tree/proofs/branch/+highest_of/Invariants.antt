use Rattle.std.proofs.Common.{length}
use Rattle.iova_tree.proofs.branch.+highest_of.Given as goal

abbrev pub decreases-highest_of : goal.decreases-highest_of
decreases-highest_of g l = length l.links.now
