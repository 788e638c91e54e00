use Rattle.std.proofs.Common.{length}
use Rattle.iova_tree.proofs.branch.+meets_any.Given as goal

abbrev pub decreases-meets_any : goal.decreases-meets_any
decreases-meets_any g l = length l.links.now
