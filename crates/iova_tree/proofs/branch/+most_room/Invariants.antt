use Rattle.std.proofs.Common.{length}
use Rattle.iova_tree.proofs.branch.+most_room.Given as goal

abbrev pub decreases-most_room : goal.decreases-most_room
decreases-most_room g l = length l.links.now
