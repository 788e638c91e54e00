use Rattle.std.proofs.Common.{length}
use Rattle.iova_command.proofs.label.+are_right.Given as goal

abbrev pub decreases-are_right : goal.decreases-are_right
decreases-are_right l = length l.rows.now
