use Rattle.std.proofs.Common.{length}
use Rattle.iova_command.proofs.command.+with_rows.Given as goal

abbrev pub decreases-with_rows : goal.decreases-with_rows
decreases-with_rows l = length l.rows.now
