use Rattle.std.proofs.Common.{length}
use Rattle.iova_command.proofs.plan_words.+write_windows.Given as goal

abbrev pub decreases-write_windows : goal.decreases-write_windows
decreases-write_windows g l = length l.windows.now
