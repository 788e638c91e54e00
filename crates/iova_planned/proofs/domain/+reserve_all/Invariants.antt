use Rattle.std.proofs.Common.{length}
use Rattle.iova_planned.proofs.domain.+reserve_all.Given as goal

abbrev pub decreases-reserve_all : goal.decreases-reserve_all
decreases-reserve_all g l = length l.windows.now
