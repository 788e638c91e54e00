use Rattle.std.proofs.Common.{length}
use Rattle.iova_control.proofs.metrics.+put_all.Given as goal

abbrev pub decreases-put_all : goal.decreases-put_all
decreases-put_all l = length l.metrics.now
