use Rattle.std.specs.Prelude.{length}
use Rattle.iova_lock.proofs.batch.+others_in_front.Given as goal

abbrev pub decreases-others_in_front : goal.decreases-others_in_front
decreases-others_in_front l = length l.asks.now
