use Rattle.std.specs.Prelude.{length}
use Rattle.iova_lock.proofs.shared.+has_seat.Given as goal

abbrev pub decreases-has_seat : goal.decreases-has_seat
decreases-has_seat g l = length l.seats.now
