use Rattle.iova_keep.specs.Events.{ended}
use Rattle.iova_keep.proofs.closing.closed.Goals as goal

pub returns-in-Empty : goal.returns-in-Empty
returns-in-Empty c = rw c.in-Empty.is ended
