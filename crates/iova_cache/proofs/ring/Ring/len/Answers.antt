use Rattle.std.proofs.Common.{sym}
use Rattle.iova_cache.proofs.Windows.{length_window}
use Rattle.iova_cache.proofs.ring.Ring.len.Goals as goal

pub returns-clause-is : goal.returns-clause-is
returns-clause-is c = rw (← c.self.view_is) (sym (length_window c.self.inside.slots.items c.self.inside.head c.self.inside.count))
