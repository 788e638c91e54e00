use Rattle.iova_cache.specs.Waiting.{window}
use Rattle.iova_cache.proofs.Settling.{GoesOn}
use Rattle.iova_cache.proofs.ring.put_window.Given as goal

abbrev pub invariant-loop-count : goal.invariant-loop-count
invariant-loop-count l = GoesOn l.initial.magazines l.magazines (window l.slots l.head l.waiting) l.newest l.count
