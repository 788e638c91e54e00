use Rattle.std.proofs.Common.{◌≡◌}
use Rattle.iova_depot.specs.Inside.{AreEmptyBelow}
use Rattle.iova_depot.proofs.caches.Caches.take_any.Given as goal

-- nothing was taken yet, and the slots before this one are empty
abbrev pub invariant-loop-slot : goal.invariant-loop-slot
invariant-loop-slot l = record {
  same : l.self ≡ l.fn.self;
  empty : AreEmptyBelow l.slot l.self.workers l.self.caches;
}
