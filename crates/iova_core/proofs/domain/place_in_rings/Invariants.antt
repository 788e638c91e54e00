use Rattle.iova_core.proofs.Readers.{NotBefore}
use Rattle.iova_core.proofs.domain.place_in_rings.Given as goal

-- the rings so far don't have the frame
abbrev pub invariant-loop-w : goal.invariant-loop-w
invariant-loop-w l = NotBefore l.frame l.rings l.w
