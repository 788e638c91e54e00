use Rattle.std.proofs.Common.{length, ◌-◌}
use Rattle.iova_core.proofs.Drains.{IsRowPut}
use Rattle.iova_core.proofs.reclaim.put_row.Given as goal

-- so many entries have left the row
abbrev pub invariant-loop-count : goal.invariant-loop-count
invariant-loop-count l = IsRowPut l.fn.tree l.tree l.fn.caches l.caches l.row l.w l.finish l.count l.frames

abbrev pub decreases-loop-count : goal.decreases-loop-count
decreases-loop-count l = length l.row - l.count
