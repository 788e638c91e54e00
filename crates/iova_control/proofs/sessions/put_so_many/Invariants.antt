use Rattle.std.proofs.Common.{◌-◌, ◌≤◌}
use Rattle.iova_control.specs.Rows.{PutsRows}
use Rattle.iova_control.proofs.sessions.put_so_many.Given as goal

abbrev pub invariant-loop-told : goal.invariant-loop-told
invariant-loop-told g l = record {
  within : l.told ≤ l.fn.sessions;
  rows : PutsRows l.fn.worker l.told l.fn.text.bytes.items l.text.bytes.items;
}

abbrev pub decreases-loop-told : goal.decreases-loop-told
decreases-loop-told g l = l.fn.sessions - l.told
