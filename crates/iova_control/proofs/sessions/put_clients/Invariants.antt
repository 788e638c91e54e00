use Rattle.std.proofs.Common.{◌≤◌}
use Rattle.iova_control.specs.Rows.{PutsRows}
use Rattle.iova_control.proofs.sessions.put_clients.Given as goal

abbrev pub invariant-loop : goal.invariant-loop
invariant-loop g l = record {
  within : l.told ≤ l.sessions;
  rows : PutsRows l.worker l.told l.initial.text.bytes.items l.text.bytes.items;
}
