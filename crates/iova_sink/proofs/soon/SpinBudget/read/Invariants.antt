use Rattle.std.proofs.Common.{◌≡◌}
use Rattle.iova_sink.proofs.soon.SpinBudget.read.Given as goal

abbrev pub invariant-loop : goal.invariant-loop
invariant-loop g l = g.C.SocketCalls.state l.calls ≡ g.C.SocketCalls.state l.initial.calls

abbrev pub invariant-loop-2 : goal.invariant-loop-2
invariant-loop-2 g l = g.C.SocketCalls.state l.calls ≡ g.C.SocketCalls.state l.initial.calls
