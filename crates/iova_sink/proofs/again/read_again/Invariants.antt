use Rattle.std.proofs.Common.{◌≡◌}
use Rattle.iova_sink.proofs.again.read_again.Given as goal

abbrev pub invariant-loop : goal.invariant-loop
invariant-loop g l = g.C.SocketCalls.state l.calls ≡ g.C.SocketCalls.state l.initial.calls
