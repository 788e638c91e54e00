use Rattle.std.proofs.Common.{◌≡◌}
use Rattle.iova_daemon.specs.Serving.{RoundsOnThread}
use Rattle.iova_daemon.proofs.flusher.Flusher.go_on.Given as goal

abbrev pub invariant-loop : goal.invariant-loop
invariant-loop g l =
    (g.K.Keep.identity l.self.keeper ≡ g.K.Keep.identity l.initial.self.keeper)
    × RoundsOnThread (g.K.Keep.identity l.initial.self.keeper).number l.initial.self.tally l.self.tally
    (g.D.Sink.calls l.initial.self.sink) (g.D.Sink.calls l.self.sink)
