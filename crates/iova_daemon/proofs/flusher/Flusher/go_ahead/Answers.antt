use Rattle.std.proofs.Common.{◌≡◌, ◌∙◌, refl}
use Rattle.iova_daemon.specs.Serving.{RoundsOnThread}
use Rattle.iova_daemon.proofs.Rounds.{then_flushed}
use Rattle.iova_daemon.proofs.flusher.Flusher.go_ahead.Goals as goal
use Rattle.iova_daemon.proofs.flusher.Flusher.go_ahead.Goals.{then-stat-start, else-stat-start, then-stat-mark+then-stat-flushed+in-Ok, else-stat-mark}

-- a look that changes the mark flushes nothing
pub returns-in-Err-clause-rounds : goal.returns-in-Err-clause-rounds
returns-in-Err-clause-rounds g c =
    let was : (g.K.Keep.identity c.if-stat-start.self.keeper ≡ g.K.Keep.identity c.args.self.now.keeper)
    × RoundsOnThread (g.K.Keep.identity c.args.self.now.keeper).number c.args.self.now.tally c.if-stat-start.self.tally
    (g.D.Sink.calls c.args.self.now.sink) (g.D.Sink.calls c.if-stat-start.self.sink) =
    elim c.if-stat-start.branch [
      | then-stat-start w ↦ rw w.self-is c.loop.invariant
      | else-stat-start w ↦ rw w.self-is c.loop.invariant
    ] in
    let rounds = rw was.0 at c.flush.ensures.rounds in
    then_flushed _ _ _ _ _ _ _ was.1 rounds c.flush.ensures.parts c.flush.ensures.tally

pub loop-preserved : goal.loop-preserved
loop-preserved g c =
    let was : (g.K.Keep.identity c.if-stat-start.self.keeper ≡ g.K.Keep.identity c.args.self.now.keeper)
    × RoundsOnThread (g.K.Keep.identity c.args.self.now.keeper).number c.args.self.now.tally c.if-stat-start.self.tally
    (g.D.Sink.calls c.args.self.now.sink) (g.D.Sink.calls c.if-stat-start.self.sink) =
    elim c.if-stat-start.branch [
      | then-stat-start w ↦ rw w.self-is c.loop.invariant
      | else-stat-start w ↦ rw w.self-is c.loop.invariant
    ] in
    elim c.if-stat-mark.branch [
      | then-stat-mark+then-stat-flushed+in-Ok w ↦
          let rounds = rw was.0 at w.flush.ensures.rounds in
          rw w.self-is (w.flush.ensures.same ∙ was.0, then_flushed _ _ _ _ _ _ _ was.1 rounds w.flush.ensures.parts w.flush.ensures.tally)
      | else-stat-mark w ↦ rw w.self-is was
    ]
