use Rattle.std.proofs.Common.{◌≡◌, ◌∙◌, refl}
use Rattle.iova_daemon.specs.Serving.{RoundsOnThread}
use Rattle.iova_daemon.proofs.Rounds.{nothing_flushed, then_flushed, then_rounds_on}
use Rattle.iova_daemon.proofs.flusher.Flusher.go_on.Goals as goal
use Rattle.iova_daemon.proofs.flusher.Flusher.go_on.Goals.{then-self, else-self, then-not-looked, else-not-looked, in-Ok, in_default}

pub loop-init : goal.loop-init
loop-init g c = (refl, nothing_flushed _ _ _)

-- flushes ahead come before the pause
pub returns-then-not-pause : goal.returns-then-not-pause
returns-then-not-pause g c =
    let was : (g.K.Keep.identity c.if-self.self.keeper ≡ g.K.Keep.identity c.args.self.now.keeper)
    × RoundsOnThread (g.K.Keep.identity c.args.self.now.keeper).number c.args.self.now.tally c.if-self.self.tally
    (g.D.Sink.calls c.args.self.now.sink) (g.D.Sink.calls c.if-self.self.sink) =
    elim c.if-self.branch [
      | then-self w ↦
          let i = c.loop.invariant in
          let ahead = rw i.0 at w.go_ahead-looked.ensures.rounds in
          rw w.self-is (w.go_ahead-looked.ensures.same ∙ i.0, then_rounds_on _ _ _ _ _ _ _ i.1 ahead)
      | else-self w ↦ rw w.self-is c.loop.invariant
    ] in
    elim c.if-not-looked.branch [
      | then-not-looked w ↦ rw w.self-is was.1
      | else-not-looked w ↦ rw w.self-is was.1
    ]

pub loop-preserved : goal.loop-preserved
loop-preserved g c =
    let was : (g.K.Keep.identity c.if-self.self.keeper ≡ g.K.Keep.identity c.args.self.now.keeper)
    × RoundsOnThread (g.K.Keep.identity c.args.self.now.keeper).number c.args.self.now.tally c.if-self.self.tally
    (g.D.Sink.calls c.args.self.now.sink) (g.D.Sink.calls c.if-self.self.sink) =
    elim c.if-self.branch [
      | then-self w ↦
          let i = c.loop.invariant in
          let ahead = rw i.0 at w.go_ahead-looked.ensures.rounds in
          rw w.self-is (w.go_ahead-looked.ensures.same ∙ i.0, then_rounds_on _ _ _ _ _ _ _ i.1 ahead)
      | else-self w ↦ rw w.self-is c.loop.invariant
    ] in
    let paused : (g.K.Keep.identity c.if-not-looked.self.keeper ≡ g.K.Keep.identity c.args.self.now.keeper)
    × RoundsOnThread (g.K.Keep.identity c.args.self.now.keeper).number c.args.self.now.tally c.if-not-looked.self.tally
    (g.D.Sink.calls c.args.self.now.sink) (g.D.Sink.calls c.if-not-looked.self.sink) =
    elim c.if-not-looked.branch [
      | then-not-looked w ↦ rw w.self-is was
      | else-not-looked w ↦ rw w.self-is was
    ] in
    let rounds = rw paused.0 at c.timeout-round.ensures.rounds in
    let all : (g.K.Keep.identity c.timeout-round.new.keeper ≡ g.K.Keep.identity c.args.self.now.keeper)
    × RoundsOnThread (g.K.Keep.identity c.args.self.now.keeper).number c.args.self.now.tally c.timeout-round.new.tally
    (g.D.Sink.calls c.args.self.now.sink) (g.D.Sink.calls c.timeout-round.new.sink) =
    (c.timeout-round.ensures.same ∙ paused.0, then_flushed _ _ _ _ _ _ _ paused.1 rounds c.timeout-round.ensures.parts c.timeout-round.ensures.tally) in
    elim c.match-round.branch [
      | in-Ok w ↦ rw w.self-is all
      | in_default w ↦ rw w.self-is all
    ]
