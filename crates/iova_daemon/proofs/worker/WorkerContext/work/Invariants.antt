use Rattle.std.proofs.Common.{◌≡◌}
use Rattle.iova_keep.specs.Views.{KeepsPlace}
use Rattle.iova_session.specs.PostSessions.{between}
use Rattle.iova_daemon.specs.SessionThreads.{ServesOnThread}
use Rattle.iova_daemon.proofs.worker.WorkerContext.work.Given as goal

abbrev pub invariant-turns : goal.invariant-turns
invariant-turns g l = record {
  place : KeepsPlace l.fn.place.seat l.post.seat (g.D.Sink.calls l.fn.sink) (g.D.Sink.calls l.sink.sink);
  same : g.K.Keep.identity l.keeper ≡ g.K.Keep.identity l.fn.keeper;
  turns : ServesOnThread g.L.Link.left g.L.Link.sent g.L.Link.calls g.L.Link.reads l.fn.self.serving.limits
      (g.K.Keep.identity l.fn.keeper).strict (g.K.Keep.identity l.fn.keeper).number
      (between l.fn.place.seat l.fn.place.waiting.items (g.D.Sink.calls l.fn.sink) (g.K.Keep.domain l.fn.keeper))
      (between l.post.seat l.post.waiting.items (g.D.Sink.calls l.sink.sink) (g.K.Keep.domain l.keeper));
}
