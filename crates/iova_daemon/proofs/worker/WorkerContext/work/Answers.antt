use Rattle.std.proofs.Common.{◌∙◌, refl}
use Rattle.iova_daemon.specs.SessionThreads.{nothing}
use Rattle.iova_daemon.proofs.SessionThreads.{keeps_same, keeps_more, then_tried, then_served}
use Rattle.iova_daemon.proofs.worker.WorkerContext.work.Goals as goal

pub turns-init : goal.turns-init
turns-init g c = record { place = rw c.new-sink.ensures.sink (keeps_same _ _); same = refl; turns = rw c.new-sink.ensures.sink (nothing _) }

-- the clients that wait were tried, and then a session was served
pub turns-preserved-in-Serve : goal.turns-preserved-in-Serve
turns-preserved-in-Serve g c =
    let was = c.turns.invariant in
    let tried = c.try_again.ensures in
    let served = c.serve-ended.ensures in
    let place = rw c.begin_session.ensures at served.place in
    let session = rw c.begin_session.ensures at served.session in
    record {
      place = keeps_more _ _ _ _ _ _ was.place (keeps_more _ _ _ _ _ _ tried.place place);
      same = served.same ∙ tried.same ∙ was.same;
      turns = then_served _ _ _ _ _ _ _ _ _ _ (then_tried _ _ _ _ _ _ _ _ _ _ was.turns was.same tried.tries) (tried.same ∙ was.same) session;
    }

-- the clients that wait were tried, and nothing else was done
pub turns-preserved : goal.turns-preserved
turns-preserved g c =
    let was = c.turns.invariant in
    let tried = c.try_again.ensures in
    record {
      place = keeps_more _ _ _ _ _ _ was.place tried.place;
      same = tried.same ∙ was.same;
      turns = then_tried _ _ _ _ _ _ _ _ _ _ was.turns was.same tried.tries;
    }

pub turns-preserved-in-End : goal.turns-preserved-in-End
turns-preserved-in-End g c =
    let was = c.turns.invariant in
    let tried = c.try_again.ensures in
    record {
      place = keeps_more _ _ _ _ _ _ was.place tried.place;
      same = tried.same ∙ was.same;
      turns = then_tried _ _ _ _ _ _ _ _ _ _ was.turns was.same tried.tries;
    }
