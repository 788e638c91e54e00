use Rattle.iova_trace.proofs.Streams.{is_closed}
use Rattle.iova_trace.proofs.replay.replay_and_log.Goals as goal

pub returns : goal.returns
returns g c =
    is_closed (g.R.Read.remaining c.args.reader.now) (g.R.Read.remaining c.replay_lines-replayed.new.reader)
    (g.W.Write.contents c.args.writer.now) (g.W.Write.contents c.replay_lines-replayed.new.writer)
    (g.L.Log.contents c.args.log.now) (g.L.Log.contents c.replay_lines-replayed.new.log) (g.L.Log.contents c.flush-flushed.new.self)
    c.replay_lines-replayed.result c.closed.result c.replay_lines-replayed.ensures c.flush-flushed.ensures c.closed.ensures
