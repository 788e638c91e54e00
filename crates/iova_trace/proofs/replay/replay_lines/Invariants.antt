use Rattle.std.proofs.Common.{◌<◌, length}
use Rattle.iova_trace.proofs.Streams.{SoFar}
use Rattle.iova_trace.proofs.replay.replay_lines.Given as goal

-- all replies to what was taken are written, and the buffer has room
abbrev pub invariant-loop : goal.invariant-loop
invariant-loop g l = record {
  so_far : SoFar (g.R.Read.remaining l.initial.reader) (g.R.Read.remaining l.reader)
      (g.W.Write.contents l.initial.writer) (g.W.Write.contents l.writer) (g.L.Log.contents l.initial.log) (g.L.Log.contents l.log) l.state;
  room : 0 < length l.input.items;
}
