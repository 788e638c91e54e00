use Rattle.std.proofs.Common.{◌<◌, length}
use Rattle.iova_check.proofs.Streams.{SoFar}
use Rattle.iova_check.proofs.run.CheckState.read_all.Given as goal

-- the findings of all that was taken are written, and the buffer has room
abbrev pub invariant-loop : goal.invariant-loop
invariant-loop g l = record {
  so_far : SoFar l.source (g.R.Read.remaining l.initial.reader) (g.R.Read.remaining l.reader)
      (g.W.Write.contents l.initial.writer) (g.W.Write.contents l.writer) l.self;
  room : 0 < length l.buffer;
}
