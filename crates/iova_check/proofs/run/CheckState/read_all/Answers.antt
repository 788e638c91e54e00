use Rattle.std.proofs.Common.{[], arith, take}
use Rattle.std.proofs.lemmas.Result.{err_from_is_err_and}
use Rattle.std.proofs.KnownBytes.{Appends-nil, Consumes-nil, Keeps-refl}
use Rattle.iova_check.proofs.Streams.{read_fails, end_goes, end_stops, piece_stops, piece_goes}
use Rattle.iova_check.proofs.run.CheckState.read_all.Goals as goal

pub loop-init : goal.loop-init
loop-init g c = record {
  so_far = record {
    taken = [];
    written = [];
    takes = Consumes-nil (g.R.Read.remaining c.args.reader.now);
    writes = Appends-nil (g.W.Write.contents c.args.writer.now);
    stands = c.requires.begun;
    none = c.requires.none;
  };
  room = c.requires.room;
}

pub returns-in_err-len-clause-stopped : goal.returns-in_err-len-clause-stopped
returns-in_err-len-clause-stopped g c =
    let p = err_from_is_err_and c.from_residual.result c.from_residual.ensures.1 in
    rw (p.1, p.2)
    (read_fails c.args.source.now (g.R.Read.remaining c.args.reader.now) (g.R.Read.remaining c.loop.reader) (g.R.Read.remaining c.read_some.new.reader)
    (g.W.Write.contents c.args.writer.now) (g.W.Write.contents c.loop.writer) c.loop.self c.loop.invariant.so_far c.in_err-len.ensures.err)

pub returns-in-0-clause-ended : goal.returns-in-0-clause-ended
returns-in-0-clause-ended g c =
    let read = c.in_ok-len.ensures in
    end_goes c.args.source.now (g.R.Read.remaining c.args.reader.now) (g.R.Read.remaining c.loop.reader) (g.R.Read.remaining c.read_some.new.reader)
    (g.W.Write.contents c.args.writer.now) (g.W.Write.contents c.loop.writer) (g.W.Write.contents c.end_line.new.writer)
    c.loop.self c.end_line.new.self c.in_ok-len.len c.read_some.new.buffer c.end_line.result
    c.loop.invariant.so_far read.ok c.in-0.is (read.end c.in-0.is) c.end_line.ensures.other c.end_line.ensures.last

pub returns-in-0-clause-stopped : goal.returns-in-0-clause-stopped
returns-in-0-clause-stopped g c =
    let read = c.in_ok-len.ensures in
    end_stops c.args.source.now (g.R.Read.remaining c.args.reader.now) (g.R.Read.remaining c.loop.reader) (g.R.Read.remaining c.read_some.new.reader)
    (g.W.Write.contents c.args.writer.now) (g.W.Write.contents c.loop.writer) (g.W.Write.contents c.end_line.new.writer)
    c.loop.self c.end_line.new.self c.in_ok-len.len c.read_some.new.buffer c.end_line.result
    c.loop.invariant.so_far read.ok c.in-0.is (read.end c.in-0.is) c.end_line.ensures.other c.end_line.ensures.last

pub returns-in_err-check_piece-in_default-clause-stopped : goal.returns-in_err-check_piece-in_default-clause-stopped
returns-in_err-check_piece-in_default-clause-stopped g c =
    let p = err_from_is_err_and c.from_residual-in_err-check_piece-in_default.result c.from_residual-in_err-check_piece-in_default.ensures.1 in
    let out = c.in_err-check_piece-in_default.ensures.outcome in
    rw (p.1, p.2) (piece_stops c.args.source.now (g.R.Read.remaining c.args.reader.now) (g.R.Read.remaining c.loop.reader) (g.R.Read.remaining c.read_some.new.reader)
    (g.W.Write.contents c.args.writer.now) (g.W.Write.contents c.loop.writer) (g.W.Write.contents c.check_piece.new.writer)
    c.loop.self (take c.in_ok-len.len c.read_some.new.buffer) out.0 c.in_err-check_piece-in_default.field-0.0
    c.loop.invariant.so_far c.in_ok-len.ensures.ok out.1 out.2)

pub loop-preserved : goal.loop-preserved
loop-preserved g c =
    let out = c.in_ok-check_piece-in_default.ensures in
    record {
      so_far = piece_goes c.args.source.now (g.R.Read.remaining c.args.reader.now) (g.R.Read.remaining c.loop.reader) (g.R.Read.remaining c.read_some.new.reader)
          (g.W.Write.contents c.args.writer.now) (g.W.Write.contents c.loop.writer) (g.W.Write.contents c.check_piece.new.writer)
          c.loop.self c.check_piece.new.self (take c.in_ok-len.len c.read_some.new.buffer) out.outcome.0
          c.loop.invariant.so_far c.in_ok-len.ensures.ok out.outcome.1 out.outcome.2 out.written;
      room = omega (arith, c.loop.invariant.room, c.read_some.auto.buffer);
    }

pub returns-clause-stopped : goal.returns-clause-stopped
returns-clause-stopped g c =
    read_fails c.args.source.now (g.R.Read.remaining c.args.reader.now) (g.R.Read.remaining c.loop.reader) (g.R.Read.remaining c.loop.reader)
    (g.W.Write.contents c.args.writer.now) (g.W.Write.contents c.loop.writer) c.loop.self c.loop.invariant.so_far
    (Keeps-refl (g.R.Read.remaining c.loop.reader))
