use Rattle.std.proofs.Common.{◌∙◌, [], ap, arith, length, take, ◌≤◌, sym, length-take, subst, ℕ, List}
use Rattle.std.specs.Io.KnownBytes.{Consumes}
use Rattle.std.proofs.lemmas.Result.{err_from_is_err_and}
use Rattle.std.proofs.KnownBytes.{Appends-nil, Consumes-nil, Keeps-refl}
use Rattle.iova_trace.specs.declared.fault.ReplayFault.TheVariants.{NoMemory}
use Rattle.iova_trace.proofs.Streams.{nothing_told, read_fails, read_ends, piece_stops, piece_goes, err_is, read_back}
use Rattle.iova_trace.proofs.replay.replay_lines.Goals as goal

pub returns-in_err-input : goal.returns-in_err-input
returns-in_err-input g c =
    let p = err_from_is_err_and c.from_residual.result c.from_residual.ensures.1 in
    rw (p.1, p.2) (nothing_told (g.R.Read.remaining c.args.reader.now) (g.W.Write.contents c.args.writer.now) (g.L.Log.contents c.args.log.now))

pub returns-in_err-state : goal.returns-in_err-state
returns-in_err-state g c =
    let p = err_from_is_err_and c.from_residual-in_err-state.result c.from_residual-in_err-state.ensures.1 in
    rw (p.1, p.2, err_is c.in_err-state.field-0.0 NoMemory c.in_err-state.ensures.err)
    (nothing_told (g.R.Read.remaining c.args.reader.now) (g.W.Write.contents c.args.writer.now) (g.L.Log.contents c.args.log.now))

pub loop-init : goal.loop-init
loop-init g c = record {
  so_far = record {
    taken = [];
    written = [];
    takes = Consumes-nil (g.R.Read.remaining c.args.reader.now);
    writes = Appends-nil (g.W.Write.contents c.args.writer.now);
    stands = c.in_ok-state.ensures.ok (g.L.Log.contents c.args.log.now);
    none = c.in_ok-state.ensures.none;
  };
  room = omega (arith, c.in_ok-input.ensures.len, c.in_ok-input.input.ok.0);
}

pub returns-in_err-len : goal.returns-in_err-len
returns-in_err-len g c =
    let p = err_from_is_err_and c.from_residual-in_err-len.result c.from_residual-in_err-len.ensures.1 in
    rw (p.1, p.2)
    (read_fails (g.R.Read.remaining c.args.reader.now) (g.R.Read.remaining c.loop.reader) (g.R.Read.remaining c.read_some.new.reader)
    (g.W.Write.contents c.args.writer.now) (g.W.Write.contents c.loop.writer) (g.L.Log.contents c.args.log.now) (g.L.Log.contents c.loop.log) c.loop.state c.loop.invariant.so_far c.loop.state.unended c.in_err-len.ensures.err)

pub returns-in-0 : goal.returns-in-0
returns-in-0 g c =
    let read = c.in_ok-len.ensures in
    read_ends (g.R.Read.remaining c.args.reader.now) (g.R.Read.remaining c.loop.reader) (g.R.Read.remaining c.read_some.new.reader)
    (g.W.Write.contents c.args.writer.now) (g.W.Write.contents c.loop.writer) (g.L.Log.contents c.args.log.now) (g.L.Log.contents c.loop.log) c.loop.state c.in_ok-len.len c.read_some.new.buffer c.finish.result
    c.loop.invariant.so_far read.ok c.in-0.is (read.end c.in-0.is) c.finish.ensures

pub slice_bounds-replay_piece-end : goal.slice_bounds-replay_piece-end
slice_bounds-replay_piece-end g c =
    let back = read_back c.loop.input.len c.read_some.new.buffer c.loop.input.items c.deref_mut.result.now c.read_some.auto.buffer c.deref_mut.ensures.value c.loop.input.ok.0 in
    let is = c.deref.ensures.value ∙ back in
    let bound : c.in_ok-len.len ≤ length c.read_some.new.buffer = c.in_ok-len.ensures.bound in
    rw is (omega (arith, length-take c.in_ok-len.len c.read_some.new.buffer, bound))

pub returns-in_err-replay_piece-in_default : goal.returns-in_err-replay_piece-in_default
returns-in_err-replay_piece-in_default g c =
    let p = err_from_is_err_and c.from_residual-in_err-replay_piece-in_default.result c.from_residual-in_err-replay_piece-in_default.ensures.1 in
    let back = read_back c.loop.input.len c.read_some.new.buffer c.loop.input.items c.deref_mut.result.now c.read_some.auto.buffer c.deref_mut.ensures.value c.loop.input.ok.0 in
    let is = sym (c.deref.ensures.value ∙ back) in
    let P : List ℕ → Type 0 = λ x. Consumes (g.R.Read.remaining c.loop.reader) (g.R.Read.remaining c.read_some.new.reader) (take c.in_ok-len.len x) in
    let out = c.in_err-replay_piece-in_default.ensures.outcome in
    rw (p.1, p.2) (piece_stops (g.R.Read.remaining c.args.reader.now) (g.R.Read.remaining c.loop.reader) (g.R.Read.remaining c.read_some.new.reader)
    (g.W.Write.contents c.args.writer.now) (g.W.Write.contents c.loop.writer) (g.W.Write.contents c.replay_piece.new.writer) (g.L.Log.contents c.args.log.now) (g.L.Log.contents c.loop.log) (g.L.Log.contents c.replay_piece.new.log)
    c.loop.state (take c.in_ok-len.len c.deref.result.now) out.0 c.in_err-replay_piece-in_default.field-0.0
    c.loop.invariant.so_far (subst P is c.in_ok-len.ensures.ok) out.1 out.2)

pub loop-preserved : goal.loop-preserved
loop-preserved g c =
    let back = read_back c.loop.input.len c.read_some.new.buffer c.loop.input.items c.deref_mut.result.now c.read_some.auto.buffer c.deref_mut.ensures.value c.loop.input.ok.0 in
    let is = sym (c.deref.ensures.value ∙ back) in
    let P : List ℕ → Type 0 = λ x. Consumes (g.R.Read.remaining c.loop.reader) (g.R.Read.remaining c.read_some.new.reader) (take c.in_ok-len.len x) in
    let out = c.in_ok-replay_piece-in_default.ensures in
    record {
      so_far = piece_goes (g.R.Read.remaining c.args.reader.now) (g.R.Read.remaining c.loop.reader) (g.R.Read.remaining c.read_some.new.reader)
          (g.W.Write.contents c.args.writer.now) (g.W.Write.contents c.loop.writer) (g.W.Write.contents c.replay_piece.new.writer) (g.L.Log.contents c.args.log.now) (g.L.Log.contents c.loop.log) (g.L.Log.contents c.replay_piece.new.log)
          c.loop.state c.replay_piece.new.self (take c.in_ok-len.len c.deref.result.now) out.outcome.0
          c.loop.invariant.so_far (subst P is c.in_ok-len.ensures.ok) out.outcome.1 out.outcome.2 out.written;
      room = rw back (omega (arith, c.loop.invariant.room, c.read_some.auto.buffer, ap length c.deref_mut.ensures.value));
    }

pub returns : goal.returns
returns g c =
    read_fails (g.R.Read.remaining c.args.reader.now) (g.R.Read.remaining c.loop.reader) (g.R.Read.remaining c.loop.reader)
    (g.W.Write.contents c.args.writer.now) (g.W.Write.contents c.loop.writer) (g.L.Log.contents c.args.log.now) (g.L.Log.contents c.loop.log) c.loop.state c.loop.invariant.so_far c.loop.state.unended
    (Keeps-refl (g.R.Read.remaining c.loop.reader))
