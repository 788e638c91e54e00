use Rattle.std.proofs.Common.{[], None}
use Rattle.iova_session.proofs.run.serve_at.Given as goal

abbrev pub ghosts-serve_with : goal.ghosts-serve_with
ghosts-serve_with g a = record {
  identity = g.K.Keep.identity a.access.keeper.now;
  domain = g.K.Keep.domain a.access.keeper.now;
  session = record { number = (g.K.Keep.identity a.access.keeper.now).number; client = None; listed = 0; pairs = [] };
  seat = a.access.seat.now;
  calls = g.D.Sink.calls a.access.sink.now;
  keeper_name = a.access.keeper.ghost_name;
  seat_name = a.access.seat.ghost_name;
  sink_name = a.access.sink.ghost_name;
}
