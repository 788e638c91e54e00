use Rattle.std.proofs.Common.{◌≡◌, ◌++◌, take, drop}
use Rattle.iova_session.specs.Desks.{asks_in}
use Rattle.iova_session.proofs.together.asks_of.Given as goal

abbrev pub invariant-loop-i : goal.invariant-loop-i
invariant-loop-i l = take l.i l.asks ++ asks_in (drop l.i l.requests) ≡ asks_in l.requests
