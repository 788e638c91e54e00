use Rattle.std.proofs.Common.{false, arith}
use Rattle.std.proofs.lemmas.Result.{on_err_weaker}
use Rattle.iova_clients.proofs.holdings.Holdings.reserve.Goals as goal

pub grow-requires-clause-full : goal.grow-requires-clause-full
grow-requires-clause-full c = c.has_room.ensures.no c.if-has_room.false

pub returns-clause-grows : goal.returns-clause-grows
returns-clause-grows c = let none = c.has_room.ensures.no c.if-has_room.false in omega (arith, none)

pub returns-clause-starved : goal.returns-clause-starved
returns-clause-starved c = on_err_weaker c.grow.result (λ _. c.has_room.ensures.no c.if-has_room.false) c.grow.ensures.unchanged
