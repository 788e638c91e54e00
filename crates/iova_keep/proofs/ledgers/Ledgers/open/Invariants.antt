use Rattle.std.specs.Prelude.{◌≡◌, ◌+◌, ◌*◌}
use Rattle.iova_keep.specs.Views.{seats_in_turn}
use Rattle.iova_keep.proofs.ledgers.Ledgers.open.Given as goal

abbrev pub invariant-loop-at : goal.invariant-loop-at
invariant-loop-at g l =
    (l.opened.items ≡ seats_in_turn l.parts l.workers l.at)
    × (l.counted.parts + l.at ≡ l.seats) × (l.counted.amount ≡ 0)
    × (l.framed.parts + l.at ≡ l.seats) × (l.framed.amount ≡ 0)
    × (l.summed.parts + l.at ≡ l.seats) × (l.summed.amount ≡ 0)
    × (l.ended.parts + l.parts * l.at ≡ l.parts * l.seats) × (l.ended.amount ≡ 0)
