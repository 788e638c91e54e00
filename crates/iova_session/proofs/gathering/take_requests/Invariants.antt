use Rattle.std.proofs.Common.{◌≡◌, length, ◌-◌, ◌≤◌, ◌<◌, ◌++◌, take, Some, List, ℕ}
use Rattle.iova_session.specs.Sessions.{HasNoBye}
use Rattle.iova_session.specs.Rounds.{IsLines}
use Rattle.iova_session.proofs.gathering.take_requests.Given as goal

abbrev pub invariant-gathering : goal.invariant-gathering
invariant-gathering l = record {
  used : l.used ≤ length l.piece;
  room : length l.run.items < 16;
  within : length l.run.items ≤ l.left;
  none : HasNoBye l.run.items;
  kept : List ℕ;
  next : List ℕ;
  began : l.initial.lines ≡ Some kept;
  now : l.lines ≡ Some next;
  lines : IsLines (kept ++ take l.used l.piece) l.run.items next;
}

abbrev pub decreases-gathering : goal.decreases-gathering
decreases-gathering l = 16 - length l.run.items
