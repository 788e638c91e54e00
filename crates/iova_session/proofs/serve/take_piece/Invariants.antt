use Rattle.std.proofs.Common.{◌≡◌, length, ◌+◌, ◌≤◌, ◌++◌, take, List, ℕ, Some}
use Rattle.std.specs.Io.KnownBytes.{Appends}
use Rattle.iova_session.specs.Pairs.{Pair}
use Rattle.iova_session.specs.Rounds.{AllAnswered}
use Rattle.iova_session.proofs.serve.take_piece.Given as goal

abbrev pub invariant-rounds : goal.invariant-rounds
invariant-rounds g l = record {
  fits : l.at ≤ length l.piece;
  left : g.L.Link.left l.link ≡ g.L.Link.left l.initial.link;
  reads : g.L.Link.reads l.link ≡ g.L.Link.reads l.initial.link;
  ends : g.L.Link.ends l.link ≡ g.L.Link.ends l.initial.link;
  failures : g.L.Link.failures l.link ≡ g.L.Link.failures l.initial.link;
  kept : List ℕ;
  ps : List Pair;
  written : List ℕ;
  next : List ℕ;
  began : l.initial.lines ≡ Some kept;
  now : l.lines ≡ Some next;
  pairs : g.D.Desk.pairs l.desk ≡ g.D.Desk.pairs l.initial.desk ++ ps;
  sent : Appends (g.L.Link.sent l.initial.link) (g.L.Link.sent l.link) written;
  goes : AllAnswered (kept ++ take l.at l.piece) ps next written;
  count : length ps + l.left ≡ l.initial.left;
}

abbrev pub decreases-rounds : goal.decreases-rounds
decreases-rounds g l = l.left
