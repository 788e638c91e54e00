use Rattle.std.proofs.Common.{◌≡◌, length, ◌+◌, ◌++◌, List, ℕ, Some}
use Rattle.std.specs.Io.KnownBytes.{Appends, Consumes}
use Rattle.iova_text.specs.Lines.{IsUnended}
use Rattle.iova_session.specs.Pairs.{Pair}
use Rattle.iova_session.specs.Rounds.{AllAnswered}
use Rattle.iova_session.proofs.serve.serve_within.Given as goal

abbrev pub invariant-reading : goal.invariant-reading
invariant-reading g l = record {
  taken : List ℕ;
  ps : List Pair;
  written : List ℕ;
  next : List ℕ;
  consumed : Consumes (g.L.Link.left l.initial.link) (g.L.Link.left l.link) taken;
  pairs : g.D.Desk.pairs l.desk ≡ g.D.Desk.pairs l.initial.desk ++ ps;
  sent : Appends (g.L.Link.sent l.initial.link) (g.L.Link.sent l.link) written;
  now : l.lines ≡ Some next;
  unended : IsUnended next;
  goes : AllAnswered taken ps next written;
  count : length ps + l.left ≡ l.fn.limits.requests;
  reads : g.L.Link.reads l.link ≡ g.L.Link.reads l.initial.link + l.counter;
  failures : g.L.Link.failures l.link ≡ g.L.Link.failures l.initial.link;
  ends : g.L.Link.ends l.link ≡ g.L.Link.ends l.initial.link;
}
