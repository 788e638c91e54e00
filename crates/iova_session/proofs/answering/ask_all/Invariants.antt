use Rattle.std.proofs.Common.{◌≡◌, length, ◌-◌, ◌≤◌, ◌++◌, take, List}
use Rattle.std.specs.Io.KnownBytes.{Appends}
use Rattle.iova_session.specs.Pairs.{Pair, requests_of, answers_of, answers_text}
use Rattle.iova_session.proofs.answering.ask_all.Given as goal

abbrev pub invariant-asking : goal.invariant-asking
invariant-asking g l = record {
  fits : l.asked ≤ length l.run;
  left : g.L.Link.left l.link ≡ g.L.Link.left l.initial.link;
  reads : g.L.Link.reads l.link ≡ g.L.Link.reads l.initial.link;
  ends : g.L.Link.ends l.link ≡ g.L.Link.ends l.initial.link;
  failures : g.L.Link.failures l.link ≡ g.L.Link.failures l.initial.link;
  ps : List Pair;
  pairs : g.D.Desk.pairs l.desk ≡ g.D.Desk.pairs l.initial.desk ++ ps;
  sent : Appends (g.L.Link.sent l.initial.link) (g.L.Link.sent l.link) (answers_text (answers_of ps));
  front : requests_of ps ≡ take l.asked l.run;
}

abbrev pub decreases-asking : goal.decreases-asking
decreases-asking g l = length l.run - l.asked
