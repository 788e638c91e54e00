use Rattle.std.proofs.Common.{◌≡◌, ℕ, List}
use Rattle.iova_ask.specs.Answers.{LeavesOwed}
use Rattle.iova_ask.specs.Asking.{Passes, lines_text}
use Rattle.iova_ask.proofs.answers.copy_answers.Given as goal

abbrev pub invariant-copying : goal.invariant-copying
invariant-copying g l = record {
  copied : (ls : List (List ℕ)) × LeavesOwed record { ranges = 0; answers = l.answers } ls l.owed
      × Passes (g.L.Link.left l.initial.link) (g.L.Link.left l.link) (g.W.Write.contents l.initial.writer) (g.W.Write.contents l.writer) l.initial.held l.held (lines_text ls);
  sent : g.L.Link.sent l.link ≡ g.L.Link.sent l.initial.link;
}
