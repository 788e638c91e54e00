use Rattle.std.proofs.Common.{◌≡◌, ◌+◌, ◌≤◌, length}
use Rattle.iova_ask.specs.Asking.{AreLinesAnd, lines_text}
use Rattle.iova_ask.specs.LineRuns.{CopiesMore}
use Rattle.std.specs.Io.KnownBytes.{Appends}
use Rattle.std.specs.Prelude.{List, ℕ}
use Rattle.iova_ask.proofs.ask_whole.Given as goal

abbrev pub invariant-asking : goal.invariant-asking
invariant-asking g l = record {
  copied : CopiesMore l.initial.sent l.sent (g.L.Link.left l.initial.link) (g.L.Link.left l.link) (g.W.Write.contents l.initial.writer) (g.W.Write.contents l.writer) l.initial.answers l.answers;
  asked : (ls : List (List ℕ)) × AreLinesAnd l.initial.input l.input ls × Appends (g.L.Link.sent l.initial.link) (g.L.Link.sent l.link) (lines_text ls) × (l.sent ≡ l.initial.sent + length ls);
  bound : l.sent + length l.input ≤ l.initial.sent + length l.initial.input;
}

abbrev pub decreases-asking : goal.decreases-asking
decreases-asking g l = length l.input
