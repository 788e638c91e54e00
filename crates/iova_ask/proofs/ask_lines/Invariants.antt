use Rattle.std.proofs.Common.{ℕ, ◌≡◌, ◌+◌, ◌*◌, ◌≤◌, List, [], length}
use Rattle.std.specs.Io.KnownBytes.{Appends, Consumes}
use Rattle.iova_text.specs.Lines.{IsUnended}
use Rattle.iova_ask.specs.Asking.{AreLinesAnd, lines_text}
use Rattle.iova_ask.specs.LineRuns.{Copies}
use Rattle.iova_ask.proofs.ask_lines.Given as goal

abbrev pub invariant-reading : goal.invariant-reading
invariant-reading g l = record {
  asked : (taken : List ℕ) × (ls : List (List ℕ)) × Consumes (g.R.Read.remaining l.initial.reader) (g.R.Read.remaining l.reader) taken × AreLinesAnd taken l.input ls
      × Appends (g.L.Link.sent l.initial.link) (g.L.Link.sent l.link) (lines_text ls) × (l.sent ≡ length ls);
  unended : IsUnended l.input;
  copied : Copies l.sent (g.L.Link.left l.initial.link) (g.L.Link.left l.link) (g.W.Write.contents l.initial.writer) (g.W.Write.contents l.writer) [] l.answers;
  bound : l.sent + length l.input ≤ 4096 * l.counter;
}
