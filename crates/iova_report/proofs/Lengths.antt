-- The least length of a report, which is its length where each number has at most twenty digits.
use Rattle.std.proofs.Common.{ℕ, ◌+◌, ◌*◌, ◌≤◌, List, [], ◌∷◌, length, arith, length-append}
use Rattle.std.proofs.lemmas.List.{length-replicate}
use Rattle.std.specs.List.{flat_map}
use Rattle.iova_range.specs.Frames.{Frames}
use Rattle.iova_model.specs.State.{State}
use Rattle.iova_report.specs.Report.{number_text, window_text, report_text}

pub length-number_text : (n : ℕ) → 20 ≤ length (number_text n)
unfolding number_text
length-number_text n = simp (length-append, length-replicate) (omega arith)

pub length-windows : (windows : List Frames) → length windows * 51 ≤ length (flat_map window_text windows)
length-windows [] = omega arith
length-windows (w ∷ ws) = simp length-append (omega (arith, length-number_text, length-windows ws))

pub length-report_text : (s : State) → 12 * 31 + length s.windows * 51 ≤ length (report_text s)
unfolding report_text
length-report_text s = simp length-append (omega (arith, length-number_text, length-windows s.windows))
