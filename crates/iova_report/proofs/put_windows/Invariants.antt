use Rattle.std.proofs.Common.{◌≡◌, ◌+◌, ◌*◌, ◌≤◌, ◌++◌, take, vec_len, vec_capacity}
use Rattle.std.specs.List.{flat_map}
use Rattle.iova_report.specs.declared.TheConstants.{WINDOW}
use Rattle.iova_report.specs.Report.{window_text}
use Rattle.iova_report.proofs.put_windows.Given as goal

abbrev pub invariant-loop-window : goal.invariant-loop-window
invariant-loop-window l = record {
  items : l.out.items ≡ l.initial.out.items ++ flat_map window_text (take l.window-index l.windows);
  len : vec_len l.out ≡ vec_len l.initial.out + l.window-index * WINDOW;
  room : vec_capacity l.initial.out ≤ vec_capacity l.out;
}
