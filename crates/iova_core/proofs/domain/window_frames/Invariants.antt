use Rattle.std.proofs.Common.{◌≡◌, take, sum_by}
use Rattle.iova_core.proofs.domain.window_frames.Given as goal

-- the frames of the windows so far
abbrev pub invariant-loop-window : goal.invariant-loop-window
invariant-loop-window l = l.frames ≡ sum_by (λ r. r.len) (take l.window-index l.windows)
