use Rattle.std.proofs.Common.{ap, arith}
use Rattle.std.proofs.lemmas.List.Sums.{sum_by_more, sum_by_more_le}
use Rattle.iova_range.specs.Frames.{Frames}
use Rattle.iova_core.proofs.domain.window_frames.Goals as goal

pub overflow_add-frames : goal.overflow_add-frames
overflow_add-frames c =
    let le = sum_by_more_le (λ (r : Frames). r.len) c.args.windows.now c.loop-window.window-index c.window-item.result c.loop-window-test.true in
    let same = ap (λ (r : Frames). r.len) c.window-item.is in
    omega (arith, le, same, c.len-frames.ensures.is, c.loop-window.invariant, c.requires)

pub loop-window-preserved : goal.loop-window-preserved
loop-window-preserved c =
    let more = sum_by_more (λ (r : Frames). r.len) c.args.windows.now c.loop-window.window-index c.window-item.result c.loop-window-test.true in
    let same = ap (λ (r : Frames). r.len) c.window-item.is in
    omega (arith, more, same, c.len-frames.ensures.is, c.loop-window.invariant)
