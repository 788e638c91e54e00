use Rattle.std.proofs.Common.{◌≡◌, take}
use Rattle.iova_control.specs.Rows.{frames_in}
use Rattle.iova_control.proofs.sessions.frames_of.Given as goal

abbrev pub invariant-loop-range : goal.invariant-loop-range
invariant-loop-range l = l.frames ≡ frames_in (take l.range-index l.ranges)
