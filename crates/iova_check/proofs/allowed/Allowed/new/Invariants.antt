use Rattle.std.proofs.Common.{take}
use Rattle.iova_check.specs.Allowing.{Allows}
use Rattle.iova_check.proofs.allowed.Allowed.new.Given as goal

-- the windows so far have been taken out
abbrev pub invariant-loop-window : goal.invariant-loop-window
invariant-loop-window l = Allows l.allowed (record { first = l.first; last = l.last; windows = take l.window-index l.windows })
