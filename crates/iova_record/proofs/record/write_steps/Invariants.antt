use Rattle.std.proofs.Common.{◌≡◌, ◌++◌, take}
use Rattle.iova_line.specs.Recorded.{steps_text, AreSteps}
use Rattle.iova_record.proofs.record.write_steps.Given as goal

abbrev pub invariant-loop-pair : goal.invariant-loop-pair
invariant-loop-pair l = (l.out.items ≡ l.initial.out.items ++ steps_text (take l.pair-index l.pairs)) × AreSteps (take l.pair-index l.pairs)
