use Rattle.std.proofs.Common.{length}
use Rattle.iova_ask.proofs.Answering.{IsAnsweredSoFar}
use Rattle.iova_ask.proofs.answers.answered.Given as goal

abbrev pub invariant-loop-left : goal.invariant-loop-left
invariant-loop-left l = IsAnsweredSoFar l.bytes l.initial.left l.rest l.len l.left

abbrev pub decreases-loop-left : goal.decreases-loop-left
decreases-loop-left l = length l.rest
