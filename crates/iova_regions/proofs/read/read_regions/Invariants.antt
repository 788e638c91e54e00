use Rattle.std.proofs.Common.{◌+◌, ◌≤◌, length}
use Rattle.iova_regions.proofs.Taking.{HasRead}
use Rattle.iova_regions.proofs.read.read_regions.Given as goal

-- the regions of the lines so far are taken, and no more lines than bytes were read
abbrev pub invariant-loop-rest : goal.invariant-loop-rest
invariant-loop-rest l = record {
  read : HasRead l.which l.bounds l.bytes l.rest l.number l.initial.windows l.windows;
  few : l.number + length l.rest ≤ length l.bytes;
}

abbrev pub decreases-loop-rest : goal.decreases-loop-rest
decreases-loop-rest l = length l.rest
