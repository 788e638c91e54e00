use Rattle.std.proofs.Common.{ℕ, ◌≡◌, ◌+◌, ◌<◌, ◌≤◌, ◌^◌, Some, length}
use Rattle.iova_check.specs.Trace.{decimal_from}
use Rattle.iova_check.proofs.trace.decimal_from.Given as goal

-- the digits before the rest make this value, which is as small as that many digits are
abbrev pub invariant-loop-first : goal.invariant-loop-first
invariant-loop-first l = (count : ℕ) × (count + length l.rest ≤ 19) × (l.value < 10 ^ count)
    × (decimal_from (Some l.value) l.rest ≡ decimal_from (Some 0) l.digits)

abbrev pub decreases-loop-first : goal.decreases-loop-first
decreases-loop-first l = length l.rest
