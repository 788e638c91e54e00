use Rattle.std.proofs.Common.{◌≡◌, ◌≤◌, Some, vec_len, vec_capacity}
use Rattle.std.specs.Prelude.{IfSome, slice_get}
use Rattle.iova_files.specs.Sinks.{IsOpened}
use Rattle.iovad.proofs.daemon.open_sinks.Given as goal

-- the first one has had the reset
abbrev pub invariant-loop-at : goal.invariant-loop-at
invariant-loop-at g l =
    let plan = l.fn.run.plan.now in
    (vec_len l.sinks ≡ l.at) × (l.fn.count ≤ vec_capacity l.sinks)
    × IfSome (slice_get l.sinks.items 0) (IsOpened plan.sink (Some plan.domain))
