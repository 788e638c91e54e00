use Rattle.std.proofs.Common.{◌≡◌, ◌+◌, ◌≤◌, vec_len, vec_capacity}
use Rattle.std.specs.Vec.Iter.{into_iter_len}
use Rattle.iova_files.proofs.sharing.share_all.Given as goal

abbrev pub invariant-loop-sink : goal.invariant-loop-sink
invariant-loop-sink g l =
    (vec_len l.held + into_iter_len l.sink-iterator ≡ vec_len l.fn.sinks)
    × (vec_len l.fn.sinks ≤ vec_capacity l.held)
