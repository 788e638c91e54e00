use Rattle.std.proofs.Common.{ℕ, ◌≡◌, List, ◌++◌, length}
use Rattle.std.specs.Io.KnownBytes.{Appends}
use Rattle.iova_trace.specs.ReplayState.{Goes}
use Rattle.iova_trace.proofs.replay.ReplayState.replay_piece.Given as goal

-- the bytes before the rest have been taken
abbrev pub invariant-loop-end : goal.invariant-loop-end
invariant-loop-end g l = (first : List ℕ) × (more : List ℕ)
    × (l.piece ≡ first ++ l.rest)
    × Appends (g.W.Write.contents l.initial.writer) (g.W.Write.contents l.writer) more
    × Goes l.initial.self (g.L.Log.contents l.initial.log) first more l.self (g.L.Log.contents l.log)

-- the bytes that are left
abbrev pub decreases-loop-end : goal.decreases-loop-end
decreases-loop-end g l = length l.rest
