use Rattle.std.proofs.Common.{◌≡◌, [], vec_len}
use Rattle.std.specs.List.{AllByRecursion}
use Rattle.iova_files.proofs.sharing.sinks_in_turn.Given as goal

abbrev pub invariant-loop-at : goal.invariant-loop-at
invariant-loop-at g l = (vec_len l.sinks ≡ l.at) × AllByRecursion (λ s. s.calls ≡ []) l.sinks.items
