use Rattle.std.proofs.Common.{◌≡◌, IfSome, IfNone, ℕ, ◌<◌, ◌≤◌, length, slice_index_or}
use Rattle.iova_links.specs.declared.loads.Load.{Load}
use Rattle.iova_links.proofs.loads.fewest.Given as goal

-- none of those so far has a free post, or the best one has and serves no more than any of those
abbrev pub invariant-loop-at : goal.invariant-loop-at
invariant-loop-at l =
    (IfNone l.best ((k : ℕ) (d : Load) → k < l.at → (slice_index_or l.loads k d).free ≡ 0))
    × (IfSome l.best (λ b. b.0 < length l.loads))
    × (IfSome l.best (λ b. (d : Load) → 1 ≤ (slice_index_or l.loads b.0 d).free))
    × (IfSome l.best (λ b. (d : Load) → (slice_index_or l.loads b.0 d).sessions ≡ b.1))
    × (IfSome l.best (λ b. (k : ℕ) (d : Load) → k < l.at → 1 ≤ (slice_index_or l.loads k d).free
    → b.1 ≤ (slice_index_or l.loads k d).sessions))
