use Rattle.std.proofs.Common.{◌≡◌, ◌≢◌, ◌<◌, ◌≤◌, ◌-◌, ℕ, length, slice_index}
use Rattle.iova_clients.specs.Chains.{chain_at, chain_of, range_at, IsEntry}
use Rattle.iova_clients.proofs.chains.entry_of.Given as goal

-- the entry is one of the chain, and no range from its place on begins there
abbrev pub invariant-loop-link : goal.invariant-loop-link
invariant-loop-link l =
    (l.link ≡ slice_index l.links l.entry) × (l.entry < length l.links)
    × ((bound : ℕ) × IsEntry (chain_at l.cells) (length l.cells) l.count l.entry (chain_of (length l.cells - 1) l.lo) bound
    × ((k : ℕ) → bound ≤ k → k < l.count → (range_at l.cells k).lo ≢ l.lo))

abbrev pub decreases-loop-link : goal.decreases-loop-link
decreases-loop-link l = l.link
