use Rattle.std.proofs.Common.{◌≡◌, ◌<◌, ℕ, length, slice_index}
use Rattle.iova_clients.specs.Chains.{chain_at, IsEntry}
use Rattle.iova_clients.proofs.chains.entry_above.Given as goal

-- the entry is one of the chain, behind the place
abbrev pub invariant-loop-link : goal.invariant-loop-link
invariant-loop-link l =
    (l.link ≡ slice_index l.links l.entry) × (l.entry < length l.links)
    × ((bound : ℕ) × IsEntry (chain_at l.cells) (length l.cells) l.count l.entry l.chain bound × (l.place < bound))

abbrev pub decreases-loop-link : goal.decreases-loop-link
decreases-loop-link l = l.link
