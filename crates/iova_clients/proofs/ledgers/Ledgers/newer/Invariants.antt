use Rattle.std.proofs.Common.{◌≡◌, find}
use Rattle.slab.specs.Slab.{get as at_key}
use Rattle.iova_clients.specs.Accounts.{is_newer_entry, listed_accounts}
use Rattle.iova_clients.proofs.ledgers.Ledgers.newer.Given as goal

-- what is sought is among the ledgers that are left
abbrev pub invariant-loop-id : goal.invariant-loop-id
invariant-loop-id l =
    (goal.iterator-loop-id).can_next l.id-iterator ×
    (goal.iterator-loop-id).is_finite l.id-iterator ×
    (find (λ e. is_newer_entry l.worker l.than e) (listed_accounts (at_key l.self-inside.slab) l.id-iterator)
    ≡ find (λ e. is_newer_entry l.worker l.than e) (listed_accounts (at_key l.self-inside.slab) l.self-inside.keys.entries))
