-- What `Ledgers` end as, where a `&mut` to one of them is returned.
use Rattle.std.specs.Prelude.{ℕ, List, Option}
use Rattle.std.specs.Borrow.{LendsIf, Fml, MutBor}
use Rattle.std.specs.Map.{set_value}
use Rattle.iova_clients.specs.Registry.{is_serial}
use Rattle.iova_clients.specs.Accounts.{Account}
use Rattle.iova_clients.specs.contracts.ledgers.Ledgers.{the_row}
use Rattle.iova_clients.specs.contracts.ledger.ClientLedger.{the_row as ledger_row}

-- once the borrow ends, the serial has the last account written through it
abbrev pub LendsLedger : MutBor (List (ℕ × Account)) → ℕ → Option (MutBor Account) → Fml
LendsLedger s id r = LendsIf the_row ledger_row s r (λ w. set_value (is_serial id) s.now w) s.now
