-- What the four ledgers of a domain are called.
use Rattle.std.specs.Prelude.{ℕ}

-- a ledger: its name, and into how many parts its shares are cut
pub record LedgerName : Type 0 where
  pub name : ℕ
  pub parts : ℕ

-- a domain's four ledgers, and how many workers it has
pub record LedgerNames : Type 0 where
  pub count : LedgerName
  pub frames : LedgerName
  pub sum_lo : LedgerName
  pub good : LedgerName
  pub workers : ℕ

abbrev pub no_name : LedgerName
no_name = record { name = 0; parts = 0 }

abbrev pub no_names : LedgerNames
no_names =
    record { count = no_name; frames = no_name; sum_lo = no_name; good = no_name; workers = 0 }
