-- The accounts of the clients, by rising serial, and where they are stored.
use Rattle.std.specs.Prelude.{◌≡◌, ◌≢◌, ◌+◌, ◌-◌, ℕ, Bool, List, [], ◌∷◌, ◌++◌, map, Option, None, Some, IsSome}
use Rattle.std.specs.Map.{lookup}
use Rattle.iova_range.specs.Frames.{Frames}
use Rattle.iova_model.specs.Clients.{Client, insert_rising, is_newer, remove_at}
use Rattle.iova_clients.specs.Registry.{is_serial}

-- What `Holdings` are seen as: ranges that rise by first frame, how many more fit without memory,
-- and whether their client is closing
pub record HoldingsState : Type 0 where
  pub ranges : List Frames
  pub spare : ℕ
  pub closing : Bool

-- What a `ClientLedger` is seen as: a client but for its serial, and how many more holdings fit
-- without memory
pub record Account : Type 0 where
  pub worker : ℕ
  pub sac : Bool
  pub closing : Bool
  pub holdings : List Frames
  pub spare : ℕ

-- the account with a holding more, for which there is room, and without the one that begins there
abbrev pub with_held : Frames → Account → Account
with_held r a = record a { holdings = insert_rising r a.holdings; spare = a.spare - 1 }

abbrev pub without_held : ℕ → Account → Account
without_held lo a = record a { holdings = remove_at lo a.holdings; spare = a.spare + 1 }

-- a serial with the account that stands there, if one does
abbrev pub entry_of : ℕ → Option Account → List (ℕ × Account)
entry_of serial None = []
entry_of serial (Some account) = (serial, account) ∷ []

-- the accounts that these serials have at their keys
abbrev pub listed_accounts : (ℕ → Option Account) → List (ℕ × ℕ) → List (ℕ × Account)
listed_accounts at [] = []
listed_accounts at (e ∷ es) = entry_of e.0 (at e.1) ++ listed_accounts at es

-- no serial has this key
abbrev pub IsApart : ℕ → List (ℕ × ℕ) → Type 0
IsApart key [] = Unit {0}
IsApart key (e ∷ es) = (e.1 ≢ key) × IsApart key es

-- each serial has an account at its key, and no two have one key
abbrev pub AreKeyed : (ℕ → Option Account) → List (ℕ × ℕ) → Type 0
AreKeyed at [] = Unit {0}
AreKeyed at (e ∷ es) = IsSome (at e.1) × IsApart e.1 es × AreKeyed at es

-- where a serial has a key, it is this one, and where it has none, no account is at this one
abbrev pub IsKeyFor : (ℕ → Option Account) → ℕ → Option ℕ → Type 0
IsKeyFor at key None = at key ≡ None
IsKeyFor at key (Some own) = own ≡ key

-- the serial that is remembered is sought at the key beside it
abbrev pub IsRemembered : (ℕ → Option Account) → List (ℕ × ℕ) → ℕ × ℕ → Type 0
IsRemembered at keys last = IsKeyFor at last.1 (lookup (is_serial last.0) keys)

-- what is remembered once this serial was sought, and had this key or none
abbrev pub last_after : ℕ → Option ℕ → ℕ × ℕ → ℕ × ℕ
last_after serial None last = last
last_after serial (Some key) last = (serial, key)

pub record AreLedgers (at : ℕ → Option Account) (keys : List (ℕ × ℕ)) (last : ℕ × ℕ) : Type 0 where
  pub keyed : AreKeyed at keys
  pub remembered : IsRemembered at keys last

-- the client of this serial and account
abbrev pub client_at : ℕ × Account → Client
client_at e =
    record {
      id = e.0;
      worker = e.1.worker;
      sac = e.1.sac;
      closing = e.1.closing;
      holdings = e.1.holdings;
    }

abbrev pub clients_at : List (ℕ × Account) → List Client
clients_at es = map client_at es

-- the client of this serial and account is the worker's, and its serial is above this one
abbrev pub is_newer_entry : ℕ → ℕ → ℕ × Account → Bool
is_newer_entry worker than e = is_newer worker than (client_at e)

-- by its serial, how many more holdings each client can be given without memory
abbrev pub spares_at : List (ℕ × Account) → List (ℕ × ℕ)
spares_at es = map (λ e. (e.0, e.1.spare)) es
