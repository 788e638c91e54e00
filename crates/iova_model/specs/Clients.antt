-- The clients, each with its ledger.
use Rattle.std.specs.Prelude.{ℕ, ◌==◌, Bool, true, false, nat_lt, List, [], ◌∷◌, ◌++◌, length, filter, Option, Some, None, if◌then◌else◌, find, option_and_then, sum_by}
use Rattle.iova_range.specs.Frames.{Frames}
use Rattle.iova_model.specs.declared.totals.Totals.{Totals}

-- its serial, the worker that opened it, whether it is first sought a place below 4 GiB, whether it
-- is closing, and its holdings, rising by first frame
pub record Client : Type 0 where
  pub id : ℕ
  pub worker : ℕ
  pub sac : Bool
  pub closing : Bool
  pub holdings : List Frames

abbrev pub new_client : ℕ → ℕ → Bool → Client
new_client id worker sac =
    record { id = id; worker = worker; sac = sac; closing = false; holdings = [] }

abbrev pub has_id : ℕ → Client → Bool
has_id id c = c.id == id

-- the client with this serial
abbrev pub client_with : ℕ → List Client → Option Client
client_with id clients = find (has_id id) clients

abbrev pub if_owned : ℕ → Client → Option Client
if_owned worker c = if c.worker == worker then Some c else None

-- the client with this serial, where it is the worker's
abbrev pub client_of : ℕ → ℕ → List Client → Option Client
client_of worker id clients = option_and_then (if_owned worker) (client_with id clients)

-- a client of the worker, with a serial above this one
abbrev pub is_newer : ℕ → ℕ → Client → Bool
is_newer worker than c = if c.worker == worker then nat_lt than c.id else false

-- the first client of the worker with a serial above this one
abbrev pub newer_client : ℕ → ℕ → List Client → Option Client
newer_client worker than clients = find (is_newer worker than) clients

-- the clients, with a change to the one with this serial
abbrev pub change_client : ℕ → (Client → Client) → List Client → List Client
change_client id change [] = []
change_client id change
    (c ∷ cs) = if has_id id c then change c ∷ cs else c ∷ change_client id change cs

-- the clients without the one with this serial
abbrev pub without_client : ℕ → List Client → List Client
without_client id [] = []
without_client id (c ∷ cs) = if has_id id c then cs else c ∷ without_client id cs

-- a range in its place in a list that rises by first frames
abbrev pub insert_rising : Frames → List Frames → List Frames
insert_rising r [] = r ∷ []
insert_rising r (x ∷ xs) = if nat_lt r.lo x.lo then r ∷ x ∷ xs else x ∷ insert_rising r xs

abbrev pub begins_at : ℕ → Frames → Bool
begins_at lo r = r.lo == lo

-- the list without the range that begins there
abbrev pub remove_at : ℕ → List Frames → List Frames
remove_at lo [] = []
remove_at lo (x ∷ xs) = if begins_at lo x then xs else x ∷ remove_at lo xs

abbrev pub with_holding : Frames → Client → Client
with_holding r c = record c { holdings = insert_rising r c.holdings }

abbrev pub without_holding : ℕ → Client → Client
without_holding lo c = record c { holdings = remove_at lo c.holdings }

abbrev pub with_mark : Client → Client
with_mark c = record c { closing = true }

-- count, frames and sum of the first frames of some holdings
abbrev pub totals_of : List Frames → Totals
totals_of rs =
    record { count = length rs; frames = sum_by (λ r. r.len) rs; sum_lo = sum_by (λ r. r.lo) rs }

-- the totals of no holdings
abbrev pub no_totals : Totals
no_totals = totals_of []

-- what a client holds, nothing where there is none
abbrev pub holdings_in : Option Client → List Frames
holdings_in None = []
holdings_in (Some c) = c.holdings

abbrev pub all_holdings : List Client → List Frames
all_holdings [] = []
all_holdings (c ∷ cs) = c.holdings ++ all_holdings cs

-- over all holdings of all clients
abbrev pub totals : List Client → Totals
totals clients = totals_of (all_holdings clients)

-- a worker's share: the same over its own clients
abbrev pub share_of : ℕ → List Client → Totals
share_of worker clients = totals_of (all_holdings (filter (λ c. c.worker == worker) clients))
