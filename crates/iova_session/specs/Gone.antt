-- The result of a round of tries where nobody else holds a range of the domain, and the sink
-- answers well.
use Rattle.std.specs.Prelude.{ℕ, ◌≡◌, ◌≢◌, ◌+◌, ◌≤◌, List, [], length, None, Contains}
use Rattle.std.specs.List.{AllByRecursion}
use Rattle.iova_range.specs.declared.limits.TheConstants.{MAX_HOLDINGS, MAX_SERIAL}
use Rattle.iova_model.specs.declared.totals.Totals.{Totals}
use Rattle.iova_model.specs.Clients.{Client, client_of, all_holdings, totals}
use Rattle.iova_model.specs.State.{State}
use Rattle.iova_sink.specs.Calls.{Call, failed_calls}
use Rattle.iova_keep.specs.Views.{SeatState}

-- a client that holds a range is this worker's, and one of these
abbrev pub IsOneOf : ℕ → List ℕ → Client → Type 0
IsOneOf worker ids c = c.holdings ≢ [] → (c.worker ≡ worker) × Contains ids c.id

-- shares of at least so much
pub record HasAtLeast (held some : Totals) : Type 0 where
  pub count : some.count ≤ held.count
  pub frames : some.frames ≤ held.frames
  pub sum_lo : some.sum_lo ≤ held.sum_lo

-- Whoever holds a range is a client of the seat's worker that waits; the seat has the shares of all
-- these ranges, without which an end waits for them; and no flush is in flight, since a ring is
-- emptied only once all flushes before have ended.
pub record IsAlone (seat : SeatState) (waiting : List ℕ) (s : State) : Type 0 where
  pub holders : AllByRecursion (IsOneOf seat.worker waiting) s.clients
  pub shares : HasAtLeast seat.held (totals s.clients)
  pub quiet : s.flushes.in_flight ≡ []

-- There are numbers for the flushes that full rings begin: a range is queued after each, so that
-- they are at most as many as the ranges that are held.
abbrev pub HasFlushNumbers : State → Type 0
HasFlushNumbers s = s.flushes.start + length (all_holdings s.clients) ≤ MAX_SERIAL

-- There are these numbers, and room for the ranges of a client, without which a round of tries is
-- over before it begins.
pub record HasNumbers (space : ℕ) (s : State) : Type 0 where
  pub room : MAX_HOLDINGS ≤ space
  pub flushes : HasFlushNumbers s

-- a post where a client waits has room for its ranges, which its session took
abbrev pub HasRoom : List ℕ → ℕ → Type 0
HasRoom waiting room = waiting ≢ [] → MAX_HOLDINGS ≤ room

-- No call of the sink failed in between: calls are only appended, and so each of those that were
-- went well.
abbrev pub NoneFailed : List Call → List Call → Type 0
NoneFailed before now = failed_calls now ≡ failed_calls before

-- nobody holds a range
abbrev pub NobodyHolds : State → Type 0
NobodyHolds s = all_holdings s.clients ≡ []

-- none waits any more, nobody holds a range, and the clients that waited are gone
pub record EndsAll (worker : ℕ) (waiting kept : List ℕ) (s : State) : Type 0 where
  pub none : kept ≡ []
  pub nobody : NobodyHolds s
  pub gone : AllByRecursion (λ id. client_of worker id s.clients ≡ None) waiting

-- Where nobody else holds a range, and the sink answers each call well, one round ends all that
-- wait.
abbrev pub EndsWhereGood : ℕ → List ℕ → List ℕ → SeatState → List Call → List Call → State → State
    → Type 0
EndsWhereGood room waiting kept seat before now s t =
    IsAlone seat waiting s → HasNumbers room s → NoneFailed before now
    → EndsAll seat.worker waiting kept t
