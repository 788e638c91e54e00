-- What contracts see of a book and of a lock round it.
use Rattle.std.specs.Prelude.{ℕ, zero, suc, ◌≡◌, ◌≤◌, ◌+◌, ◌==◌, ◌&&◌, sum_by, Bool, true, false, List, ◌++◌, length, Option, Some, None, option_and_then, option_map}
use Rattle.std.specs.List.{list_any}
use Rattle.iova_range.specs.declared.limits.TheConstants.{MAX_HOLDINGS}
use Rattle.iova_range.specs.Bounds.{Extent}
use Rattle.iova_range.specs.Frames.{Frames}
use Rattle.iova_model.specs.declared.step.Step.{Step}
use Rattle.iova_model.specs.declared.step.Step.TheVariants as step
use Rattle.iova_model.specs.declared.totals.Totals.{Totals}
use Rattle.iova_model.specs.Clients.{Client, client_with, newer_client, totals, no_totals, holdings_in}
use Rattle.iova_model.specs.State.{State, new_domain}
use Rattle.iova_model.specs.Valid.{Rises}
use Rattle.iova_clients.specs.Orders.{AppendsInAnyOrder}
use Rattle.iova_keep.specs.Views.{SeatState, TallyState, IsKept}
use Rattle.iova_keep.specs.Events.{CallEvent}
use Rattle.iova_keep.specs.StepLogs.{StepLog, IsRecorded}
use Rattle.iova_keep.specs.Stored.{DoesAndStores}

-- A book: its domain's number, whether it is strict, its domain, and its log; and the totals of its
-- four ledgers, which are the sums of the shares that all seats and tallies keep.
pub record BookState : Type 0 where
  pub number : ℕ
  pub strict : Bool
  pub state : State
  pub log : Option StepLog
  pub shares : Totals
  pub ended : ℕ

-- a lock round a book: the domain's number, whether it is strict, how many workers it has, and how
-- many seats there are; and the book that it was made over
pub record SharedState : Type 0 where
  pub number : ℕ
  pub strict : Bool
  pub workers : ℕ
  pub seats : ℕ
  pub begun : BookState

-- what a call does to the domain of the book and stores in its log, of what is allowed of it
abbrev pub DoesInBook : (List CallEvent → Type 0) → BookState → BookState → Type 0
DoesInBook Allowed old new = DoesAndStores Allowed old.log new.log old.state new.state

-- how many steps are recorded
abbrev pub steps_in : Option StepLog → ℕ
steps_in None = 0
steps_in (Some log) = length log.pairs

-- What is read of the first client of a worker behind a serial: its own serial, and its ranges,
-- which come behind those of before.
pub record ReadsNewer (worker than : ℕ) (s : State) (before after : List Frames)
    (id : Option ℕ) : Type 0 where
  pub serial : id ≡ option_map (λ c. c.id) (newer_client worker than s.clients)
  pub ranges : after ≡ before ++ holdings_in (option_and_then (λ i. client_with i s.clients) id)

-- What is read of the first client of a worker behind a serial, its ranges in any order.
pub record AppendsNewer (worker than : ℕ) (s : State) (before after : List Frames)
    (id : Option ℕ) : Type 0 where
  pub serial : id ≡ option_map (λ c. c.id) (newer_client worker than s.clients)
  pub ranges : AppendsInAnyOrder
      (holdings_in (option_and_then (λ i. client_with i s.clients) id)) before after

-- what a client holds comes behind a list, in any order
pub record AppendsHeld (before after : List Frames) : Type 0 where
  pub held : List Frames
  pub few : length held ≤ MAX_HOLDINGS
  pub rising : Rises 0 held
  pub appends : AppendsInAnyOrder held before after

-- a client has at most 4,096 ranges, which rise
abbrev pub HoldsInOrder : Client → Type 0
HoldsInOrder c = (length c.holdings ≤ MAX_HOLDINGS) × Rises 0 c.holdings

-- a new domain's book
abbrev pub new_book : ℕ → Extent → ℕ → Option StepLog → BookState
new_book number bounds workers log =
    record {
      number = number;
      strict = false;
      state = new_domain bounds workers;
      log = log;
      shares = no_totals;
      ended = 0;
    }

-- What the value under the lock keeps: its domain's promises; the totals of its ledgers are the
-- domain's totals and the number of its flushes that ended well; and while it records, its log is a
-- transcript that leaves the domain.
pub record IsBook (b : BookState) : Type 0 where
  pub domain : IsKept b.state
  pub shares : b.shares ≡ totals b.state.clients
  pub ended : b.ended ≡ b.state.flushes.good
  pub recorded : IsRecorded b.log b.state

-- What a thread finds under the lock of a domain with so many workers.
pub record IsFound (count : ℕ) (b : BookState) : Type 0 where
  pub book : IsBook b
  pub workers : b.state.workers ≡ count

-- a book keeps its number, and whether it is strict
abbrev pub IsSame : BookState → BookState → Type 0
IsSame old new = (new.number ≡ old.number) × (new.strict ≡ old.strict)

-- the steps of a seat, and those of a tally
abbrev pub by_seat : Step → Bool
by_seat (step.Open w sac) = true
by_seat (step.Alloc w id frames limit) = true
by_seat (step.Unmap w id lo) = true
by_seat (step.CloseOne w id) = true
by_seat st = false

abbrev pub by_tally : Step → Bool
by_tally step.Begin = true
by_tally (step.End n ok) = true
by_tally st = false

-- Seats that are gathered.

abbrev pub has_seat : ℕ → List SeatState → Bool
has_seat worker seats = list_any (λ s. s.worker == worker) seats

abbrev pub have_seats : ℕ → List SeatState → Bool
have_seats zero seats = true
have_seats (suc n) seats = have_seats n seats && has_seat n seats

-- so many seats, and one of each worker among them; of as many seats as workers each is there once
abbrev pub are_all : (count workers : ℕ) → List SeatState → Bool
are_all count workers seats = (length seats == count) && have_seats workers seats

-- how many parts of the ledger of flushes their tallies have, and how many flushes these counted
abbrev pub tally_parts : List SeatState → ℕ
tally_parts seats = sum_by (λ s. s.tally.parts) seats

abbrev pub tally_good : List SeatState → ℕ
tally_good seats = sum_by (λ s. s.tally.good) seats

-- the sums of their shares
abbrev pub held_sum : List SeatState → Totals
held_sum seats =
    record {
      count = sum_by (λ s. s.held.count) seats;
      frames = sum_by (λ s. s.held.frames) seats;
      sum_lo = sum_by (λ s. s.held.sum_lo) seats;
    }

-- a domain's totals are the sums of these seats' shares, and its flushes that ended well are those
-- that the seats and one tally more counted
pub record AreCounted (domain : State) (seats : List SeatState) (split : TallyState) : Type 0 where
  pub totals : totals domain.clients ≡ held_sum seats
  pub ended : domain.flushes.good ≡ tally_good seats + split.good
