-- What contracts see of seats and tallies, and what a keeper answers.
use Rattle.std.specs.Prelude.{ℕ, zero, suc, ◌≡◌, ◌≢◌, ◌+◌, ◌*◌, ◌<◌, ◌≤◌, ◌%◌, ◌⊎◌, Bool, true, List, [], ◌∷◌, ◌++◌, length, Option, Some, None, Result, Ok, Err, MatchOption, if◌then◌else◌}
use Rattle.std.specs.declared.sync.ledger.Blank.{Blank}
use Rattle.iova_range.specs.declared.refusal.Refusal.{Refusal}
use Rattle.iova_range.specs.declared.refusal.Refusal.TheVariants as refusal
use Rattle.iova_range.specs.Frames.{Frames}
use Rattle.iova_range.specs.declared.limits.TheConstants.{TALLY_PARTS}
use Rattle.iova_range.specs.declared.stat.Stat.{Stat}
use Rattle.iova_model.specs.declared.step.Step.{Step}
use Rattle.iova_model.specs.declared.step.Step.TheVariants as step
use Rattle.iova_model.specs.declared.step.Reply.{Reply}
use Rattle.iova_model.specs.declared.step.Reply.TheVariants as reply
use Rattle.iova_model.specs.declared.totals.Totals.{Totals}
use Rattle.iova_model.specs.Clients.{Client, client_with, totals_of, totals, no_totals}
use Rattle.iova_model.specs.Valid.{IsValid}
use Rattle.iova_model.specs.Promises.{OnePlace, HoldersAreWithin, OwnersAreAligned}
use Rattle.iova_model.specs.State.{State, counts}
use Rattle.iova_model.specs.Effects.{MovesTotals, IsAmong, IsReplyTo, ended_well, add_totals, CountsAddUp, shares_below}
use Rattle.iova_keep.specs.declared.flush_history.FlushEvent.{FlushEvent}
use Rattle.iova_keep.specs.declared.flush_history.FlushEvent.TheVariants as flush_event
use Rattle.iova_keep.specs.FlushEvents.{flush_events, MakesRounds}
use Rattle.iova_keep.specs.declared.ending.Ending.{Ending}
use Rattle.iova_keep.specs.declared.ending.Ending.TheVariants as ending
use Rattle.iova_keep.specs.declared.unmapped.Unmapped.{Unmapped}
use Rattle.iova_keep.specs.declared.unmapped.Unmapped.TheVariants as unmapped
use Rattle.iova_keep.specs.declared.ledgers.Blanks.{Blanks}
use Rattle.iova_keep.specs.Names.{LedgerName, LedgerNames}
use Rattle.iova_sink.specs.Calls.{Call, good_calls}

-- a tally: the number of flushes that it ended as ones that succeeded, its parts, and the events of
-- its holder's flushes, oldest first
pub record TallyState : Type 0 where
  pub good : ℕ
  pub parts : ℕ
  pub past : List FlushEvent

-- a tally after a step of a flush with this reply
abbrev pub tally_after : Step → Reply → TallyState → TallyState
tally_after st r t =
    record {
      good = t.good + ended_well st r;
      parts = t.parts;
      past = t.past ++ flush_events st r;
    }

-- a tally after a flush began with this reply, if one did
abbrev pub tally_begun : Option Reply → TallyState → TallyState
tally_begun None t = t
tally_begun (Some b) t = tally_after step.Begin b t

-- a tally after its holder asked a sink for the flush of this number
abbrev pub tally_asked : ℕ → Bool → TallyState → TallyState
tally_asked n ok t =
    record { good = t.good; parts = t.parts; past = t.past ++ flush_event.Asked n ok ∷ [] }

-- what stays of a domain through all calls: its number, and whether it is strict
pub record Identity : Type 0 where
  pub number : ℕ
  pub strict : Bool

-- a seat: its worker, its shares, and its tally
pub record SeatState : Type 0 where
  pub worker : ℕ
  pub held : Totals
  pub tally : TallyState

-- a domain's four ledgers: the totals of the holdings' three, and of the flushes that ended well
pub record LedgersState : Type 0 where
  pub shares : Totals
  pub ended : ℕ

-- the name of a blank's ledger, and its parts
abbrev pub name_of : Blank → LedgerName
name_of b = record { name = b.name; parts = b.parts }

-- the ledgers of four blanks, of a domain with so many workers
abbrev pub names_of : ℕ → Blanks → LedgerNames
names_of workers b =
    record {
      count = name_of b.count;
      frames = name_of b.frames;
      sum_lo = name_of b.sum_lo;
      good = name_of b.good;
      workers = workers;
    }

-- a blank is that of this ledger, by its name and its parts, and the parts are so many
abbrev pub IsBlankOf : Blank → LedgerName → ℕ → Type 0
IsBlankOf b ledger parts = (b.name ≡ ledger.name) × (b.parts ≡ ledger.parts) × (b.parts ≡ parts)

-- Four blanks are those of these ledgers of a domain with so many seats and workers: of the first
-- three each seat has a part, of the last so many, for its tally.
abbrev pub AreBlanksOf : Blanks → LedgerNames → (seats parts workers : ℕ) → Type 0
AreBlanksOf b ledgers seats parts workers =
    IsBlankOf b.count ledgers.count seats × IsBlankOf b.frames ledgers.frames seats
    × IsBlankOf b.sum_lo ledgers.sum_lo seats × IsBlankOf b.good ledgers.good (parts * seats)
    × (ledgers.workers ≡ workers)

-- one of the workers of a domain
abbrev pub IsWorker : LedgerNames → ℕ → Type 0
IsWorker ledgers worker = worker < ledgers.workers

-- a worker's new seat, with so many parts for its tally
abbrev pub seat_with : ℕ → ℕ → SeatState
seat_with parts worker =
    record {
      worker = worker;
      held = record { count = 0; frames = 0; sum_lo = 0 };
      tally = record { good = 0; parts = parts; past = [] };
    }

-- a new seat that is its worker's only one
abbrev pub new_seat : ℕ → SeatState
new_seat worker = seat_with TALLY_PARTS worker

-- So many new seats, of so many workers in turn: behind one of the last worker comes another one of
-- worker 0.
abbrev pub seats_in_turn : (parts workers n : ℕ) → List SeatState
seats_in_turn parts workers zero = []
seats_in_turn parts workers (suc n) =
    seats_in_turn parts workers n ++ seat_with parts (n % workers) ∷ []

-- a new seat for each worker
abbrev pub new_seats : ℕ → List SeatState
new_seats workers = seats_in_turn TALLY_PARTS workers workers

-- a seat has less than a range, in one of its shares
abbrev pub Lacks : Totals → Frames → Type 0
Lacks held r = (held.count < 1) ⊎ (held.frames < r.len) ⊎ (held.sum_lo < r.lo)

-- a seat has as much as a range, in each of its shares
abbrev pub Covers : Totals → Frames → Type 0
Covers held r = (1 ≤ held.count) × (r.len ≤ held.frames) × (r.lo ≤ held.sum_lo)

-- What each domain keeps: no limit of a list is passed, the numbers of the flushes are sound, and
-- the counts of each ring rise up to the start count; each frame is in one place; what somebody has
-- is inside the bounds, and aligned unless it is a window; the counts add up to the bounds; and the
-- totals are the sums of all workers' shares.
pub record IsKept (s : State) : Type 0 where
  pub valid : IsValid s
  pub one_place : OnePlace s
  pub within : HoldersAreWithin s
  pub aligned : OwnersAreAligned s
  pub counted : CountsAddUp s
  pub totals : totals s.clients ≡ shares_below s.workers s.clients

-- how many ranges a client holds, 0 where there is no such client
abbrev pub left_in : Option Client → ℕ
left_in None = 0
left_in (Some c) = length c.holdings

abbrev pub left_of : ℕ → State → ℕ
left_of id s = left_in (client_with id s.clients)

-- a domain in numbers
abbrev pub stat_of : State → Stat
stat_of s = record {
  free = (counts s).free;
  reserved = (counts s).reserved;
  client = (counts s).client;
  magazine = (counts s).magazine;
  depot = (counts s).depot;
  ring = (counts s).ring;
  start = s.flushes.start;
  finish = s.flushes.finish;
}

-- the range that a release unmapped
abbrev pub range_of : Unmapped → Frames
range_of (unmapped.Queued r) = r
range_of (unmapped.Freed r) = r

-- the number of the flush that began in a hold, if one did
abbrev pub begun_of : Option Reply → Option ℕ
begun_of (Some (reply.Begun n)) = Some n
begun_of o = None

-- answers as replies
abbrev pub opened_or : Result ℕ Refusal → Reply
opened_or (Ok id) = reply.Opened id
opened_or (Err e) = reply.Refused e

abbrev pub reserved_or : Result Frames Refusal → Reply
reserved_or (Ok window) = reply.Reserved window
reserved_or (Err e) = reply.Refused e

abbrev pub given_or : Result Frames Refusal → Reply
given_or (Ok r) = reply.Given r
given_or (Err e) = reply.Refused e

abbrev pub queued_or : Result Frames Refusal → Reply
queued_or (Ok r) = reply.Queued r
queued_or (Err e) = reply.Refused e

abbrev pub unmapped_or : Result Unmapped Refusal → Reply
unmapped_or (Ok u) = reply.Queued (range_of u)
unmapped_or (Err e) = reply.Refused e

abbrev pub begun_or : Result ℕ Refusal → Reply
begun_or (Ok n) = reply.Begun n
begun_or (Err e) = reply.Refused e

-- Refusals, at the seat of a worker that the domain has.

abbrev pub IsOpenRefusal : Refusal → Type 0
IsOpenRefusal e = IsAmong e (refusal.Worn ∷ refusal.ClientsFull ∷ refusal.NoMemory ∷ [])

abbrev pub IsReserveRefusal : Refusal → Type 0
IsReserveRefusal e =
    IsAmong e (refusal.BadWindow ∷ refusal.Taken ∷ refusal.WindowsFull ∷ refusal.NoMemory ∷ [])

abbrev pub IsAllocRefusal : Refusal → Type 0
IsAllocRefusal e =
    IsAmong e (refusal.Zero ∷ refusal.TooBig ∷ refusal.NoClient ∷ refusal.Closing
    ∷ refusal.HoldingsFull ∷ refusal.NoMemory ∷ refusal.NoSpace ∷ [])

abbrev pub IsUnmapRefusal : Refusal → Type 0
IsUnmapRefusal e =
    IsAmong e (refusal.NoClient ∷ refusal.Closing ∷ refusal.NotHeld ∷ refusal.RingFull ∷ [])

abbrev pub IsBeginRefusal : Refusal → Type 0
IsBeginRefusal e = IsAmong e (refusal.FlightsFull ∷ refusal.Worn ∷ [])

abbrev pub IsFlushRefusal : Refusal → Type 0
IsFlushRefusal e = IsAmong e (refusal.FlightsFull ∷ refusal.Worn ∷ refusal.SinkFault ∷ [])

-- the worker has no such client
abbrev pub IsUnknown : Refusal → Type 0
IsUnknown e = e ≡ refusal.NoClient

-- what a hold of a client's end is refused by
abbrev pub IsCloseRefusal : Refusal → Type 0
IsCloseRefusal e = IsUnknown e ⊎ (e ≡ refusal.NotHeld) ⊎ (e ≡ refusal.RingFull)

-- What a hold may be heard to answer.

-- what an unmap of a range that begins at lo may be heard to answer
abbrev pub IsUnmapHeard : ℕ → Option Reply → Type 0
IsUnmapHeard lo (Some (reply.Queued r)) = r.lo ≡ lo
IsUnmapHeard lo (Some (reply.Refused e)) = IsUnmapRefusal e
IsUnmapHeard lo o = ⊥

-- what a begin may be heard to answer, after a refusal by RingFull
abbrev pub IsBeginHeard : Option Reply → Option Reply → Type 0
IsBeginHeard o None = Unit {0}
IsBeginHeard o (Some b) = (o ≡ Some (reply.Refused refusal.RingFull)) × IsReplyTo step.Begin b

-- what a begin may be heard to answer in the first hold of a release, also after a range that was
-- queued
abbrev pub IsReleaseBegin : Option Reply → Option Reply → Type 0
IsReleaseBegin o None = Unit {0}
IsReleaseBegin o (Some b) =
    ((o ≡ Some (reply.Refused refusal.RingFull)) ⊎ ((q : Frames) × (o ≡ Some (reply.Queued q))))
    × IsReplyTo step.Begin b

-- what a begin may be heard to answer in the second hold of a release: only after a range that was
-- queued
abbrev pub IsSecondBegin : Option Reply → Option Reply → Type 0
IsSecondBegin o None = Unit {0}
IsSecondBegin o (Some b) = ((q : Frames) × (o ≡ Some (reply.Queued q))) × IsReplyTo step.Begin b

-- in a strict domain no range was queued
abbrev pub QueuedNone : Bool → Option Reply → Type 0
QueuedNone strict o = strict ≡ true → (q : Frames) → o ≢ Some (reply.Queued q)

-- what the last closing of a hold may be heard to answer
abbrev pub IsCloseHeard : Option Reply → Type 0
IsCloseHeard (Some reply.Empty) = Unit {0}
IsCloseHeard (Some (reply.Refused e)) = IsCloseRefusal e
IsCloseHeard o = ⊥

-- where a keeper's domain is known before a call, it is known after it, and P holds of the two
abbrev pub WhereKnown : Option State → Option State → (State → State → Type 0) → Type 0
WhereKnown None after P = Unit {0}
WhereKnown (Some s) after P = MatchOption after ⊥ (λ t. P s t)

-- the flushes that ended well rise from old to new, by no more than the good calls of the sink
abbrev pub RisesWithin : ℕ → ℕ → List Call → List Call → Type 0
RisesWithin old new before now = new + good_calls before ≤ old + good_calls now

-- only the shares of a seat move
abbrev pub MovesSharesAlone : SeatState → SeatState → Type 0
MovesSharesAlone old new = (new.worker ≡ old.worker) × (new.tally ≡ old.tally)

-- what calls leave of a seat: its worker, its parts of the ledger, and a tally that rose by no more
-- than the good calls of the sink
pub record KeepsPlace (old new : SeatState) (before now : List Call) : Type 0 where
  pub worker : new.worker ≡ old.worker
  pub parts : new.tally.parts ≡ old.tally.parts
  pub tally : RisesWithin old.tally.good new.tally.good before now

-- what a hold leaves of a seat in which a flush may begin: its worker, and a tally with that begin
abbrev pub BeginsAtSeat : Option Reply → SeatState → SeatState → Type 0
BeginsAtSeat begun old new =
    (new.worker ≡ old.worker) × (new.tally ≡ tally_begun begun old.tally)

-- what a hold leaves of a seat in which the flush of this number ends by `ok`, and another one may
-- begin: its worker, and a tally with that end and that begin
pub record EndsAtSeat (n : ℕ) (ok : Bool) (begun : Option Reply) (old new : SeatState)
    : Type 0 where
  pub worker : new.worker ≡ old.worker
  pub end : Reply
  pub tally : new.tally ≡ tally_begun begun (tally_after (step.End n ok) end old.tally)

-- Shares.

-- these ranges were queued, and the shares lowered by them
abbrev pub IsLowered : List Frames → Totals → Totals → Type 0
IsLowered ranges old new = old ≡ add_totals new (totals_of ranges)

-- some ranges were queued, whose totals these are, and the shares lowered by them
abbrev pub Lowers : Totals → Totals → Totals → Type 0
Lowers queued old new =
    (ranges : List Frames) × (queued ≡ totals_of ranges) × IsLowered ranges old new

-- so many ranges were queued: all, where the client has ended; none, where the call was refused
abbrev pub Tells : Result Ending Refusal → ℕ → Type 0
Tells (Ok (ending.Ended queued)) count = queued ≡ count
Tells (Ok (ending.Waiting left why)) count = Unit {0}
Tells (Err e) count = (count ≡ 0) × IsUnknown e

-- a client's end queues some ranges, lowers the shares by them, and answers how many where it has
-- ended
abbrev pub LowersTold : Result Ending Refusal → Totals → Totals → Type 0
LowersTold result old new =
    (ranges : List Frames) × IsLowered ranges old new × Tells result (length ranges)

-- a seat's shares move as its last reply says
abbrev pub MovesHeard : Option Reply → Totals → Totals → Type 0
MovesHeard None old new = new ≡ old
MovesHeard (Some r) old new = MovesTotals r old new

-- what an unmap with this reply queued
abbrev pub queued_by : Reply → Totals
queued_by (reply.Queued r) = totals_of (r ∷ [])
queued_by r = no_totals
