-- The words of the laws: which ranges a step with its reply gains and frees, how it moves the
-- totals, which client it marks, what a refused one leaves, and which replies and refusals a step
-- has. Contracts cite them.
use Rattle.std.specs.Prelude.{ℕ, zero, suc, ◌≡◌, ◌≢◌, ◌≤◌, ◌+◌, ◌-◌, ◌%◌, ◌==◌, ◌⊎◌, Bool, true, false, nat_lt, if◌then◌else◌, List, [], ◌∷◌, ◌++◌, map, filter, find, Option, Some, None, option_and_then, slice_get, sum_by}
use Rattle.iova_range.specs.declared.limits.TheConstants.{MAX_FRAMES}
use Rattle.iova_range.specs.declared.refusal.Refusal.{Refusal}
use Rattle.iova_range.specs.declared.refusal.Refusal.TheVariants as refusal
use Rattle.iova_range.specs.Frames.{Frames, covers, meets}
use Rattle.iova_range.specs.Sizes.{need, align_of}
use Rattle.iova_model.specs.declared.step.Step.{Step}
use Rattle.iova_model.specs.declared.step.Step.TheVariants as step
use Rattle.iova_model.specs.declared.step.Reply.{Reply}
use Rattle.iova_model.specs.declared.step.Reply.TheVariants as reply
use Rattle.iova_model.specs.declared.place.Place.{Place}
use Rattle.iova_model.specs.declared.place.Place.TheVariants as place
use Rattle.iova_model.specs.declared.totals.Totals.{Totals}
use Rattle.iova_model.specs.Fit.{IsBest}
use Rattle.iova_model.specs.Caches.{Caches, freed_by_puts, without_entries}
use Rattle.iova_model.specs.Flushes.{entry_range, flushed_front}
use Rattle.iova_model.specs.Clients.{Client, change_client, with_mark, client_with, client_of, begins_at, totals, totals_of, share_of}
use Rattle.iova_model.specs.State.{State, Holder, holders, held_ranges, window_holders, magazine_holders, depot_holders, ring_holders, cached_holders, times_held, counts}
use Rattle.iova_model.specs.Next.{Next, no_worker, from_to, ring_at, with_caches, with_clients}
use Rattle.iova_model.specs.Transcript.{Pair}

-- One place.

-- one holder has the frame, at this place, or none has and it is free
pub record IsOnlyAt (s : State) (frame : ℕ) (p : Place) : Type 0 where
  pub free : p ≡ place.Free → times_held frame (holders s) ≡ 0
  pub held : p ≢ place.Free → times_held frame (holders s) ≡ 1
  pub here : p ≢ place.Free → (i : ℕ) × (h : Holder) × (slice_get (holders s) i ≡ Some h)
      × (covers frame h.range ≡ true) × (h.place ≡ p)

abbrev pub frames_of : List Holder → ℕ
frames_of hs = sum_by (λ h. h.range.len) hs

-- the counts of the places are the frames of the holders there, and all of them are the frames of
-- the bounds
pub record CountsAddUp (s : State) : Type 0 where
  pub reserved : (counts s).reserved ≡ frames_of (window_holders s.windows)
  pub client : (counts s).client ≡ (totals s.clients).frames
  pub magazine : (counts s).magazine ≡ frames_of (magazine_holders 0 s.caches.workers)
  pub depot : (counts s).depot ≡ frames_of (depot_holders 0 s.caches.depots)
  pub ring : (counts s).ring ≡ frames_of (ring_holders 0 s.rings)
  pub all : (counts s).free + (counts s).reserved + (counts s).client + (counts
      s).magazine + (counts s).depot + (counts s).ring ≡ s.bounds.last + 1 - s.bounds.start

-- Conservation. A step brings ranges in among those that somebody has (`gained`) and frees some of
-- these (`freed`), those that are said here and no others; whatever ranges weigh, nothing else is
-- gained or lost. A window that joins others gains their frames again, and a range may be given
-- from what emptied caches free in the same step.

-- what a drain of ring q by worker w makes free
abbrev pub freed_by_drain : State → ℕ → ℕ → List Frames
freed_by_drain s q w =
    freed_by_puts s.bounds.profile s.caches w
    (map entry_range (flushed_front s.flushes.finish (ring_at s q)))

abbrev pub cached_ranges : Caches → List Frames
cached_ranges c = map (λ h. h.range) (cached_holders c)

-- nothing becomes free, or all that is cached does
abbrev pub FreesCaches : Caches → List Frames → Type 0
FreesCaches c freed = (freed ≡ []) ⊎ (freed ≡ cached_ranges c)

-- a range is given from a cache, and nothing becomes free; or it is given from free frames
abbrev pub MovesInAlloc : Caches → Reply → List Frames → List Frames → Type 0
MovesInAlloc c (reply.Given r) gained freed =
    ((gained ≡ []) × (freed ≡ [])) ⊎ ((gained ≡ r ∷ []) × FreesCaches c freed)
MovesInAlloc c (reply.Refused refusal.NoSpace) gained freed =
    (gained ≡ []) × (freed ≡ cached_ranges c)
MovesInAlloc c (reply.Refused refusal.NoMemory) gained freed = (gained ≡ []) × FreesCaches c freed
MovesInAlloc c r gained freed = (gained ≡ []) × (freed ≡ [])

-- which ranges a step with this reply gains, and which it frees
abbrev pub Moves : State → Step → Reply → List Frames → List Frames → Type 0
Moves s (step.Reserve lo hi) (reply.Reserved window) gained freed =
    (gained ≡ window ∷ []) × (freed ≡ filter (meets (from_to lo hi)) s.windows)
Moves s (step.Alloc w id frames limit) r gained freed = MovesInAlloc s.caches r gained freed
Moves s (step.Unmap w id lo) (reply.Queued r) gained freed =
    (gained ≡ []) × (freed ≡ freed_by_drain s w w)
Moves s (step.CloseOne w id) (reply.Queued r) gained freed =
    (gained ≡ []) × (freed ≡ freed_by_drain s w w)
Moves s (step.Drain q w) (reply.Drained n) gained freed =
    (gained ≡ []) × (freed ≡ freed_by_drain s q w)
Moves s st r gained freed = (gained ≡ []) × (freed ≡ [])

pub record Conserves (s : State) (st : Step) (n : Next) : Type 0 where
  pub gained : List Frames
  pub freed : List Frames
  pub moves : Moves s st n.reply gained freed
  pub balance : (weigh : Frames → ℕ) → sum_by weigh (held_ranges n.state) + sum_by weigh freed
      ≡ sum_by weigh (held_ranges s) + sum_by weigh gained

-- Totals.

abbrev pub add_totals : Totals → Totals → Totals
add_totals a b =
    record { count = a.count + b.count; frames = a.frames + b.frames; sum_lo = a.sum_lo + b.sum_lo }

-- the shares of the workers below w, added
abbrev pub shares_below : ℕ → List Client → Totals
shares_below zero clients = totals_of []
shares_below (suc w) clients = add_totals (shares_below w clients) (share_of w clients)

-- `Given` raises the totals by its range, `Queued` lowers them, and no other reply moves them
abbrev pub MovesTotals : Reply → Totals → Totals → Type 0
MovesTotals (reply.Given r) old new = new ≡ add_totals old (totals_of (r ∷ []))
MovesTotals (reply.Queued r) old new = old ≡ add_totals new (totals_of (r ∷ []))
MovesTotals (reply.Reserved window) old new = new ≡ old
MovesTotals (reply.Opened id) old new = new ≡ old
MovesTotals (reply.Begun number) old new = new ≡ old
MovesTotals reply.Ended old new = new ≡ old
MovesTotals (reply.Drained n) old new = new ≡ old
MovesTotals (reply.Marked left) old new = new ≡ old
MovesTotals reply.Empty old new = new ≡ old
MovesTotals (reply.Refused r) old new = new ≡ old

-- the worker that a step names
abbrev pub worker_of : Step → Option ℕ
worker_of (step.Open w sac) = Some w
worker_of (step.Alloc w id frames limit) = Some w
worker_of (step.Unmap w id lo) = Some w
worker_of (step.Close w id) = Some w
worker_of (step.CloseOne w id) = Some w
worker_of (step.Reserve lo hi) = None
worker_of step.Begin = None
worker_of (step.End number ok) = None
worker_of (step.Drain ring by) = None

-- the share of the worker that the step names moves as the totals do, and no other
abbrev pub MovesShare : Option ℕ → Reply → ℕ → Totals → Totals → Type 0
MovesShare None r worker old new = new ≡ old
MovesShare (Some w) r worker old new =
    ((worker ≡ w) × MovesTotals r old new) ⊎ ((worker ≢ w) × (new ≡ old))

pub record MovesLedgers (s : State) (st : Step) (n : Next) : Type 0 where
  pub totals : MovesTotals n.reply (totals s.clients) (totals n.state.clients)
  pub share : (worker : ℕ) → MovesShare (worker_of st) n.reply worker (share_of worker s.clients)
      (share_of worker n.state.clients)

-- The flush law.

-- by this reply the frame was given, whichever step it answers
abbrev pub Gives : ℕ → Reply → Type 0
Gives frame (reply.Given r) = covers frame r ≡ true
Gives frame (reply.Queued r) = ⊥
Gives frame (reply.Reserved r) = ⊥
Gives frame (reply.Opened id) = ⊥
Gives frame (reply.Begun number) = ⊥
Gives frame reply.Ended = ⊥
Gives frame (reply.Drained n) = ⊥
Gives frame (reply.Marked left) = ⊥
Gives frame reply.Empty = ⊥
Gives frame (reply.Refused r) = ⊥

pub record IsGivenAt (ps : List Pair) (n frame : ℕ) : Type 0 where
  pub pair : Pair
  pub is : slice_get ps n ≡ Some pair
  pub gives : Gives frame pair.reply

-- Closing.

-- the ranges that the closing of the client queued, in order
abbrev pub queued_in : ℕ → Step → Reply → List Frames
queued_in id (step.CloseOne w client) (reply.Queued r) = if client == id then r ∷ [] else []
queued_in id (step.CloseOne w client) (reply.Reserved r) = []
queued_in id (step.CloseOne w client) (reply.Opened serial) = []
queued_in id (step.CloseOne w client) (reply.Given r) = []
queued_in id (step.CloseOne w client) (reply.Begun number) = []
queued_in id (step.CloseOne w client) reply.Ended = []
queued_in id (step.CloseOne w client) (reply.Drained n) = []
queued_in id (step.CloseOne w client) (reply.Marked left) = []
queued_in id (step.CloseOne w client) reply.Empty = []
queued_in id (step.CloseOne w client) (reply.Refused r) = []
queued_in id (step.Reserve lo hi) r = []
queued_in id (step.Open w sac) r = []
queued_in id (step.Alloc w client frames limit) r = []
queued_in id (step.Unmap w client lo) r = []
queued_in id step.Begin r = []
queued_in id (step.End number ok) r = []
queued_in id (step.Drain ring by) r = []
queued_in id (step.Close w client) r = []

abbrev pub queued_by_closing : ℕ → List Pair → List Frames
queued_by_closing id [] = []
queued_by_closing id (p ∷ ps) = queued_in id p.step p.reply ++ queued_by_closing id ps

-- the client that a step closes
abbrev pub client_closed : Step → Option ℕ
client_closed (step.Close w id) = Some id
client_closed (step.CloseOne w id) = Some id
client_closed (step.Reserve lo hi) = None
client_closed (step.Open w sac) = None
client_closed (step.Alloc w id frames limit) = None
client_closed (step.Unmap w id lo) = None
client_closed step.Begin = None
client_closed (step.End number ok) = None
client_closed (step.Drain ring by) = None

-- the replies by which a step that closes has marked its client
abbrev pub HasMarked : Reply → Type 0
HasMarked (reply.Marked left) = Unit {0}
HasMarked (reply.Queued r) = Unit {0}
HasMarked reply.Empty = Unit {0}
HasMarked (reply.Refused r) = r ≡ refusal.RingFull
HasMarked (reply.Reserved r) = ⊥
HasMarked (reply.Opened id) = ⊥
HasMarked (reply.Given r) = ⊥
HasMarked (reply.Begun number) = ⊥
HasMarked reply.Ended = ⊥
HasMarked (reply.Drained n) = ⊥

-- a step with this reply marks the client closing
abbrev pub Marks : ℕ → Step → Reply → Type 0
Marks id st r = (client_closed st ≡ Some id) × HasMarked r

-- the client's closing was answered `Empty`
abbrev pub Empties : ℕ → Step → Reply → Type 0
Empties id st r = (client_closed st ≡ Some id) × (r ≡ reply.Empty)

pub record IsEmptiedAt (ps : List Pair) (i id : ℕ) : Type 0 where
  pub pair : Pair
  pub is : slice_get ps i ≡ Some pair
  pub empties : Empties id pair.step pair.reply

-- the client is closing, and what was queued and what it has left are its old holdings, in their
-- order
pub record IsClosing (id : ℕ) (old : List Frames) (ps : List Pair) (t : State) : Type 0 where
  pub client : Client
  pub is : client_with id t.clients ≡ Some client
  pub closing : client.closing ≡ true
  pub left : queued_by_closing id ps ++ client.holdings ≡ old
  pub none_emptied : (i : ℕ) → IsEmptiedAt ps i id → ⊥

-- the client is gone, after `Empty`, and all its old holdings were queued, in their order; its
-- serial isn't given again
pub record IsGone (id : ℕ) (old : List Frames) (ps : List Pair) (t : State) : Type 0 where
  pub known : id ≤ t.serial
  pub gone : client_with id t.clients ≡ None
  pub all : queued_by_closing id ps ≡ old
  pub index : ℕ
  pub emptied : IsEmptiedAt ps index id

-- the client that a step names
abbrev pub client_named : Step → Option ℕ
client_named (step.Alloc w id frames limit) = Some id
client_named (step.Unmap w id lo) = Some id
client_named (step.Close w id) = Some id
client_named (step.CloseOne w id) = Some id
client_named (step.Reserve lo hi) = None
client_named (step.Open w sac) = None
client_named step.Begin = None
client_named (step.End number ok) = None
client_named (step.Drain ring by) = None

-- why a step is refused whose client doesn't exist: for that, or by a test that comes before
abbrev pub unless_no_worker : State → ℕ → Refusal → Refusal
unless_no_worker s w r = if no_worker s w then refusal.NoWorker else r

abbrev pub unknown_refusal : State → Step → Refusal
unknown_refusal s (step.Alloc w id frames limit) =
    unless_no_worker s w (if frames == 0 then refusal.Zero else if nat_lt MAX_FRAMES frames
    then refusal.TooBig else refusal.NoClient)
unknown_refusal s (step.Unmap w id lo) = unless_no_worker s w refusal.NoClient
unknown_refusal s (step.Close w id) = unless_no_worker s w refusal.NoClient
unknown_refusal s (step.CloseOne w id) = unless_no_worker s w refusal.NoClient
unknown_refusal s (step.Reserve lo hi) = refusal.NoClient
unknown_refusal s (step.Open w sac) = refusal.NoClient
unknown_refusal s step.Begin = refusal.NoClient
unknown_refusal s (step.End number ok) = refusal.NoClient
unknown_refusal s (step.Drain ring by) = refusal.NoClient

-- What a request is given.

-- what is given to a request of so many frames with this limit: as many as it needs, aligned to
-- their size, and none above the limit
abbrev pub IsGivenTo : ℕ → ℕ → Frames → Type 0
IsGivenTo frames limit r =
    (r.len ≡ need frames) × (r.lo % align_of r.len ≡ 0) × (r.lo + r.len ≤ limit + 1)

-- what is given to a request lies inside the bounds too
pub record IsAnswerTo (s : State) (frames limit : ℕ) (r : Frames) : Type 0 where
  pub given : IsGivenTo frames limit r
  pub start : s.bounds.start ≤ r.lo
  pub last : r.lo + r.len ≤ s.bounds.last + 1

abbrev pub AnswersRequest : State → ℕ → ℕ → Reply → Type 0
AnswersRequest s frames limit (reply.Given r) = IsAnswerTo s frames limit r
-- nothing fits with all caches emptied
AnswersRequest s frames limit (reply.Refused refusal.NoSpace) =
    IsBest s.bounds (held_ranges (with_caches s (without_entries s.caches)))
    (need frames) limit None
AnswersRequest s frames limit r = Unit {0}

-- Refusals and memory.

-- the steps that may grow something
abbrev pub takes_memory : Step → Bool
takes_memory (step.Reserve lo hi) = true
takes_memory (step.Open w sac) = true
takes_memory (step.Alloc w id frames limit) = true
takes_memory (step.Unmap w id lo) = false
takes_memory step.Begin = false
takes_memory (step.End number ok) = false
takes_memory (step.Drain ring by) = false
takes_memory (step.Close w id) = false
takes_memory (step.CloseOne w id) = false

-- what a refused step leaves: the state as it was, but for the caches of a request that found
-- nothing or no memory, and the mark of a client whose closing finds the ring full
abbrev pub RefusalLeaves : State → Step → Refusal → State → Type 0
RefusalLeaves s (step.Alloc w id frames limit) refusal.NoSpace t =
    t ≡ with_caches s (without_entries s.caches)
RefusalLeaves s (step.Alloc w id frames limit) refusal.NoMemory t = t ≡ with_caches s t.caches
RefusalLeaves s (step.CloseOne w id) refusal.RingFull t =
    t ≡ with_clients s (change_client id with_mark s.clients)
RefusalLeaves s st r t = t ≡ s

-- Which reply a step has, what it queues, and which flushes it ends well.

-- the refusals of a step, in the order in which they are tried
abbrev pub refusals_of : Step → List Refusal
refusals_of (step.Reserve lo hi) =
    refusal.BadWindow ∷ refusal.Taken ∷ refusal.WindowsFull ∷ refusal.NoMemory ∷ []
refusals_of (step.Open w sac) =
    refusal.NoWorker ∷ refusal.Worn ∷ refusal.ClientsFull ∷ refusal.NoMemory ∷ []
refusals_of (step.Alloc w id frames limit) =
    refusal.NoWorker ∷ refusal.Zero ∷ refusal.TooBig ∷ refusal.NoClient ∷ refusal.Closing
    ∷ refusal.HoldingsFull ∷ refusal.NoMemory ∷ refusal.NoSpace ∷ []
refusals_of (step.Unmap w id lo) =
    refusal.NoWorker ∷ refusal.NoClient ∷ refusal.Closing ∷ refusal.NotHeld ∷ refusal.RingFull ∷ []
refusals_of step.Begin = refusal.FlightsFull ∷ refusal.Worn ∷ []
refusals_of (step.End n ok) = refusal.NoFlight ∷ []
refusals_of (step.Drain ring by) = refusal.NoWorker ∷ []
refusals_of (step.Close w id) = refusal.NoWorker ∷ refusal.NoClient ∷ []
refusals_of (step.CloseOne w id) = refusal.NoWorker ∷ refusal.NoClient ∷ refusal.RingFull ∷ []

abbrev pub IsAmong : Refusal → List Refusal → Type 0
IsAmong r [] = ⊥
IsAmong r (x ∷ xs) = (r ≡ x) ⊎ IsAmong r xs

-- each step has answers of its own, and refusals of its own
abbrev pub IsReplyTo : Step → Reply → Type 0
IsReplyTo (step.Reserve lo hi) (reply.Reserved r) = Unit {0}
IsReplyTo (step.Open w sac) (reply.Opened id) = Unit {0}
IsReplyTo (step.Alloc w id frames limit) (reply.Given r) = Unit {0}
IsReplyTo (step.Unmap w id lo) (reply.Queued r) = r.lo ≡ lo
IsReplyTo step.Begin (reply.Begun n) = Unit {0}
IsReplyTo (step.End n ok) reply.Ended = Unit {0}
IsReplyTo (step.Drain ring by) (reply.Drained n) = Unit {0}
IsReplyTo (step.Close w id) (reply.Marked left) = Unit {0}
IsReplyTo (step.CloseOne w id) (reply.Queued r) = Unit {0}
IsReplyTo (step.CloseOne w id) reply.Empty = Unit {0}
IsReplyTo st (reply.Refused r) = IsAmong r (refusals_of st)
IsReplyTo st r = ⊥

-- how many flushes a step with this reply ended well
abbrev pub ended_well : Step → Reply → ℕ
ended_well (step.End n ok) reply.Ended = if ok then 1 else 0
ended_well st r = 0

-- the range that a step would queue if the ring had room: none where it is refused before the ring
-- is asked
abbrev pub unmapped_of : ℕ → Client → Option Frames
unmapped_of lo c = if c.closing then None else find (begins_at lo) c.holdings

abbrev pub to_queue : State → Step → Option Frames
to_queue s (step.Unmap w id lo) =
    if no_worker s w then None else option_and_then (unmapped_of lo) (client_of w id s.clients)
to_queue s (step.CloseOne w id) =
    if no_worker s w then None else option_and_then (λ c. slice_get c.holdings 0)
    (client_of w id s.clients)
to_queue s (step.Reserve lo hi) = None
to_queue s (step.Open w sac) = None
to_queue s (step.Alloc w id frames limit) = None
to_queue s step.Begin = None
to_queue s (step.End number ok) = None
to_queue s (step.Drain ring by) = None
to_queue s (step.Close w id) = None

-- what the client with this serial holds, nothing where there is none
abbrev pub held_in : Option Client → List Frames
held_in None = []
held_in (Some c) = c.holdings

abbrev pub held_by : ℕ → List Client → List Frames
held_by id clients = held_in (client_with id clients)
