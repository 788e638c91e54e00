-- What calls of the lock run, hold by hold.
use Rattle.std.specs.Prelude.{ℕ, zero, suc, ◌≡◌, ◌≢◌, ◌+◌, ◌<◌, ◌≤◌, Bool, true, false, List, [], ◌∷◌, ◌++◌, Option, Some, None, Result, Ok, Err}
use Rattle.iova_range.specs.declared.refusal.Refusal.{Refusal}
use Rattle.iova_range.specs.declared.refusal.Refusal.TheVariants as refusal
use Rattle.iova_range.specs.Frames.{Frames}
use Rattle.iova_model.specs.declared.step.Step.{Step}
use Rattle.iova_model.specs.declared.step.Step.TheVariants as step
use Rattle.iova_model.specs.declared.step.Reply.{Reply}
use Rattle.iova_model.specs.declared.step.Reply.TheVariants as reply
use Rattle.iova_model.specs.declared.totals.Totals.{Totals}
use Rattle.iova_model.specs.Clients.{totals_of}
use Rattle.iova_model.specs.State.{State}
use Rattle.iova_model.specs.Effects.{add_totals, to_queue}
use Rattle.iova_sink.specs.Calls.{Invalidation, Call}
use Rattle.iova_keep.specs.Steps.{Takes}
use Rattle.iova_keep.specs.declared.ending.Ending.{Ending}
use Rattle.iova_keep.specs.declared.ending.Ending.TheVariants as ending
use Rattle.iova_keep.specs.declared.ending.Why.TheVariants as why
use Rattle.iova_keep.specs.Views.{Lacks, IsUnknown}

-- What happens in a call: a step is run and answered; a step is not run, since the seat has these
-- totals and the range that would be queued is more; the sink is called for a flush, and answers.
pub data CallEvent : Type 0 where
  Ran : Step → Reply → CallEvent
  NotRun : Step → Totals → CallEvent
  Invalidated : ℕ → Bool → CallEvent

-- a step would queue a range that is more than this
abbrev pub IsShort : Totals → Option Frames → Type 0
IsShort held queues = (r : Frames) × (queues ≡ Some r) × Lacks held r

-- From s, what happens in this order leaves t.
abbrev pub Leads : State → List CallEvent → State → Type 0
Leads s [] t = t ≡ s
Leads s (Ran st r ∷ es) t = (mid : State) × Takes s st r mid × Leads mid es t
Leads s (NotRun st held ∷ es) t = IsShort held (to_queue s st) × Leads s es t
Leads s (Invalidated n ok ∷ es) t = Leads s es t

-- the calls that a sink of this domain was made
abbrev pub sink_calls : ℕ → List CallEvent → List Call
sink_calls domain [] = []
sink_calls domain (Ran st r ∷ es) = sink_calls domain es
sink_calls domain (NotRun st held ∷ es) = sink_calls domain es
sink_calls domain (Invalidated n ok ∷ es) = Invalidation domain n ok ∷ sink_calls domain es

-- A call does what is allowed of it.
pub record Does (Allowed : List CallEvent → Type 0) (s t : State) : Type 0 where
  pub events : List CallEvent
  pub allowed : Allowed events
  pub leads : Leads s events t

-- an unmap or a step of a closing at a seat: it is run; or it is not, and heard as refused by
-- NotHeld
pub data Unmapping (st : Step) (held : Totals) : Reply → List CallEvent → Type 0 where
  run : (r : Reply) → Unmapping st held r (Ran st r ∷ [])
  not_run : Unmapping st held (reply.Refused refusal.NotHeld) (NotRun st held ∷ [])

-- The first hold of an unmap: where the ring is full, a flush begins in it.
pub data UnmapFirst (st : Step) (held : Totals) : Option Reply → Option Reply → List CallEvent
    → Type 0 where
  tried : (r : Reply) (es : List CallEvent) → r ≢ reply.Refused refusal.RingFull
      → Unmapping st held r es
      → UnmapFirst st held (Some r) None es
  full : (begin : Reply)
      → UnmapFirst st held (Some (reply.Refused refusal.RingFull)) (Some begin)
      (Ran st (reply.Refused refusal.RingFull) ∷ Ran step.Begin begin ∷ [])

-- The second hold: the flush ends, and the unmap is tried again.
pub data UnmapAgain (st : Step) (held : Totals) (n : ℕ) (ok : Bool) : Option Reply → List CallEvent
    → Type 0 where
  again : (end r : Reply) (es : List CallEvent) → Unmapping st held r es
      → UnmapAgain st held n ok (Some r) (Ran (step.End n ok) end ∷ es)

-- An unmap: one hold; or, where the ring is full and a flush begins, two with a call of the sink
-- between them.
pub data Unmap (st : Step) (held : Totals) : Reply → List CallEvent → Type 0 where
  once : (r : Reply) (es : List CallEvent) → UnmapFirst st held (Some r) None es
      → Unmap st held r es
  not_begun : (e : Refusal)
      → Unmap st held (reply.Refused refusal.RingFull)
      (Ran st (reply.Refused refusal.RingFull) ∷ Ran step.Begin (reply.Refused e) ∷ [])
  flushed : (n : ℕ) (ok : Bool) (r : Reply) (es : List CallEvent)
      → UnmapAgain st held n ok (Some r) es
      → Unmap st held r
      (Ran st (reply.Refused refusal.RingFull) ∷ Ran step.Begin (reply.Begun n) ∷ Invalidated n
      ok ∷ es)

-- A flush: it begins, the sink is called, and it ends as the sink answered.
pub data Flush : Result ℕ Refusal → List CallEvent → Type 0 where
  refused : (e : Refusal) → Flush (Err e) (Ran step.Begin (reply.Refused e) ∷ [])
  done : (n : ℕ) (end : Reply)
      → Flush (Ok n) (Ran step.Begin (reply.Begun n) ∷ Invalidated n true ∷ Ran (step.End n true)
      end ∷ [])
  failed : (n : ℕ) (end : Reply)
      → Flush (Err refusal.SinkFault)
      (Ran step.Begin (reply.Begun n) ∷ Invalidated n false ∷ Ran (step.End n false) end ∷ [])

-- Closings of one client, at a seat that has `held` and is left with `left`: ranges are queued, one
-- step each, until a step queues none; that one's reply is the last.
pub data Closing (st : Step) : Totals → Totals → Reply → List CallEvent → Type 0 where
  stops : (held left : Totals) (r : Reply) (es : List CallEvent) → left ≡ held
      → ((q : Frames) → r ≢ reply.Queued q)
      → Unmapping st held r es → Closing st held left r es
  queues : (held mid left : Totals) (q : Frames) (r : Reply) (es : List CallEvent)
      → held ≡ add_totals mid (totals_of (q ∷ [])) → Closing st mid left r es
      → Closing st held left r (Ran st (reply.Queued q) ∷ es)

-- The first hold of a client's end: closings; where the ring is full, a flush begins in it.
pub data CloseFirst (st : Step) (held left : Totals) : Option Reply → Option Reply → List CallEvent
    → Type 0 where
  closed : (r : Reply) (es : List CallEvent) → r ≢ reply.Refused refusal.RingFull
      → Closing st held left r es
      → CloseFirst st held left (Some r) None es
  closed_full : (begin : Reply) (es : List CallEvent)
      → Closing st held left (reply.Refused refusal.RingFull) es
      → CloseFirst st held left (Some (reply.Refused refusal.RingFull)) (Some begin)
      (es ++ Ran step.Begin begin ∷ [])

-- Each further hold: the flush ends, and then as the first one; but where the ring is full before a
-- range was queued, it stops there.
pub data CloseAgain (st : Step) (n : ℕ) (ok : Bool) (held left : Totals) : Option Reply
    → Option Reply → List CallEvent
    → Type 0 where
  closed_again : (end r : Reply) (es : List CallEvent) → r ≢ reply.Refused refusal.RingFull
      → Closing st held left r es
      → CloseAgain st n ok held left (Some r) None (Ran (step.End n ok) end ∷ es)
  full_none_queued : (end : Reply) (es : List CallEvent) → left.count ≡ held.count
      → Closing st held left (reply.Refused refusal.RingFull) es
      → CloseAgain st n ok held left (Some (reply.Refused refusal.RingFull)) None
      (Ran (step.End n ok) end ∷ es)
  full_again : (end begin : Reply) (es : List CallEvent) → left.count < held.count
      → Closing st held left (reply.Refused refusal.RingFull) es
      → CloseAgain st n ok held left (Some (reply.Refused refusal.RingFull)) (Some begin)
      (Ran (step.End n ok) end ∷ (es ++ Ran step.Begin begin ∷ []))

-- All further holds, from the call of the sink for flush n on. The sink answered the flush before
-- the last of them by this Bool, and what the last one heard are these replies.
pub data CloseRest (st : Step) : ℕ → Totals → Totals → Bool → Option Reply → Option Reply
    → List CallEvent → Type 0 where
  last : (n : ℕ) (ok : Bool) (held left : Totals) (o b : Option Reply) (es : List CallEvent)
      → CloseAgain st n ok held left o b es
      → CloseRest st n held left ok o b (Invalidated n ok ∷ es)
  another : (n m : ℕ) (ok well : Bool) (held mid left : Totals) (o b : Option Reply)
      (es fs : List CallEvent)
      → CloseAgain st n ok held mid (Some (reply.Refused refusal.RingFull)) (Some (reply.Begun m))
      es
      → CloseRest st m mid left well o b fs
      → CloseRest st n held left well o b (Invalidated n ok ∷ (es ++ fs))

-- What a client's end is answered, by what its last hold heard: how many ranges were queued, how
-- many the client has left, how the sink answered the flush before that hold, if one was, and the
-- replies of the last closing and of a Begin after it.
pub data Answered (queued left : ℕ) (flushed : Option Bool) : Option Reply → Option Reply
    → Result Ending Refusal
    → Type 0 where
  ended : Answered queued left flushed (Some reply.Empty) None (Ok (ending.Ended queued))
  unknown : (e : Refusal) → IsUnknown e → queued ≡ 0
      → Answered queued left flushed (Some (reply.Refused e)) None (Err e)
  -- the client was there and is gone; this never happens
  gone : (e : Refusal) → IsUnknown e → 1 ≤ queued
      → Answered queued left flushed (Some (reply.Refused e)) None (Ok (ending.Ended queued))
  share : Answered queued left flushed (Some (reply.Refused refusal.NotHeld)) None
      (Ok (ending.Waiting left why.Share))
  sink_failed : flushed ≡ Some false
      → Answered queued left flushed (Some (reply.Refused refusal.RingFull)) None
      (Ok (ending.Waiting left why.SinkFailed))
  overlap : flushed ≡ Some true
      → Answered queued left flushed (Some (reply.Refused refusal.RingFull)) None
      (Ok (ending.Waiting left why.Overlap))
  flights_full : Answered queued left flushed (Some (reply.Refused refusal.RingFull))
      (Some (reply.Refused refusal.FlightsFull)) (Ok (ending.Waiting left why.FlightsFull))
  worn : Answered queued left flushed (Some (reply.Refused refusal.RingFull))
      (Some (reply.Refused refusal.Worn))
      (Ok (ending.Waiting left why.Worn))

-- A client's end: one hold; or, where the ring is full and a flush begins, further ones with a call
-- of the sink before each. `remains` is how many ranges the client has left.
pub data EndClient (st : Step) (held left : Totals) (remains : ℕ) : Result Ending Refusal
    → List CallEvent → Type 0 where
  in_one_hold : (queued : ℕ) (o b : Option Reply) (result : Result Ending Refusal)
      (es : List CallEvent)
      → held.count ≡ left.count + queued
      → CloseFirst st held left o b es → Answered queued remains None o b result
      → EndClient st held left remains result es
  in_more : (queued n : ℕ) (ok : Bool) (mid : Totals) (o b : Option Reply)
      (result : Result Ending Refusal)
      (es fs : List CallEvent)
      → held.count ≡ left.count + queued
      → CloseFirst st held mid (Some (reply.Refused refusal.RingFull)) (Some (reply.Begun n)) es
      → CloseRest st n mid left ok o b fs
      → Answered queued remains (Some ok) o b result
      → EndClient st held left remains result (es ++ fs)

-- Rings are drained in turn, all by one worker, which frees so many entries.
pub data Draining (by : ℕ) : List ℕ → ℕ → List CallEvent → Type 0 where
  none_left : Draining by [] 0 []
  drains : (q : ℕ) (rings : List ℕ) (n more : ℕ) (es : List CallEvent) → Draining by rings more es
      → Draining by (q ∷ rings) (n + more) (Ran (step.Drain q by) (reply.Drained n) ∷ es)

-- so many numbers, from q on
abbrev pub rings_from : ℕ → ℕ → List ℕ
rings_from q zero = []
rings_from q (suc n) = q ∷ rings_from (q + 1) n

-- All rings are drained, where there is such a worker.
pub data DrainAll (workers by : ℕ) : Result ℕ Refusal → List CallEvent → Type 0 where
  drained : (freed : ℕ) (es : List CallEvent) → by < workers
      → Draining by (rings_from 0 workers) freed es
      → DrainAll workers by (Ok freed) es
  no_worker : workers ≤ by
      → DrainAll workers by (Err refusal.NoWorker)
      (Ran (step.Drain 0 by) (reply.Refused refusal.NoWorker) ∷ [])

-- A flusher's round: nothing where no ring has a frame; else a flush, and where it ended well all
-- rings are drained by worker 0.
pub data Timeout (workers queued : ℕ) : Result ℕ Refusal → List CallEvent → Type 0 where
  idle : queued ≡ 0 → Timeout workers queued (Ok 0) []
  not_flushed : (e : Refusal) (es : List CallEvent) → 1 ≤ queued → Flush (Err e) es
      → Timeout workers queued (Err e) es
  flushed_and_drained : (n freed : ℕ) (es fs : List CallEvent) → 1 ≤ queued → Flush (Ok n) es
      → DrainAll workers 0 (Ok freed) fs → Timeout workers queued (Ok freed) (es ++ fs)
