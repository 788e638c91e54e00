-- What follows from the definitions, for every transcript from every valid state: the promises of
-- the product. Each is a statement, in the words of Effects; the crate iova_laws proves it.
use Rattle.std.specs.Prelude.{ℕ, ◌≡◌, ◌<◌, ◌≤◌, ◌+◌, ◌-◌, ◌⊎◌, Bool, true, false, List, ◌∷◌, length, Some, None, slice_get}
use Rattle.std.specs.List.{AllByRecursion}
use Rattle.iova_range.specs.declared.limits.TheConstants.{MAX_WORKERS, MAX_FLIGHTS, MAX_SERIAL}
use Rattle.iova_range.specs.declared.refusal.Refusal.{Refusal}
use Rattle.iova_range.specs.declared.refusal.Refusal.TheVariants as refusal
use Rattle.iova_range.specs.Frames.{Frames}
use Rattle.iova_range.specs.Bounds.{Extent, IsExtent}
use Rattle.iova_model.specs.declared.step.Step.{Step}
use Rattle.iova_model.specs.declared.step.Step.TheVariants as step
use Rattle.iova_model.specs.declared.step.Reply.TheVariants as reply
use Rattle.iova_model.specs.declared.step.Point.{Point}
use Rattle.iova_model.specs.declared.step.Point.TheVariants as point
use Rattle.iova_model.specs.Fit.{IsBest, best}
use Rattle.iova_model.specs.Flushes.{Flushes, flushes_from, with_flight, is_in_flight, after_end, AreSound, NumbersRise}
use Rattle.iova_model.specs.Clients.{Client, client_with, totals}
use Rattle.iova_model.specs.State.{State, new_domain, place_of}
use Rattle.iova_model.specs.Valid.{IsValid}
use Rattle.iova_model.specs.Next.{next}
use Rattle.iova_model.specs.Transcript.{Pair, IsTranscript, after, IsUnmappedAt, IsFlushedBetween, FlushLaw}
use Rattle.iova_model.specs.Effects.{IsOnlyAt, CountsAddUp, Conserves, shares_below, MovesLedgers, IsGivenAt, Marks, IsClosing, IsGone, client_named, unknown_refusal, AnswersRequest, takes_memory, RefusalLeaves, IsReplyTo, ended_well, to_queue, held_by}

-- 1. Validity is kept.

abbrev pub NewDomainsAreValid : Type 0
NewDomainsAreValid =
    (bounds : Extent) (workers : ℕ) → IsExtent bounds → 1 ≤ workers → workers ≤ MAX_WORKERS
    → IsValid (new_domain bounds workers)

abbrev pub StepsKeepValidity : Type 0
StepsKeepValidity = (s : State) (st : Step) (m : Point) → IsValid s → IsValid (next s st m).state

abbrev pub TranscriptsKeepValidity : Type 0
TranscriptsKeepValidity = (s : State) (ps : List Pair) → IsValid s → IsValid (after s ps)

-- 2. One place. That no frame is in two holders is part of what is valid.

abbrev pub EachFrameIsInOnePlace : Type 0
EachFrameIsInOnePlace = (s : State) (frame : ℕ) → IsValid s → IsOnlyAt s frame (place_of s frame)

abbrev pub PlacesAddUp : Type 0
PlacesAddUp = (s : State) → IsValid s → CountsAddUp s

-- 3. Conservation: no frame is lost, none is made.

abbrev pub StepsConserve : Type 0
StepsConserve = (s : State) (st : Step) (m : Point) → IsValid s → Conserves s st (next s st m)

-- 4. Totals.

abbrev pub TotalsAreShares : Type 0
TotalsAreShares = (s : State) → IsValid s → totals s.clients ≡ shares_below s.workers s.clients

abbrev pub StepsMoveLedgers : Type 0
StepsMoveLedgers = (s : State) (st : Step) (m : Point) → IsValid s → MovesLedgers s st (next s st m)

-- 5. The flush law.

abbrev pub TranscriptsAreFlushed : Type 0
TranscriptsAreFlushed = (s : State) (ps : List Pair) → IsValid s → IsTranscript s ps → FlushLaw s ps

-- Between an unmap of a frame and the next time that it is given, a flush has begun and ended well.
abbrev pub ReuseIsFlushed : Type 0
ReuseIsFlushed =
    (s : State) (ps : List Pair) (i n frame : ℕ) → IsValid s → IsTranscript s ps → i < n
    → IsUnmappedAt ps i frame → IsGivenAt ps n frame → IsFlushedBetween ps i n

-- 6. Closing.

-- From the pair that marks a client on, nothing but its closing takes its holdings, and takes them
-- lowest first.
abbrev pub ClientsCloseInOrder : Type 0
ClientsCloseInOrder =
    (s : State) (p : Pair) (ps : List Pair) (id : ℕ) (c : Client) → IsValid s
    → IsTranscript s (p ∷ ps)
    → client_with id s.clients ≡ Some c → Marks id p.step p.reply
    → IsClosing id c.holdings (p ∷ ps) (after s (p ∷ ps))
    ⊎ IsGone id c.holdings (p ∷ ps) (after s (p ∷ ps))

-- A serial that was given and whose client is gone stays so, and each step that names it is
-- refused.
abbrev pub GoneClientsStayGone : Type 0
GoneClientsStayGone =
    (s : State) (ps : List Pair) (id : ℕ) → IsValid s → IsTranscript s ps → id ≤ s.serial
    → client_with id s.clients ≡ None
    → (client_with id (after s ps).clients ≡ None)
    × ((i : ℕ) (p : Pair) → slice_get ps i ≡ Some p → client_named p.step ≡ Some id
    → p.reply ≡ reply.Refused (unknown_refusal s p.step))

-- 7. What a request is given.

abbrev pub RequestsAreAnswered : Type 0
RequestsAreAnswered =
    (s : State) (w id frames limit : ℕ) (m : Point) → IsValid s
    → AnswersRequest s frames limit (next s (step.Alloc w id frames limit) m).reply

-- the greatest place that fits, as the definitions compute it, is that: no greater one fits, and
-- none where there is none
abbrev pub BestIsGreatest : Type 0
BestIsGreatest =
    (bounds : Extent) (ranges : List Frames) (size limit : ℕ) → 1 ≤ size
    → AllByRecursion (λ (r : Frames). 1 ≤ r.len) ranges
    → IsBest bounds ranges size limit (best bounds ranges size limit)

-- 8. Refusals and memory.

-- memory is wanting only where a growth was refused
abbrev pub NoMemoryIsRefused : Type 0
NoMemoryIsRefused =
    (s : State) (st : Step) → (next s st point.Never).reply ≡ reply.Refused refusal.NoMemory → ⊥

-- no other step wants for memory
abbrev pub OtherStepsTakeNoMemory : Type 0
OtherStepsTakeNoMemory =
    (s : State) (st : Step) (m : Point) → takes_memory st ≡ false
    → (next s st m).reply ≡ reply.Refused refusal.NoMemory → ⊥

-- a refused growth is answered by NoMemory, or the step didn't reach it and is as if there had been
-- memory
abbrev pub PointsOnlyRefuse : Type 0
PointsOnlyRefuse =
    (s : State) (st : Step) (m : Point)
    → ((next s st m).reply ≡ reply.Refused refusal.NoMemory) ⊎ (next s st m ≡ next s st point.Never)

abbrev pub RefusalsKeepTheState : Type 0
RefusalsKeepTheState =
    (s : State) (st : Step) (m : Point) (r : Refusal) → (next s st m).reply ≡ reply.Refused r
    → RefusalLeaves s st r (next s st m).state

-- no step changes the bounds or the worker count
abbrev pub StepsKeepTheDomain : Type 0
StepsKeepTheDomain =
    (s : State) (st : Step) (m : Point)
    → ((next s st m).state.bounds ≡ s.bounds) × ((next s st m).state.workers ≡ s.workers)

-- 9. The numbers of the flushes.

abbrev pub NewFlushesAreSound : Type 0
NewFlushesAreSound = (n : ℕ) → n ≤ MAX_SERIAL → AreSound (flushes_from n)

abbrev pub BeginsKeepFlushesSound : Type 0
BeginsKeepFlushesSound =
    (f : Flushes) → AreSound f → length f.in_flight < MAX_FLIGHTS → f.start < MAX_SERIAL
    → AreSound (with_flight f)

abbrev pub EndsKeepFlushesSound : Type 0
EndsKeepFlushesSound =
    (f : Flushes) (n : ℕ) (ok : Bool) → AreSound f → is_in_flight n f.in_flight ≡ true
    → AreSound (after_end f n ok)

-- where the oldest flush in flight ends well, the finish count reaches its number
abbrev pub OldestFlushReaches : Type 0
OldestFlushReaches =
    (f : Flushes) (n : ℕ) → AreSound f → is_in_flight n f.in_flight ≡ true
    → NumbersRise (n - 1) f.in_flight f.start → n ≤ (after_end f n true).finish

-- 10. Which reply a step has, what it queues, and which flushes it ends well.

abbrev pub StepsAreAnsweredInKind : Type 0
StepsAreAnsweredInKind = (s : State) (st : Step) (m : Point) → IsReplyTo st (next s st m).reply

-- only the end of a flush that its sink answered well counts as a good one
abbrev pub StepsMoveGood : Type 0
StepsMoveGood =
    (s : State) (st : Step) (m : Point)
    → (next s st m).state.flushes.good ≡ s.flushes.good + ended_well st (next s st m).reply

-- what a step queues was held by the client that it names
abbrev pub QueuedWereHeld : Type 0
QueuedWereHeld =
    (s : State) (st : Step) (m : Point) (r : Frames) → (next s st m).reply ≡ reply.Queued r
    → to_queue s st ≡ Some r

-- a step changes the holdings of no client but the one that it names
abbrev pub OthersKeepTheirHoldings : Type 0
OthersKeepTheirHoldings =
    (s : State) (st : Step) (m : Point) (id : ℕ) → (client_named st ≡ Some id → ⊥)
    → held_by id (next s st m).state.clients ≡ held_by id s.clients
