-- What a release runs, hold by hold.
use Rattle.std.specs.Prelude.{ℕ, ◌≡◌, ◌<◌, ◌≤◌, ◌⊎◌, Bool, true, false, List, [], ◌∷◌, ◌++◌, Option, Some, None, Result, Ok, Err}
use Rattle.iova_range.specs.declared.refusal.Refusal.{Refusal}
use Rattle.iova_range.specs.declared.refusal.Refusal.TheVariants as refusal
use Rattle.iova_range.specs.Frames.{Frames}
use Rattle.iova_model.specs.declared.step.Step.{Step}
use Rattle.iova_model.specs.declared.step.Step.TheVariants as step
use Rattle.iova_model.specs.declared.step.Reply.{Reply}
use Rattle.iova_model.specs.declared.step.Reply.TheVariants as reply
use Rattle.iova_model.specs.declared.totals.Totals.{Totals}
use Rattle.iova_model.specs.State.{State}
use Rattle.iova_sink.specs.Calls.{Call}
use Rattle.iova_keep.specs.declared.unmapped.Unmapped.{Unmapped}
use Rattle.iova_keep.specs.declared.unmapped.Unmapped.TheVariants as unmapped
use Rattle.iova_keep.specs.Views.{SeatState, begun_of}
use Rattle.iova_keep.specs.Events.{CallEvent, Ran, Invalidated, Does, Unmapping, sink_calls}

-- a range was queued in a strict domain
abbrev pub QueuedStrictly : Bool → Reply → Type 0
QueuedStrictly strict r = (strict ≡ true) × ((q : Frames) × (r ≡ reply.Queued q))

-- the first hold goes on to a flush: the ring is full, or a range was queued in a strict domain
abbrev pub FlushFollows : Bool → Reply → Type 0
FlushFollows strict r = (r ≡ reply.Refused refusal.RingFull) ⊎ QueuedStrictly strict r

-- The first hold of a release: an unmap, and where a flush is to follow, that one begins.
pub data ReleaseFirst (strict : Bool) (st : Step) (held : Totals) : Option Reply → Option Reply
    → List CallEvent
    → Type 0 where
  no_flush : (r : Reply) (es : List CallEvent) → (FlushFollows strict r → ⊥)
      → Unmapping st held r es
      → ReleaseFirst strict st held (Some r) None es
  flush : (r b : Reply) (es : List CallEvent) → FlushFollows strict r → Unmapping st held r es
      → ReleaseFirst strict st held (Some r) (Some b) (es ++ Ran step.Begin b ∷ [])

-- The hold after a ring that was full: the flush ends, and the unmap is tried again; where that
-- queued a range in a strict domain, a second flush begins.
pub data ReleaseAgain (strict : Bool) (st : Step) (held : Totals) (n : ℕ) (ok : Bool) : Option Reply
    → Option Reply
    → List CallEvent → Type 0 where
  no_flush_again : (end r : Reply) (es : List CallEvent) → (QueuedStrictly strict r → ⊥)
      → Unmapping st held r es
      → ReleaseAgain strict st held n ok (Some r) None (Ran (step.End n ok) end ∷ es)
  flush_again : (end r b : Reply) (es : List CallEvent) → QueuedStrictly strict r
      → Unmapping st held r es
      → ReleaseAgain strict st held n ok (Some r) (Some b)
      (Ran (step.End n ok) end ∷ (es ++ Ran step.Begin b ∷ []))

-- The last hold, of worker w: the flush that began after the range ends, and the worker's ring is
-- drained. It answers whether the finish count that this leaves, which a drain doesn't move, is at
-- least the flush's number.
pub data ReleaseLast (w n : ℕ) (ok : Bool) (finish : ℕ) : Bool → List CallEvent → Type 0 where
  reached : (end : Reply) (m : ℕ) → n ≤ finish
      → ReleaseLast w n ok finish true (Ran (step.End n ok) end ∷ Ran (step.Drain w w)
      (reply.Drained m) ∷ [])
  not_reached : (end : Reply) (m : ℕ) → finish < n
      → ReleaseLast w n ok finish false
      (Ran (step.End n ok) end ∷ Ran (step.Drain w w) (reply.Drained m) ∷ [])

-- What follows a range that was queued: nothing where no flush began; else the sink is called
-- for that flush, and the last hold.
pub data AfterQueued (w finish : ℕ) (q : Frames) : Option ℕ → Unmapped → List CallEvent
    → Type 0 where
  stays : AfterQueued w finish q None (unmapped.Queued q) []
  freed : (n : ℕ) (ok : Bool) (es : List CallEvent) → ReleaseLast w n ok finish true es
      → AfterQueued w finish q (Some n) (unmapped.Freed q) (Invalidated n ok ∷ es)
  not_freed : (n : ℕ) (ok : Bool) (es : List CallEvent) → ReleaseLast w n ok finish false es
      → AfterQueued w finish q (Some n) (unmapped.Queued q) (Invalidated n ok ∷ es)

-- What follows a ring that was full, from the call of the sink for flush n on: the second hold, and
-- what follows that.
pub data ReleaseRest (strict : Bool) (st : Step) (held : Totals) (w finish n : ℕ) : Result Unmapped
    Refusal → List CallEvent
    → Type 0 where
  refused_again : (ok : Bool) (e : Refusal) (b : Option Reply) (es : List CallEvent)
      → ReleaseAgain strict st held n ok (Some (reply.Refused e)) b es
      → ReleaseRest strict st held w finish n (Err e) (Invalidated n ok ∷ es)
  queued_again : (ok : Bool) (q : Frames) (b : Option Reply) (u : Unmapped) (es fs : List CallEvent)
      → ReleaseAgain strict st held n ok (Some (reply.Queued q)) b es
      → AfterQueued w finish q (begun_of b) u fs
      → ReleaseRest strict st held w finish n (Ok u) (Invalidated n ok ∷ (es ++ fs))

-- A release at a seat of worker w, which leaves this finish count.
pub data Release (strict : Bool) (st : Step) (held : Totals) (w finish : ℕ) : Result Unmapped
    Refusal → List CallEvent
    → Type 0 where
  refused_first : (e : Refusal) (b : Option Reply) (es : List CallEvent)
      → ReleaseFirst strict st held (Some (reply.Refused e)) b es
      → begun_of b ≡ None → Release strict st held w finish (Err e) es
  queued_first : (q : Frames) (b : Option Reply) (u : Unmapped) (es fs : List CallEvent)
      → ReleaseFirst strict st held (Some (reply.Queued q)) b es
      → AfterQueued w finish q (begun_of b) u fs → Release strict st held w finish (Ok u) (es ++ fs)
  ring_was_full : (n : ℕ) (b : Option Reply) (result : Result Unmapped Refusal)
      (es fs : List CallEvent)
      → ReleaseFirst strict st held (Some (reply.Refused refusal.RingFull)) b es
      → begun_of b ≡ Some n
      → ReleaseRest strict st held w finish n result fs
      → Release strict st held w finish result (es ++ fs)

-- The single holds, from s to t.

abbrev pub ReleasesFirst : Bool → SeatState → ℕ → ℕ → Option Reply → Option Reply → State → State
    → Type 0
ReleasesFirst strict seat id lo o b s t =
    Does (ReleaseFirst strict (step.Unmap seat.worker id lo) seat.held o b) s t

abbrev pub ReleasesAgain : Bool → SeatState → ℕ → ℕ → ℕ → Bool → Option Reply → Option Reply → State
    → State → Type 0
ReleasesAgain strict seat id lo n ok o b s t =
    Does (ReleaseAgain strict (step.Unmap seat.worker id lo) seat.held n ok o b) s t

abbrev pub ReleasesLast : SeatState → ℕ → Bool → Bool → State → State → Type 0
ReleasesLast seat n ok result s t = Does (ReleaseLast seat.worker n ok t.flushes.finish result) s t

-- Several holds, with the calls of the sink between them: the domain's number, and the sink's calls
-- before and after.

abbrev pub FollowsWith : ℕ → ℕ → Frames → Option ℕ → Unmapped → ℕ → List Call → List Call
    → List CallEvent → Type 0
FollowsWith w finish q o u number before now es =
    AfterQueued w finish q o u es × (now ≡ before ++ sink_calls number es)

abbrev pub DoesFollow : ℕ → Frames → Option ℕ → Unmapped → ℕ → List Call → List Call → State → State
    → Type 0
DoesFollow w q o u number before now s t =
    Does (FollowsWith w t.flushes.finish q o u number before now) s t

abbrev pub ReleaseRestWith : Bool → SeatState → ℕ → ℕ → ℕ → ℕ → Result Unmapped Refusal → ℕ
    → List Call → List Call
    → List CallEvent → Type 0
ReleaseRestWith strict seat id lo finish n result number before now es =
    ReleaseRest strict (step.Unmap seat.worker id lo) seat.held seat.worker finish n result es
    × (now ≡ before ++ sink_calls number es)

abbrev pub DoesReleaseRest : Bool → SeatState → ℕ → ℕ → ℕ → Result Unmapped Refusal → ℕ → List Call
    → List Call → State
    → State → Type 0
DoesReleaseRest strict seat id lo n result number before now s t =
    Does (ReleaseRestWith strict seat id lo t.flushes.finish n result number before now) s t

abbrev pub ReleasesWith : Bool → SeatState → ℕ → ℕ → ℕ → Result Unmapped Refusal → ℕ → List Call
    → List Call
    → List CallEvent → Type 0
ReleasesWith strict seat id lo finish result number before now es =
    Release strict (step.Unmap seat.worker id lo) seat.held seat.worker finish result es
    × (now ≡ before ++ sink_calls number es)

abbrev pub DoesRelease : Bool → SeatState → ℕ → ℕ → Result Unmapped Refusal → ℕ → List Call
    → List Call → State → State
    → Type 0
DoesRelease strict seat id lo result number before now s t =
    Does (ReleasesWith strict seat id lo t.flushes.finish result number before now) s t
