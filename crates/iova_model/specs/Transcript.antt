-- Whole runs, and the flush law.
use Rattle.std.specs.Prelude.{ℕ, ◌≡◌, ◌<◌, ◌≤◌, Bool, true, false, List, [], ◌∷◌, ◌++◌, length, map, take, Some, slice_get}
use Rattle.std.specs.List.{list_any}
use Rattle.iova_range.specs.Frames.{covers}
use Rattle.iova_model.specs.declared.step.Step.{Step}
use Rattle.iova_model.specs.declared.step.Step.TheVariants as step
use Rattle.iova_model.specs.declared.step.Reply.{Reply}
use Rattle.iova_model.specs.declared.step.Reply.TheVariants as reply
use Rattle.iova_model.specs.declared.step.Point.{Point}
use Rattle.iova_model.specs.declared.entry.Entry.{Entry}
use Rattle.iova_model.specs.Flushes.{entry_range}
use Rattle.iova_model.specs.State.{State}
use Rattle.iova_model.specs.Next.{next}

-- an event, which is a step with the growth in it that was refused, and its reply
pub record Pair : Type 0 where
  pub step : Step
  pub point : Point
  pub reply : Reply

-- each reply is the step's, in the state that the pairs before it leave
abbrev pub IsTranscript : State → List Pair → Type 0
IsTranscript s [] = Unit {0}
IsTranscript s (p ∷ ps) =
    (p.reply ≡ (next s p.step p.point).reply) × IsTranscript (next s p.step p.point).state ps

-- the state that the pairs leave
abbrev pub after : State → List Pair → State
after s [] = s
after s (p ∷ ps) = after (next s p.step p.point).state ps

-- From old to new these steps were taken, at some memory points, and their replies appended.
pub record IsRun (old new : State) (taken : List Step) (before now : List Reply) : Type 0 where
  pub pairs : List Pair
  pub transcript : IsTranscript old pairs
  pub state : after old pairs ≡ new
  pub steps : map (λ p. p.step) pairs ≡ taken
  pub replies : before ++ map (λ p. p.reply) pairs ≡ now

-- by this reply the frame was put into a ring, whichever step it answers
abbrev pub Unmaps : ℕ → Reply → Type 0
Unmaps frame (reply.Queued r) = covers frame r ≡ true
Unmaps frame (reply.Reserved r) = ⊥
Unmaps frame (reply.Opened id) = ⊥
Unmaps frame (reply.Given r) = ⊥
Unmaps frame (reply.Begun number) = ⊥
Unmaps frame reply.Ended = ⊥
Unmaps frame (reply.Drained n) = ⊥
Unmaps frame (reply.Marked left) = ⊥
Unmaps frame reply.Empty = ⊥
Unmaps frame (reply.Refused r) = ⊥

-- by pair i the frame was put into a ring
pub record IsUnmappedAt (ps : List Pair) (i frame : ℕ) : Type 0 where
  pub pair : Pair
  pub is : slice_get ps i ≡ Some pair
  pub unmaps : Unmaps frame pair.reply

-- a flush began at pair b and ended well at pair d
pub record IsWholeFlush (ps : List Pair) (b d : ℕ) : Type 0 where
  pub number : ℕ
  pub begin_point : Point
  pub end_point : Point
  pub begins : slice_get ps b ≡ Some (record
      { step = step.Begin; point = begin_point; reply = reply.Begun number })
  pub ends : slice_get ps d ≡ Some (record
      { step = step.End number true; point = end_point; reply = reply.Ended })
  pub order : b < d

-- a ring has the frame
abbrev pub is_ringed : ℕ → List (List Entry) → Bool
is_ringed frame rings = list_any (λ ring. list_any (λ e. covers frame (entry_range e)) ring) rings

-- a whole flush began after pair i, and ended well before pair n
pub record IsFlushedBetween (ps : List Pair) (i n : ℕ) : Type 0 where
  pub began : ℕ
  pub done : ℕ
  pub whole : IsWholeFlush ps began done
  pub later : i < began
  pub earlier : done < n

-- A frame that was unmapped has left the rings only where a flush that began afterwards has ended
-- well.
abbrev pub FlushLaw : State → List Pair → Type 0
FlushLaw s ps =
    (n i frame : ℕ) → n ≤ length ps → i < n → IsUnmappedAt ps i frame
    → is_ringed frame (after s (take n ps)).rings ≡ false → IsFlushedBetween ps i n
