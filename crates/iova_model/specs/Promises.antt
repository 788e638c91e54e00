-- The promises of the product: what holds of every list of steps that are run from a valid state,
-- and of the state that they leave. Whatever runs steps states these.
use Rattle.std.specs.Prelude.{ℕ, ◌≡◌, ◌<◌, ◌≤◌, ◌+◌, ◌%◌, ◌⊎◌, List, [], ◌∷◌, ◌++◌, take, Some, None, slice_get}
use Rattle.iova_range.specs.Frames.{Frames}
use Rattle.iova_range.specs.Sizes.{align_of}
use Rattle.iova_model.specs.declared.step.Step.{Step}
use Rattle.iova_model.specs.declared.step.Reply.{Reply}
use Rattle.iova_model.specs.declared.step.Reply.TheVariants as reply
use Rattle.iova_model.specs.Clients.{Client, client_with, totals}
use Rattle.iova_model.specs.State.{State, Holder, holders, owners, place_of}
use Rattle.iova_model.specs.Valid.{IsValid}
use Rattle.iova_model.specs.Next.{next}
use Rattle.iova_model.specs.Transcript.{Pair, IsTranscript, after, IsRun, IsUnmappedAt, IsFlushedBetween, FlushLaw}
use Rattle.iova_model.specs.Effects.{IsOnlyAt, CountsAddUp, shares_below, Conserves, IsGivenAt, Marks, IsClosing, IsGone, client_named, unknown_refusal}

-- An unmapped frame is given again only after a flush that began after its unmap has ended well.
abbrev pub ReuseLaw : List Pair → Type 0
ReuseLaw ps =
    (i n frame : ℕ) → i < n → IsUnmappedAt ps i frame → IsGivenAt ps n frame
    → IsFlushedBetween ps i n

-- From the step that marks a client closing on, nothing but its closing takes its holdings, and
-- takes them lowest first.
abbrev pub ClosingLaw : State → List Pair → Type 0
ClosingLaw s ps =
    (before : List Pair) (p : Pair) (later : List Pair) (id : ℕ) (c : Client)
    → ps ≡ before ++ p ∷ later
    → client_with id (after s before).clients ≡ Some c → Marks id p.step p.reply
    → IsClosing id c.holdings (p ∷ later) (after s ps)
    ⊎ IsGone id c.holdings (p ∷ later) (after s ps)

-- A client whose serial was given and that is gone after some of the pairs stays gone, and each
-- later step that names it is refused.
abbrev pub GoneLaw : State → List Pair → Type 0
GoneLaw s ps =
    (before later : List Pair) (id : ℕ) → ps ≡ before ++ later → id ≤ (after s before).serial
    → client_with id (after s before).clients ≡ None
    → (client_with id (after s ps).clients ≡ None)
    × ((i : ℕ) (p : Pair) → slice_get later i ≡ Some p → client_named p.step ≡ Some id
    → p.reply ≡ reply.Refused (unknown_refusal (after s before) p.step))

-- No step loses a frame, and none makes one.
abbrev pub ConservationLaw : State → List Pair → Type 0
ConservationLaw s ps =
    (n : ℕ) (p : Pair) → slice_get ps n ≡ Some p
    → Conserves (after s (take n ps)) p.step (next (after s (take n ps)) p.step p.point)

-- Each frame is in exactly one place.
abbrev pub OnePlace : State → Type 0
OnePlace t = (frame : ℕ) → IsOnlyAt t frame (place_of t frame)

-- What somebody has lies inside the bounds, and so is not frame 0.
pub record IsWithin (s : State) (r : Frames) : Type 0 where
  pub some : 1 ≤ r.len
  pub above_zero : 1 ≤ r.lo
  pub start : s.bounds.start ≤ r.lo
  pub last : r.lo + r.len ≤ s.bounds.last + 1

abbrev pub HoldersAreWithin : State → Type 0
HoldersAreWithin s = (i : ℕ) (h : Holder) → slice_get (holders s) i ≡ Some h → IsWithin s h.range

-- What somebody has, unless it is a window, begins at a multiple of the least power of two that
-- isn't below its length.
abbrev pub OwnersAreAligned : State → Type 0
OwnersAreAligned s =
    (i : ℕ) (h : Holder) → slice_get (owners s) i ≡ Some h → h.range.lo % align_of h.range.len ≡ 0

-- The steps from s on, with their replies, keep the laws, and each frame of the state that they
-- leave is in one place; the counts add up to the bounds, and the totals are the sums of the shares
-- of all workers.
pub record AreKept (s : State) (ps : List Pair) : Type 0 where
  pub flushed : FlushLaw s ps
  pub reuse : ReuseLaw ps
  pub closing : ClosingLaw s ps
  pub gone : GoneLaw s ps
  pub conserved : ConservationLaw s ps
  pub valid : IsValid (after s ps)
  pub one_place : OnePlace (after s ps)
  pub within : HoldersAreWithin (after s ps)
  pub aligned : OwnersAreAligned (after s ps)
  pub counted : CountsAddUp (after s ps)
  pub totals : totals (after s ps).clients ≡ shares_below (after s ps).workers (after s ps).clients

-- From old to new these steps were taken, at some memory points, and their replies appended; and
-- the promises are kept.
pub record Runs (old new : State) (taken : List Step) (before now : List Reply) : Type 0 where
  pub run : IsRun old new taken before now
  pub kept : AreKept old run.pairs

-- Every transcript from a valid state keeps them.
abbrev pub PromisesAreKept : Type 0
PromisesAreKept = (s : State) (ps : List Pair) → IsValid s → IsTranscript s ps → AreKept s ps
