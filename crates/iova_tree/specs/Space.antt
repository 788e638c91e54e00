-- The ranges of a tree.
use Rattle.std.specs.Prelude.{ℕ, ◌≡◌, ◌+◌, ◌≤◌, true, false, not, List, [], ◌∷◌, ◌++◌, length, filter, Option, Some, None}
use Rattle.std.specs.List.{AllByRecursion, list_any}
use Rattle.iova_range.specs.declared.limits.TheConstants.{MAX_WINDOWS}
use Rattle.iova_range.specs.declared.refusal.Refusal.{Refusal}
use Rattle.iova_range.specs.Frames.{Frames, meets}
use Rattle.iova_range.specs.Bounds.{Extent, IsExtent}
use Rattle.iova_model.specs.Fit.{is_clear, is_covered}
use Rattle.iova_model.specs.Next.{first_refusal, from_to, windows_with, window_tests}
use Rattle.iova_tree.specs.Spans.{Span, IsRisingFrom, end_after, inserted_of, windows_of, with_span, span_of}

-- What a `Tree` is seen as: the bounds; the ranges that were inserted; the windows. Both rise by
-- first frame.
pub record Space : Type 0 where
  pub bounds : Extent
  pub inserted : List Frames
  pub windows : List Frames

-- all that is allocated
abbrev pub ranges_of : Space → List Frames
ranges_of s = s.windows ++ s.inserted

-- the ranges have a frame each and rise apart, from `from` on and below `until`
abbrev pub RiseApart : ℕ → List Frames → ℕ → Type 0
RiseApart from [] until = from ≤ until
RiseApart from (r ∷ rs) until = (from ≤ r.lo) × (1 ≤ r.len) × RiseApart (r.lo + r.len) rs until

-- the range has a frame and lies inside the bounds
pub record IsInside (bounds : Extent) (r : Frames) : Type 0 where
  pub some : 1 ≤ r.len
  pub start : bounds.start ≤ r.lo
  pub last : r.lo + r.len ≤ bounds.last + 1

-- the frame is inside the bounds and in no allocated range
abbrev pub IsFree : ℕ → Space → Type 0
IsFree frame s =
    (s.bounds.start ≤ frame) × (frame ≤ s.bounds.last) × (is_covered frame (ranges_of s) ≡ false)

-- what each tree keeps: no two of the ranges have a frame in common
pub record IsSpace (s : Space) : Type 0 where
  pub bounds : IsExtent s.bounds
  pub inserted : RiseApart s.bounds.start s.inserted (s.bounds.last + 1)
  pub windows : RiseApart s.bounds.start s.windows (s.bounds.last + 1)
  pub few : length s.windows ≤ MAX_WINDOWS
  pub apart : AllByRecursion (λ w. is_clear w s.inserted ≡ true) s.windows

-- the ranges rise apart, from `from` on and below `until`
abbrev pub LieWithin : ℕ → List Span → ℕ → Type 0
LieWithin from spans until = IsRisingFrom from spans × (end_after from spans ≤ until)

-- what a tree's fields keep: all ranges lie in the bounds, apart, and the list of windows has those
-- that are windows
pub record IsTreeKept (b : Extent) (spans : List Span) (ws : List Frames) : Type 0 where
  pub bounds : IsExtent b
  pub within : LieWithin b.start spans (b.last + 1)
  pub windows : ws ≡ windows_of spans
  pub few : length ws ≤ MAX_WINDOWS

-- what these fields are seen as
abbrev pub space_of : Extent → List Span → List Frames → Space
space_of bounds spans windows =
    record { bounds = bounds; inserted = inserted_of spans; windows = windows }

-- Windows.

-- the space with a window of these frames
abbrev pub with_window : Space → Frames → Space
with_window s r = record s { windows = windows_with r s.windows }

-- what the window of the frames lo to hi is refused for with ample memory, if it is
abbrev pub reserve_refusal : Space → ℕ → ℕ → Option Refusal
reserve_refusal s lo hi =
    first_refusal (window_tests s.bounds s.windows (list_any (meets (from_to lo hi)) s.inserted)
    lo hi)

-- the ranges that have no frame in common with r
abbrev pub clear_of : Frames → List Frames → List Frames
clear_of r ranges = filter (λ w. not (meets r w)) ranges

-- all frames of a are some of b
pub record IsPartOf (a b : Frames) : Type 0 where
  pub start : b.lo ≤ a.lo
  pub end : a.lo + a.len ≤ b.lo + b.len

-- what is left of the ranges `old` once windows were taken out: these windows, and the other ranges
-- as they were, where they lay
pub record IsLeftOf (old : List Span) (windows : List Frames) (rest : List Span) : Type 0 where
  pub windows_are : windows ≡ windows_of rest
  pub inserted : inserted_of rest ≡ inserted_of old
  pub within : (from until : ℕ) → LieWithin from old until → LieWithin from rest until

-- what is left once windows were taken out, but for k, which still stands among the ranges `now`
pub record IsLeftBut (k : Frames) (old : List Span) (windows : List Frames) (now : List Span)
    : Type 0 where
  pub rest : List Span
  pub left : IsLeftOf old windows rest
  pub is : now ≡ with_span (span_of k true) rest
  pub within : (from until : ℕ) → LieWithin from old until → LieWithin from now until

-- the windows were taken out, the last of them but from the list alone
abbrev pub AreTakenBut : Option Frames → List Span → List Frames → List Span → Type 0
AreTakenBut None old windows now = IsLeftOf old windows now
AreTakenBut (Some k) old windows now = IsLeftBut k old windows now
