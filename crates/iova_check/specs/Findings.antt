-- The findings of a line.
use Rattle.std.specs.Prelude.{ℕ, zero, suc, ◌≡◌, ◌≢◌, ◌↔◌, ◌+◌, ◌-◌, ◌≤◌, ◌<◌, ◌==◌, ◌||◌, Bool, true, false, not, nat_lt, List, [], ◌∷◌, Option, Some, None, is_some, if◌then◌else◌}
use Rattle.std.specs.List.{list_any}
use Rattle.iova_range.specs.Frames.{Frames, covers}
use Rattle.iova_check.specs.declared.event.Event.{Event}
use Rattle.iova_check.specs.declared.event.Event.TheVariants as event
use Rattle.iova_check.specs.declared.stage.Stage.{Stage}
use Rattle.iova_check.specs.declared.stage.Stage.TheVariants as stage
use Rattle.iova_check.specs.declared.stage.OpenFlush.{OpenFlush}
use Rattle.iova_check.specs.declared.finding.Kind.{Kind}
use Rattle.iova_check.specs.declared.finding.Kind.TheVariants as kind
use Rattle.iova_check.specs.declared.finding.Run.{Run}
use Rattle.iova_check.specs.declared.finding.Finding.{Finding}
use Rattle.iova_check.specs.declared.finding.Finding.TheVariants as finding
use Rattle.iova_check.specs.AllowedBounds.{AllowedBounds}
use Rattle.iova_check.specs.History.{next_line}
use Rattle.iova_check.specs.Promise.{IsKeptAt}

-- the line that a finding of this kind names for a frame at this stage, where it names one; None
-- where the frame is no such finding
abbrev pub since_of : Kind → Stage → Option (Option ℕ)
since_of kind.Outside s = None
since_of kind.Overlap stage.Free = None
since_of kind.Overlap (stage.Mapped since) = Some (Some since)
since_of kind.Overlap (stage.Stale since) = None
since_of kind.Reused stage.Free = None
since_of kind.Reused (stage.Mapped since) = None
since_of kind.Reused (stage.Stale since) = Some (Some since)
since_of kind.Cut s = None
since_of kind.Unmapped stage.Free = Some None
since_of kind.Unmapped (stage.Mapped since) = None
since_of kind.Unmapped (stage.Stale since) = Some None
since_of kind.Stale stage.Free = None
since_of kind.Stale (stage.Mapped since) = None
since_of kind.Stale (stage.Stale since) = Some (Some since)
since_of kind.Wild stage.Free = Some None
since_of kind.Wild (stage.Mapped since) = None
since_of kind.Wild (stage.Stale since) = None

-- The lowest of the frames from `lo` on and below `to` that has a finding, and all after it that
-- have an equal one.
pub record IsRun (tells : ℕ → Option (Option ℕ)) (lo to : ℕ) (run : Run) : Type 0 where
  pub from : lo ≤ run.lo
  pub some : 1 ≤ run.len
  pub within : run.lo + run.len ≤ to
  pub lowest : (f : ℕ) → lo ≤ f → f < run.lo → tells f ≡ None
  pub same : (f : ℕ) → run.lo ≤ f → f < run.lo + run.len → tells f ≡ Some run.since
  pub longest : run.lo + run.len < to → tells (run.lo + run.len) ≢ Some run.since

abbrev pub IsFound : (ℕ → Option (Option ℕ)) → ℕ → ℕ → Option Run → Type 0
IsFound tells lo to None = (f : ℕ) → lo ≤ f → f < to → tells f ≡ None
IsFound tells lo to (Some run) = IsRun tells lo to run

-- the finding of a frame that is out of the bounds
abbrev pub told_outside : AllowedBounds → ℕ → Option (Option ℕ)
told_outside bounds f =
    if (nat_lt f bounds.first || nat_lt bounds.last f) || list_any (covers f) bounds.windows
    then Some None else None

-- the two are mapped since one line
abbrev pub are_joined : Stage → Stage → Bool
are_joined stage.Free s = false
are_joined (stage.Stale since) s = false
are_joined (stage.Mapped since) stage.Free = false
are_joined (stage.Mapped since) (stage.Stale other) = false
are_joined (stage.Mapped since) (stage.Mapped other) = since == other

-- the frame and the one before it are mapped since one line
abbrev pub is_joined : (ℕ → Stage) → ℕ → Bool
is_joined at zero = false
is_joined at (suc f) = are_joined (at f) (at (suc f))

-- the frames up to the one before `to` that are mapped since the same line as it
pub record IsCutAbove (at : ℕ → Stage) (lo to : ℕ) (run : Run) : Type 0 where
  pub from : lo ≤ run.lo
  pub some : 1 ≤ run.len
  pub ends : run.lo + run.len ≡ to
  pub same : (f : ℕ) → run.lo ≤ f → f < to → since_of kind.Overlap (at f) ≡ Some run.since
  pub longest : lo < run.lo → since_of kind.Overlap (at (run.lo - 1)) ≢ Some run.since

abbrev pub IsCutOff : (ℕ → Stage) → ℕ → ℕ → Option Run → Type 0
IsCutOff at lo to None = ⊥
IsCutOff at lo to (Some run) = IsCutAbove at lo to run

-- The frames that are cut off from the frame before `lo`, else those that are cut off from frame
-- `to`.
pub record IsCut (at : ℕ → Stage) (lo to : ℕ) (found : Option Run) : Type 0 where
  pub below : is_joined at lo ≡ true → IsFound (λ f. since_of kind.Overlap (at f)) lo to found
  pub above : is_joined at lo ≡ false → is_joined at to ≡ true → IsCutOff at lo to found
  pub none : is_joined at lo ≡ false → is_joined at to ≡ false → found ≡ None

-- The findings of a line, in order

abbrev pub of_run : Kind → Option Run → Option Finding
of_run kind None = None
of_run kind (Some run) = Some (finding.Frames kind run)

-- the findings of a line that maps these frames
pub record IsMapTold (bounds : AllowedBounds) (at : ℕ → Stage) (r : Frames)
    (fs : List (Option Finding)) : Type 0 where
  pub outside : Option Run
  pub overlap : Option Run
  pub reused : Option Run
  pub is_outside : IsFound (told_outside bounds) r.lo (r.lo + r.len) outside
  pub is_overlap : IsFound (λ f. since_of kind.Overlap (at f)) r.lo (r.lo + r.len) overlap
  pub is_reused : IsFound (λ f. since_of kind.Reused (at f)) r.lo (r.lo + r.len) reused
  pub are : fs ≡ of_run kind.Outside outside ∷ of_run kind.Overlap overlap ∷ of_run kind.Reused
      reused ∷ []

-- the findings of a line that unmaps these frames
pub record IsUnmapTold (bounds : AllowedBounds) (at : ℕ → Stage) (r : Frames)
    (fs : List (Option Finding)) : Type 0 where
  pub outside : Option Run
  pub cut : Option Run
  pub unmapped : Option Run
  pub is_outside : IsFound (told_outside bounds) r.lo (r.lo + r.len) outside
  pub is_cut : IsCut at r.lo (r.lo + r.len) cut
  pub is_unmapped : IsFound (λ f. since_of kind.Unmapped (at f)) r.lo (r.lo + r.len) unmapped
  pub are : fs ≡ of_run kind.Outside outside ∷ of_run kind.Cut cut ∷ of_run kind.Unmapped
      unmapped ∷ []

-- the findings of a line at which a device reached these frames
pub record IsUseTold (bounds : AllowedBounds) (at : ℕ → Stage) (r : Frames)
    (fs : List (Option Finding)) : Type 0 where
  pub outside : Option Run
  pub stale : Option Run
  pub wild : Option Run
  pub is_outside : IsFound (told_outside bounds) r.lo (r.lo + r.len) outside
  pub is_stale : IsFound (λ f. since_of kind.Stale (at f)) r.lo (r.lo + r.len) stale
  pub is_wild : IsFound (λ f. since_of kind.Wild (at f)) r.lo (r.lo + r.len) wild
  pub are : fs ≡ of_run kind.Outside outside ∷ of_run kind.Stale stale ∷ of_run kind.Wild wild ∷ []

-- the findings of a line that begins or ends a flush, which may be out of order
abbrev pub flush_told : ℕ → Bool → List (Option Finding)
flush_told number odd = (if odd then Some (finding.Flush number) else None) ∷ None ∷ None ∷ []

-- the findings of a line that says `e`, where the frames are at these stages and these flushes in
-- flight before it
abbrev pub AreFindings : AllowedBounds → (ℕ → Stage) → (ℕ → Option OpenFlush) → Event
    → List (Option Finding) → Type 0
AreFindings bounds at flights (event.Map r) fs = IsMapTold bounds at r fs
AreFindings bounds at flights (event.Unmap r) fs = IsUnmapTold bounds at r fs
AreFindings bounds at flights (event.Use r) fs = IsUseTold bounds at r fs
AreFindings bounds at flights (event.Begin number range) fs =
    fs ≡ flush_told number (is_some (flights number))
AreFindings bounds at flights (event.End number ok) fs =
    fs ≡ flush_told number (not (is_some (flights number)))
AreFindings bounds at flights (event.Flush range) fs = fs ≡ None ∷ None ∷ None ∷ []
AreFindings bounds at flights (event.Other what) fs = fs ≡ None ∷ None ∷ None ∷ []

-- The promise

-- a finding of this kind is of a frame that a device might still reach
abbrev pub is_reuse_of : Kind → Bool
is_reuse_of kind.Outside = false
is_reuse_of kind.Overlap = true
is_reuse_of kind.Reused = true
is_reuse_of kind.Cut = false
is_reuse_of kind.Unmapped = false
is_reuse_of kind.Stale = false
is_reuse_of kind.Wild = false

abbrev pub is_reuse : Option Finding → Bool
is_reuse None = false
is_reuse (Some (finding.Frames kind run)) = is_reuse_of kind
is_reuse (Some (finding.Flush number)) = false

-- At the line after these, which maps these frames, the promise is kept for each of them.
abbrev pub IsKeptNext : List Event → Frames → Type 0
IsKeptNext past r = (f : ℕ) → covers f r ≡ true → IsKeptAt (event.Map r ∷ past) f (next_line past)

-- Of a line that maps frames none of its findings is of reuse exactly where the promise is kept at
-- it.
abbrev pub TellsBreaks : List Event → Event → List (Option Finding) → Type 0
TellsBreaks past (event.Map r) fs = (list_any is_reuse fs ≡ false) ↔ IsKeptNext past r
TellsBreaks past (event.Unmap r) fs = Unit {0}
TellsBreaks past (event.Use r) fs = Unit {0}
TellsBreaks past (event.Begin number range) fs = Unit {0}
TellsBreaks past (event.End number ok) fs = Unit {0}
TellsBreaks past (event.Flush range) fs = Unit {0}
TellsBreaks past (event.Other what) fs = Unit {0}
