-- Windows of frames: ranges that rise and have no frame in common.
use Rattle.std.specs.Prelude.{ℕ, ◌+◌, ◌-◌, ◌≤◌, ◌&&◌, Bool, nat_lt, nat_le, List, [], ◌∷◌, ◌++◌, Option, Some, None, filter, fold, length, max, min, if◌then◌else◌}
use Rattle.std.specs.List.{list_any}
use Rattle.iova_range.specs.Frames.{Frames, covers, meets, join}
use Rattle.iova_range.specs.declared.limits.TheConstants.{MAX_WINDOWS}

-- each has a frame at least, and begins no sooner than where the one before it ends
abbrev pub RiseFrom : ℕ → List Frames → Type 0
RiseFrom end [] = Unit {0}
RiseFrom end (w ∷ ws) = (end ≤ w.lo) × (1 ≤ w.len) × RiseFrom (w.lo + w.len) ws

-- no window has frame 0, which is never handed out
pub record AreWindows (ws : List Frames) : Type 0 where
  pub rising : RiseFrom 1 ws
  pub room : length ws ≤ MAX_WINDOWS

-- all frames of the one are below those of the other
abbrev pub lies_below : Frames → Frames → Bool
lies_below a b = nat_le (a.lo + a.len) b.lo

-- a range and all windows that have a frame in common with it, joined
abbrev pub union : Frames → List Frames → Frames
union r ws = fold join r (filter (meets r) ws)

-- the union in place of the windows that it is made of, between those below the range and those
-- above it
abbrev pub windows_with : Frames → List Frames → List Frames
windows_with r ws = filter (λ w. lies_below w r) ws ++ union r ws ∷ filter (λ w. lies_below r w) ws

-- a window has the frame
abbrev pub is_covered : ℕ → List Frames → Bool
is_covered frame ws = list_any (covers frame) ws

-- the frame is one of these, with the first and the last
abbrev pub is_between : ℕ → ℕ → ℕ → Bool
is_between first last frame = nat_le first frame && nat_le frame last

-- the part of a range from the one frame to the other; none where it has no frame there
abbrev pub part : Frames → ℕ → ℕ → Option Frames
part r first last =
    let lo = max r.lo first in
    let end = min (r.lo + r.len) (last + 1) in
    if nat_lt lo end then Some (record { lo = lo; len = end - lo }) else None
