-- The highest place that a request finds between ranges.
use Rattle.std.specs.Prelude.{◌≡◌, ℕ, ◌+◌, ◌-◌, ◌*◌, ◌/◌, ◌^◌, ◌<◌, ◌≤◌, min, List, [], ◌∷◌, nat_lt, false, Option, Some, None, if◌then◌else◌}
use Rattle.iova_range.specs.declared.limits.TheConstants.{MAX_FRAMES}
use Rattle.iova_range.specs.Sizes.{align_of}
use Rattle.iova_tree.specs.Spans.{Span, end_after}
use Rattle.iova_tree.specs.declared.search.Wanted.{Wanted}
use Rattle.iova_tree.specs.declared.search.FoundPlace.{FoundPlace}
use Rattle.iova_tree.specs.declared.search.FoundPlace.TheVariants.{Nowhere, At, Taken}

-- a request of some frames, at most those that `room` speaks of, with the alignment of its size,
-- and a cap that a range may end at
pub record IsWanted (w : Wanted) : Type 0 where
  pub some : 1 ≤ w.size
  pub bounded : w.size ≤ MAX_FRAMES
  pub align : w.align ≡ align_of w.size
  pub small : w.cap < 2 ^ 63

-- the first that is there
abbrev pub higher : Option ℕ → Option ℕ → Option ℕ
higher (Some s) o = Some s
higher None o = o

-- the greatest multiple of the alignment from which the frames end by until, if it is not below
-- from
abbrev pub place : ℕ → ℕ → Wanted → Option ℕ
place from until w =
    if nat_lt until w.size then None else
    (let s = (until - w.size) / w.align * w.align in if nat_lt s from then None else Some s)

-- the highest place in a gap below one of the ranges and above e
abbrev pub highest_after : Wanted → ℕ → List Span → Option ℕ
highest_after w e [] = None
highest_after w e (x ∷ t) = higher (highest_after w x.end t) (place e (min x.lo w.cap) w)

-- the highest place at or above start that no range meets
abbrev pub highest_free : Wanted → ℕ → List Span → Option ℕ
highest_free w start l = higher (place (end_after start l) w.cap w) (highest_after w start l)

-- the range of the request that begins there
abbrev pub taken : Wanted → ℕ → Span
taken w lo = record { lo = lo; end = lo + w.size; window = false }

-- the result of a search that takes what it finds where there is room: nothing fits, or this is the
-- highest place, which was taken or wasn't
abbrev pub IsFound : Option ℕ → Type 0 → (ℕ → Type 0) → FoundPlace → Type 0
IsFound highest is_same is_taken Nowhere = (highest ≡ None) × is_same
IsFound highest is_same is_taken (At lo) = (highest ≡ Some lo) × is_same
IsFound highest is_same is_taken (Taken lo) = (highest ≡ Some lo) × is_taken lo
