-- Allocated ranges in a row: where they end, whether they rise apart, the room between them.
use Rattle.std.specs.Prelude.{◌≡◌, ℕ, ◌+◌, ◌-◌, ◌<◌, ◌≤◌, ◌⊎◌, max, Bool, true, false, not, nat_lt, nat_le, nat_eq, ◌&&◌, List, [], ◌∷◌, length, drop, slice_index_or, slice_set, remove, if◌then◌else◌}
use Rattle.iova_range.specs.Frames.{Frames}
use Rattle.iova_range.specs.declared.limits.TheConstants.{MAX_FRAMES}
use Rattle.iova_tree.specs.declared.search.Hint.{Hint}
use Rattle.iova_tree.specs.Room.{room}

-- the frames from lo on, below end, which are a window or were inserted
pub record Span : Type 0 where
  pub lo : ℕ
  pub end : ℕ
  pub window : Bool

-- what a window adds to twice its end
abbrev pub mark_of : Bool → ℕ
mark_of true = 1
mark_of false = 0

abbrev pub range_of_span : Span → Frames
range_of_span x = record { lo = x.lo; len = x.end - x.lo }

-- the range as one of the tree
abbrev pub span_of : Frames → Bool → Span
span_of r window = record { lo = r.lo; end = r.lo + r.len; window = window }

-- the frame is one of its own
abbrev pub has_frame : ℕ → Span → Bool
has_frame frame x = nat_le x.lo frame && nat_lt frame x.end

-- it was inserted, and has one of the frames from lo on, below end
abbrev pub is_taken_between : ℕ → ℕ → Span → Bool
is_taken_between lo end x = not x.window && (nat_lt x.lo end && nat_lt lo x.end)

abbrev pub all_of : List Span → List Frames
all_of [] = []
all_of (x ∷ t) = range_of_span x ∷ all_of t

-- it is a window, or it was inserted
abbrev pub is_kind : Bool → Span → Bool
is_kind true x = x.window
is_kind false x = not x.window

abbrev pub of_kind : Bool → List Span → List Frames
of_kind kind [] = []
of_kind kind (x ∷ t) = if is_kind kind x then range_of_span x ∷ of_kind kind t else of_kind kind t

abbrev pub windows_of : List Span → List Frames
windows_of spans = of_kind true spans

abbrev pub inserted_of : List Span → List Frames
inserted_of spans = of_kind false spans

-- where the last of the ranges ends, or e where there is none
abbrev pub end_after : ℕ → List Span → ℕ
end_after e [] = e
end_after e (x ∷ t) = end_after x.end t

-- where the first of the ranges begins, or 0
abbrev pub first_lo : List Span → ℕ
first_lo [] = 0
first_lo (x ∷ t) = x.lo

-- where the first of the ranges begins, or `lo` where there is none
abbrev pub first_or : ℕ → List Span → ℕ
first_or lo [] = lo
first_or lo (x ∷ t) = x.lo

-- the ranges begin at e or above, have a frame each, and rise apart
abbrev pub IsRisingFrom : ℕ → List Span → Type 0
IsRisingFrom e [] = Unit {0}
IsRisingFrom e (x ∷ t) = (e ≤ x.lo) × (x.lo < x.end) × IsRisingFrom x.end t

-- the most room in a gap below one of the ranges and above e
abbrev pub room_after : ℕ → List Span → ℕ
room_after e [] = 0
room_after e (x ∷ t) = max (room e x.lo) (room_after x.end t)

-- the most room in a gap between two neighbours of the ranges
abbrev pub room_between : List Span → ℕ
room_between [] = 0
room_between (x ∷ t) = room_after x.end t

-- the most room between two neighbours or above them, below `lo`
abbrev pub room_below : ℕ → List Span → ℕ
room_below lo [] = 0
room_below lo (x ∷ t) = max (room_after x.end t) (room (end_after x.end t) lo)

-- where the hint says something, no gap between the ranges from its place on has more room
abbrev pub IsHinted : Hint → List Span → Type 0
IsHinted hint l = hint.above ≤ MAX_FRAMES → room_between (drop hint.at l) ≤ hint.above

-- the ranges with x in its place
abbrev pub with_span : Span → List Span → List Span
with_span x [] = x ∷ []
with_span x (y ∷ t) = if nat_lt x.lo y.lo then x ∷ y ∷ t else y ∷ with_span x t

-- the ranges without the one that begins at lo
abbrev pub without_span : ℕ → List Span → List Span
without_span lo [] = []
without_span lo (x ∷ t) = if nat_eq x.lo lo then t else x ∷ without_span lo t

-- the ranges with y in the place of the one that begins at lo
abbrev pub with_replaced : ℕ → Span → List Span → List Span
with_replaced lo y [] = []
with_replaced lo y (x ∷ t) = if nat_eq x.lo lo then y ∷ t else x ∷ with_replaced lo y t

-- all of the ranges begin above x
abbrev pub IsBefore : Span → List Span → Type 0
IsBefore x [] = Unit {0}
IsBefore x (y ∷ t) = x.lo < y.lo

-- one of the ranges begins at lo
abbrev pub Holds : ℕ → List Span → Type 0
Holds lo [] = ⊥
Holds lo (x ∷ t) = (x.lo ≡ lo) ⊎ Holds lo t

-- the range that begins at lo stands at place n
pub record StandsHere (lo : ℕ) (l : List Span) (n : ℕ) : Type 0 where
  pub within : n < length l
  pub begins : (x : Span) → (slice_index_or l n x).lo ≡ lo
  pub without : remove l n ≡ without_span lo l
  pub replaced : (x : Span) → slice_set l n x ≡ with_replaced lo x l
  pub again : (x : Span) → l ≡ with_span (slice_index_or l n x) (without_span lo l)
