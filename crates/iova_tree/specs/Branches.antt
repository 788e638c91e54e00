-- Links to nodes, and the ranges behind them.
use Rattle.std.specs.Prelude.{◌≡◌, ℕ, ◌+◌, ◌<◌, ◌≤◌, List, [], ◌∷◌, ◌++◌, length, take, drop, Option}
use Rattle.iova_range.specs.declared.limits.TheConstants.{MAX_FRAMES}
use Rattle.iova_tree.specs.declared.search.Hint.{Hint}
use Rattle.iova_tree.specs.Room.{room}
use Rattle.iova_tree.specs.Spans.{Span, end_after, first_lo, room_between, IsBefore}
use Rattle.iova_tree.specs.declared.branch.Link.{Link}
use Rattle.iova_tree.specs.declared.search.Wanted.{Wanted}
use Rattle.iova_tree.specs.Fit.{highest_after}

-- the ranges behind these links, in order
abbrev pub spans_below : {N : Type 0} → (N → List Span) → List (Link N) → List Span
spans_below spans [] = []
spans_below spans (k ∷ t) = spans k.node ++ spans_below spans t

-- a link with these numbers leads to these ranges
pub record IsLinked (l : List Span) (first end room : ℕ) : Type 0 where
  pub some : 0 < length l
  pub first_is : first ≡ first_lo l
  pub end_is : end ≡ end_after 0 l
  pub room_most : room_between l ≤ room

-- what is known at each of these links is so, and its bound is one for the gap below its ranges
-- too, where the first of these gaps begins at e
abbrev pub AreLinkedBehind : {N : Type 0} → (N → List Span) → ℕ → List (Link N) → Type 0
AreLinkedBehind spans e [] = Unit {0}
AreLinkedBehind spans e (k ∷ t) =
    IsLinked (spans k.node) k.first k.end k.room × (room e k.first ≤ k.room)
    × AreLinkedBehind spans k.end t

-- the links of a branch: the first one's bound is not for the gap below its ranges
abbrev pub AreLinked : {N : Type 0} → (N → List Span) → List (Link N) → Type 0
AreLinked spans [] = Unit {0}
AreLinked spans (k ∷ t) =
    IsLinked (spans k.node) k.first k.end k.room × AreLinkedBehind spans k.end t

-- what a link says, and the ranges behind it, are as they were
pub record IsSameLink {N : Type 0} (spans : N → List Span) (old new : Link N) : Type 0 where
  pub ranges : spans new.node ≡ spans old.node
  pub first : new.first ≡ old.first
  pub end : new.end ≡ old.end
  pub room : new.room ≡ old.room

-- the ranges were cut in two parts
pub record IsCutOff (old low high : List Span) : Type 0 where
  pub low_some : 0 < length low
  pub high_some : 0 < length high
  pub parts : old ≡ low ++ high

-- what begins at the frame comes in behind the link at this place: all ranges before it end by the
-- frame, and all behind it begin above
pub record LeadsTo {N : Type 0} (spans : N → List Span) (frame : ℕ) (links : List (Link N)) (at : ℕ)
    : Type 0 where
  pub within : at < length links
  pub low : end_after 0 (spans_below spans (take at links)) ≤ frame
  pub high : (x : Span) → x.lo ≡ frame → IsBefore x (spans_below spans (drop (at + 1) links))

-- the bound of each of these links is less
abbrev pub AreAllBelow : {N : Type 0} → ℕ → List (Link N) → Type 0
AreAllBelow size [] = Unit {0}
AreAllBelow size (k ∷ t) = (k.room < size) × AreAllBelow size t

-- no bound of these links is greater
abbrev pub AreAtMost : {N : Type 0} → ℕ → List (Link N) → Type 0
AreAtMost room [] = Unit {0}
AreAtMost room (k ∷ t) = (k.room ≤ room) × AreAtMost room t

-- where the hint says something, no bound of the links behind its place is greater
abbrev pub AreHinted : {N : Type 0} → Hint → List (Link N) → Type 0
AreHinted hint links = hint.above ≤ MAX_FRAMES → AreAtMost hint.above (drop (hint.at + 1) links)

-- from this place on: what no bound was greater than, none is greater than now
abbrev pub KeepBounds : {N : Type 0} → ℕ → List (Link N) → List (Link N) → Type 0
KeepBounds at old new =
    (n room : ℕ) → at ≤ n → AreAtMost room (drop n old) → AreAtMost room (drop n new)

-- the highest place in a gap below one of the ranges behind the link at this place, where there is
-- another before it
abbrev pub highest_behind : {N : Type 0} → (N → List Span) → Wanted → ℕ → List (Link N) → Option ℕ
highest_behind spans w at links =
    highest_after w (end_after 0 (spans_below spans (take at links)))
    (spans_below spans (take 1 (drop at links)))
