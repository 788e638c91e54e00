-- The search between ranges: a search in two parts, what it finds is the greatest fit, and what it skips has no place.
use Rattle.std.proofs.Common.{◌≡◌, ℕ, ◌+◌, ◌-◌, ◌*◌, ◌/◌, ◌%◌, ◌<◌, ◌≤◌, ◌⊎◌, inl, inr, min, Bool, true, false, not, cond, ltb, List, [], ◌∷◌, ◌++◌, Option, Some, None, refl, ◌∙◌, sym, subst, arith}
use Rattle.std.specs.Prelude.{nat_le, nat_lt, ◌&&◌}
use Rattle.std.specs.Int.{IsPowerOfTwo}
use Rattle.std.proofs.lemmas.Bool.{ltb-true, ltb-false, and_parts}
use Rattle.std.proofs.lemmas.Bool.Decides.{nat_tests}
use Rattle.std.proofs.Math.Nat.{div-mul-le_self, mul-mod_left}
use Rattle.iova_range.specs.Frames.{Frames, covers, meets}
use Rattle.iova_range.specs.Bounds.{Extent}
use Rattle.iova_range.proofs.Powers.{align_of-first}
use Rattle.iova_model.specs.Fit.{Fits, IsBest, is_covered, is_clear}
use Rattle.iova_model.proofs.Placing.{AreSome, uncovered-clear}
use Rattle.iova_tree.specs.Room.{room}
use Rattle.iova_tree.specs.Spans.{Span, range_of_span, all_of, end_after, IsRisingFrom, room_after}
use Rattle.iova_tree.specs.declared.search.Wanted.{Wanted}
use Rattle.iova_tree.specs.Fit.{IsWanted, higher, place, highest_after, highest_free}
use Rattle.iova_tree.proofs.Rooms.{multiple_le, multiple_is, align_of_pos, room-covers}

-- Two parts.

pub higher_assoc : (a b c : Option ℕ) → higher (higher a b) c ≡ higher a (higher b c)
higher_assoc (Some s) b c = refl
higher_assoc None b c = refl

pub higher-none : (a : Option ℕ) → higher a None ≡ a
higher-none (Some s) = refl
higher-none None = refl

pub highest_after-append : (w : Wanted) (e : ℕ) (l r : List Span) → highest_after w e (l ++ r) ≡ higher (highest_after w (end_after e l) r) (highest_after w e l)
highest_after-append w e [] r = sym (higher-none _)
highest_after-append w e (x ∷ l) r = rw (highest_after-append w x.end l r, higher_assoc (highest_after w (end_after x.end l) r) (highest_after w x.end l) (place e (min x.lo w.cap) w)) refl

-- One gap.

-- what a place is, and what its absence says
pub record IsPlace (w : Wanted) (from until s : ℕ) : Type 0 where
  pub aligned : s % w.align ≡ 0
  pub above : from ≤ s
  pub below : s + w.size ≤ until

abbrev pub IsGreatestPlace : Wanted → ℕ → ℕ → Option ℕ → Type 0
IsGreatestPlace w from until None = (s : ℕ) → IsPlace w from until s → ⊥
IsGreatestPlace w from until (Some s) = IsPlace w from until s × ((r : ℕ) → IsPlace w from until r → r ≤ s)

last_multiple : (a m s : ℕ) → 0 < a → s % a ≡ 0 → s ≤ m → s ≤ m / a * a
last_multiple a m s z aligned le =
    let is = multiple_is a s aligned in
    rw is at (multiple_le a m (s / a) z (rw is le))

place_cases : (w : Wanted) (from until : ℕ) (a b : Bool) → 0 < w.align → ltb until w.size ≡ a → ltb ((until - w.size) / w.align * w.align) from ≡ b → IsGreatestPlace w from until (cond a None (cond b None (Some ((until - w.size) / w.align * w.align))))
place_cases w from until true b z p q = λ s f. let h = ltb-true until w.size p in let g = f.below in omega arith
place_cases w from until false true z p q = λ s f.
    let h = ltb-true _ from q in
    let m = last_multiple w.align (until - w.size) s z f.aligned (omega (arith, f.below)) in
    omega (arith, f.above)
place_cases w from until false false z p q =
    let h = ltb-false _ from q in
    let n = ltb-false until w.size p in
    let d = div-mul-le_self (until - w.size) w.align in (
      record { aligned = mul-mod_left ((until - w.size) / w.align) w.align; above = h; below = omega arith },
      λ r f. last_multiple w.align (until - w.size) r z f.aligned (omega (arith, f.below)),
    )

pub place_greatest : (w : Wanted) (from until : ℕ) → 0 < w.align → IsGreatestPlace w from until (place from until w)
place_greatest w from until z = place_cases w from until _ _ z refl refl

-- All ranges.

-- the frames a..b meet none of the ranges
abbrev pub IsFree : ℕ → ℕ → List Span → Type 0
IsFree a b [] = Unit {0}
IsFree a b (x ∷ t) = ((b ≤ x.lo) ⊎ (x.end ≤ a)) × IsFree a b t

-- s fits: aligned, at start or above, it ends by the cap, and its frames are free
pub record LiesFree (w : Wanted) (start : ℕ) (l : List Span) (s : ℕ) : Type 0 where
  pub aligned : s % w.align ≡ 0
  pub above : start ≤ s
  pub below : s + w.size ≤ w.cap
  pub free : IsFree s (s + w.size) l

-- the greatest that fits, or nothing does
abbrev pub IsGreatestFit : Wanted → ℕ → List Span → Option ℕ → Type 0
IsGreatestFit w start l None = (s : ℕ) → LiesFree w start l s → ⊥
IsGreatestFit w start l (Some s) = LiesFree w start l s × ((r : ℕ) → LiesFree w start l r → r ≤ s)

free_before : (e : ℕ) (a b : ℕ) (t : List Span) → b ≤ e → IsRisingFrom e t → IsFree a b t
free_before e a b [] p r = tt
free_before e a b (y ∷ t) p r = (inl (omega (arith, r.0)), free_before y.end a b t (omega (arith, r.0, r.1)) r.2)

highest_free-cons : (w : Wanted) (start : ℕ) (x : Span) (t : List Span) → highest_free w start (x ∷ t) ≡ higher (highest_free w x.end t) (place start (min x.lo w.cap) w)
highest_free-cons w start x t = sym (higher_assoc (place (end_after x.end t) w.cap w) (highest_after w x.end t) (place start (min x.lo w.cap) w))

-- one range more at the front
step_cases : (w : Wanted) (start : ℕ) (x : Span) (t : List Span) → 0 < w.size → start ≤ x.lo → x.lo < x.end → IsRisingFrom x.end t → (o p : Option ℕ) → IsGreatestFit w x.end t o → IsGreatestPlace w start (min x.lo w.cap) p → IsGreatestFit w start (x ∷ t) (higher o p)
step_cases w start x t z a b r (Some s) p f g =
    let f0 = f.0 in (
      record { aligned = f0.aligned; above = omega (arith, f0.above); below = f0.below; free = (inr f0.above, f0.free) },
      λ v h. elim h.free.0 as (λ _. v ≤ s) [
        | inl i ↦ omega (arith, f0.above)
        | inr i ↦ f.1 v (record { aligned = h.aligned; above = i; below = h.below; free = h.free.1 })
      ],
    )
step_cases w start x t z a b r None None f g = λ v h.
    elim h.free.0 as (λ _. ⊥) [
      | inl i ↦ g v (record { aligned = h.aligned; above = h.above; below = omega (arith, h.below) })
      | inr i ↦ f v (record { aligned = h.aligned; above = i; below = h.below; free = h.free.1 })
    ]
step_cases w start x t z a b r None (Some s) f g =
    let g0 = g.0 in (
      record { aligned = g0.aligned; above = g0.above; below = omega (arith, g0.below); free = (inl (omega (arith, g0.below)), free_before x.end s (s + w.size) t (omega (arith, g0.below)) r) },
      λ v h. elim h.free.0 as (λ _. v ≤ s) [
        | inl i ↦ g.1 v (record { aligned = h.aligned; above = h.above; below = omega (arith, h.below) })
        | inr i ↦ absurd (f v (record { aligned = h.aligned; above = i; below = h.below; free = h.free.1 }))
      ],
    )

from_place : (w : Wanted) (start : ℕ) (p : Option ℕ) → IsGreatestPlace w start w.cap p → IsGreatestFit w start [] (higher p None)
from_place w start None g = λ v h. g v (record { aligned = h.aligned; above = h.above; below = h.below })
from_place w start (Some s) g =
    let g0 = g.0 in
    (record { aligned = g0.aligned; above = g0.above; below = g0.below; free = tt }, λ v h. g.1 v (record { aligned = h.aligned; above = h.above; below = h.below }))

-- the search over the list gives the greatest fit
pub highest_free-greatest : (w : Wanted) (start : ℕ) (l : List Span) → 0 < w.size → 0 < w.align → IsRisingFrom start l → IsGreatestFit w start l (highest_free w start l)
highest_free-greatest w start [] z a r = from_place w start _ (place_greatest w start w.cap a)
highest_free-greatest w start (x ∷ t) z a r =
    subst (IsGreatestFit w start (x ∷ t)) (sym (highest_free-cons w start x t))
    (step_cases w start x t z r.0 r.1 r.2 (highest_free w x.end t) (place start (min x.lo w.cap) w) (highest_free-greatest w x.end t z a r.2) (place_greatest w start (min x.lo w.cap) a))

-- What is skipped.

pub wanted_align : (w : Wanted) → IsWanted w → 0 < w.align
wanted_align w h = rw h.align (align_of_pos w.size)

pub wanted_power : (w : Wanted) → IsWanted w → IsPowerOfTwo w.align
wanted_power w h = let f = align_of-first w.size in (f.0, h.align ∙ f.1)

-- a place in a gap is no larger than the gap's room
place_fits_room : (w : Wanted) (from until s : ℕ) → IsWanted w → IsPlace w from until s → w.size ≤ room from until
place_fits_room w from until s h f =
    room-covers from until w.size h.bounded (s, rw h.align at f.aligned, f.above, f.below)

no_place : (w : Wanted) (from until : ℕ) (o : Option ℕ) → IsWanted w → IsGreatestPlace w from (min until w.cap) o → room from until < w.size → o ≡ None
no_place w from until None z g h = refl
no_place w from until (Some s) z g h =
    let g0 = g.0 in
    let f = place_fits_room w from until s z (record { aligned = g0.aligned; above = g0.above; below = omega (arith, g0.below) }) in
    absurd (omega arith)

-- where no gap has the room, the search finds nothing
pub highest_after-no_room : (w : Wanted) (e : ℕ) (l : List Span) → IsWanted w → room_after e l < w.size → highest_after w e l ≡ None
highest_after-no_room w e [] z h = refl
highest_after-no_room w e (x ∷ l) z h =
    rw (highest_after-no_room w x.end l z (omega arith), no_place w e x.lo _ z (place_greatest w e (min x.lo w.cap) (wanted_align w z)) (omega arith)) refl

pub no_place_low : (w : Wanted) (from until : ℕ) (o : Option ℕ) → IsGreatestPlace w from until o → 0 < w.size → until ≤ from → o ≡ None
no_place_low w from until None g z h = refl
no_place_low w from until (Some s) g z h = let g0 = g.0 in absurd (omega (arith, g0.above, g0.below))

pub highest_after-above_cap : (w : Wanted) (e : ℕ) (l : List Span) → IsWanted w → IsRisingFrom e l → w.cap ≤ e → highest_after w e l ≡ None
highest_after-above_cap w e [] z r h = refl
highest_after-above_cap w e (x ∷ l) z r h =
    rw (highest_after-above_cap w x.end l z r.2 (omega (arith, r.0, r.1)), no_place_low w e (min x.lo w.cap) _ (place_greatest w e (min x.lo w.cap) (wanted_align w z)) z.some (omega arith)) refl

-- The greatest fit as the definitions say it.

free_uncovered : (e a b : ℕ) (l : List Span) (frame : ℕ) → IsRisingFrom e l → IsFree a b l → a ≤ frame → frame < b → is_covered frame (all_of l) ≡ false
free_uncovered e a b [] frame r f p q = refl
free_uncovered e a b (x ∷ l) frame r f p q =
    let here : covers frame (range_of_span x) ≡ false = apart f.0 in
    rw here (free_uncovered x.end a b l frame r.2 f.1 p q)
  where
    apart : (b ≤ x.lo) ⊎ (x.end ≤ a) → covers frame (range_of_span x) ≡ false
    apart (inl h) = grind (arith, nat_tests)
    apart (inr h) = let e : x.lo + (x.end - x.lo) ≡ x.end = omega (arith, r.1) in rw e (grind (arith, nat_tests))

pub all_some : (e : ℕ) (l : List Span) → IsRisingFrom e l → AreSome (all_of l)
all_some e [] r = tt
all_some e (x ∷ l) r = (omega (arith, r.1), all_some x.end l r.2)

clear_beside : (s size : ℕ) (x : Span) → x.lo < x.end → 1 ≤ size → not (meets (record { lo = s; len = size }) (range_of_span x)) ≡ true → (s + size ≤ x.lo) ⊎ (x.end ≤ s)
clear_beside s size x lt some clear =
    let e : x.lo + (x.end - x.lo) ≡ x.end = omega arith in
    split (nat_le (s + size) x.lo) refl (rw e at clear)
  where
    split : (b : Bool) → nat_le (s + size) x.lo ≡ b → not (nat_lt s x.end && nat_lt x.lo (s + size)) ≡ true → (s + size ≤ x.lo) ⊎ (x.end ≤ s)
    split true h clear = inl (grind (arith, nat_tests))
    split false h clear = inr (grind (arith, nat_tests))

clear_free : (e s size : ℕ) (l : List Span) → IsRisingFrom e l → 1 ≤ size → is_clear (record { lo = s; len = size }) (all_of l) ≡ true → IsFree s (s + size) l
clear_free e s size [] r some clear = tt
clear_free e s size (x ∷ l) r some clear =
    let own : Frames = record { lo = s; len = size } in
    let parts = and_parts (not (meets own (range_of_span x))) (is_clear own (all_of l)) clear in
    (clear_beside s size x r.1 some parts.0, clear_free x.end s size l r.2 some parts.1)

module _ (bounds : Extent) (w : Wanted) (limit : ℕ) (l : List Span) (h : IsWanted w) (cap : w.cap ≡ min limit bounds.last + 1) (r : IsRisingFrom bounds.start l) where
  to_fits : (s : ℕ) → LiesFree w bounds.start l s → Fits bounds (all_of l) w.size limit s
  to_fits s f = record {
    aligned = rw h.align at f.aligned;
    start = f.above;
    last = omega (arith, f.below, cap, h.some);
    free = λ frame a b. free_uncovered bounds.start s (s + w.size) l frame r f.free a b;
  }

  from_fits : (s : ℕ) → Fits bounds (all_of l) w.size limit s → LiesFree w bounds.start l s
  from_fits s f =
      let last : s + w.size - 1 ≤ min limit bounds.last = f.last in record {
        aligned = rw h.align f.aligned;
        above = f.start;
        below = omega (arith, cap, h.some);
        free = clear_free bounds.start s w.size l r h.some (uncovered-clear (record { lo = s; len = w.size }) (all_of l) h.some (all_some bounds.start l r) f.free);
      }

  best_cases : (o : Option ℕ) → IsGreatestFit w bounds.start l o → IsBest bounds (all_of l) w.size limit o
  best_cases None g = λ s f. g s (from_fits s f)
  best_cases (Some i) g = (to_fits i g.0, λ s f. g.1 s (from_fits s f))

  pub highest_free-best : IsBest bounds (all_of l) w.size limit (highest_free w bounds.start l)
  highest_free-best = best_cases _ (highest_free-greatest w bounds.start l (omega (arith, h.some)) (wanted_align w h) r)
