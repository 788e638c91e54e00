-- A window takes the place of those that it overlaps, and still no frame is in two places.
use Rattle.std.proofs.Common.{ℕ, ◌≡◌, ◌+◌, ◌≤◌, Bool, true, false, cond, not, List, [], ◌∷◌, refl, ap, arith, filter}
use Rattle.std.specs.List.{list_any}
use Rattle.std.proofs.lemmas.Bool.Decides.{nat_tests}
use Rattle.std.proofs.lemmas.Bool.{cond_both, or_parts}
use Rattle.iova_range.specs.Frames.{Frames, covers, meets, join}
use Rattle.iova_range.specs.Bounds.{Extent}
use Rattle.iova_model.specs.State.{State, Holder, owners}
use Rattle.iova_model.specs.Valid.{is_inside}
use Rattle.iova_model.specs.Next.{with_windows, union, windows_with, is_taken, from_to}
use Rattle.iova_laws.proofs.Weight as weight
use Rattle.iova_laws.proofs.WeightHolders.{load, holder_ranges, owners_hold}
use Rattle.iova_laws.proofs.ValidCases.{MayReserve}
use Rattle.iova_laws.proofs.PlaceOnce.{has, lacks, has_le, meets_covers, InOrder}

-- the frames of r are among those of a
record IsPart (r a : Frames) : Type 0 where
  lo : a.lo ≤ r.lo
  hi : r.lo + r.len ≤ a.lo + a.len

-- a join with another keeps them
part_join : (r a w : Frames) → IsPart r a → IsPart r (join a w)
part_join r a w h = record { lo = omega (arith, h.lo); hi = omega (arith, h.lo, h.hi) }

-- so the union has the frames of r
part_union : (r : Frames) (ws : List Frames) → IsPart r (union r ws)
part_union r [] = record { lo = omega arith; hi = omega arith }
part_union r (w ∷ ws) =
    cond_both (meets r w) (join (union r ws) w) (union r ws) (λ a. IsPart r a) (λ e. part_join r (union r ws) w (part_union r ws)) (λ e. part_union r ws)

-- a join with a window that overlaps r weighs no more than the two
abbrev Joins : (Frames → ℕ) → Frames → Type 0
Joins weigh r = (a w : Frames) → IsPart r a → meets r w ≡ true → weigh (join a w) ≤ weigh a + weigh w

-- then the union and the windows that don't overlap weigh no more than r and all windows
union_weighs : (weigh : Frames → ℕ) (r : Frames) (ws : List Frames) → Joins weigh r → weigh (union r ws) + weight.ranges weigh (filter (λ x. not (meets r x)) ws) ≤ weigh r + weight.ranges weigh ws
union_weighs weigh r [] joins = omega arith
union_weighs weigh r (w ∷ ws) joins = union_step (union_weighs weigh r ws joins) (meets r w) refl
  where
    union_step : weigh (union r ws) + weight.ranges weigh (filter (λ x. not (meets r x)) ws) ≤ weigh r + weight.ranges weigh ws → (b : Bool) → meets r w ≡ b → weigh (union r (w ∷ ws)) + weight.ranges weigh (filter (λ x. not (meets r x)) (w ∷ ws)) ≤ weigh r + weight.ranges weigh (w ∷ ws)
    union_step more true is = rw is (omega (arith, more, joins (union r ws) w (part_union r ws) is))
    union_step more false is = rw is (omega (arith, more))

-- a frame of a join is in one of the two
join_covers : (frame : ℕ) (r a w : Frames) → IsPart r a → meets r w ≡ true → covers frame a ≡ false → covers frame w ≡ false → covers frame (join a w) ≡ false
join_covers frame r a w h m x y =
    let lo = h.lo in
    let hi = h.hi in
    grind (arith, nat_tests)

-- so a frame weighs no more in a join
has_joins : (frame : ℕ) (r : Frames) → Joins (has frame) r
has_joins frame r = λ a w part m. join_step a w part m (covers frame a) refl (covers frame w) refl
  where
    join_step : (a w : Frames) → IsPart r a → meets r w ≡ true → (x : Bool) → covers frame a ≡ x → (y : Bool) → covers frame w ≡ y → has frame (join a w) ≤ has frame a + has frame w
    join_step a w part m true x y e =
        let one : has frame a ≡ 1 = ap (λ b. cond b 1 0) x in
        omega (arith, one, has_le frame (join a w))
    join_step a w part m false x true e =
        let one : has frame w ≡ 1 = ap (λ b. cond b 1 0) e in
        omega (arith, one, has_le frame (join a w))
    join_step a w part m false x false e =
        let none : has frame (join a w) ≡ 0 = ap (λ b. cond b 1 0) (join_covers frame r a w part m x e) in
        omega (arith, none)

-- a range weighs one at most where it lacks a test
lacks_le : (test : Frames → Bool) (r : Frames) → lacks test r ≤ 1
lacks_le test r = cond_both (test r) 0 1 (λ n. n ≤ 1) (λ e. omega arith) (λ e. omega arith)

-- a join of two ranges inside is inside
join_inside : (b : Extent) (a w : Frames) → is_inside b a ≡ true → is_inside b w ≡ true → is_inside b (join a w) ≡ true
join_inside b a w x y = grind (arith, nat_tests)

-- so what is outside weighs no more in a join
lacks_joins : (b : Extent) (r : Frames) → Joins (lacks (is_inside b)) r
lacks_joins b r = λ a w part m. join_step a w (is_inside b a) refl (is_inside b w) refl
  where
    join_step : (a w : Frames) → (x : Bool) → is_inside b a ≡ x → (y : Bool) → is_inside b w ≡ y → lacks (is_inside b) (join a w) ≤ lacks (is_inside b) a + lacks (is_inside b) w
    join_step a w false x y e =
        let one : lacks (is_inside b) a ≡ 1 = ap (λ c. cond c 0 1) x in
        omega (arith, one, lacks_le (is_inside b) (join a w))
    join_step a w true x false e =
        let one : lacks (is_inside b) w ≡ 1 = ap (λ c. cond c 0 1) e in
        omega (arith, one, lacks_le (is_inside b) (join a w))
    join_step a w true x true e =
        let none : lacks (is_inside b) (join a w) ≡ 0 = ap (λ c. cond c 0 1) (join_inside b a w x e) in
        omega (arith, none)

-- the windows that don't meet r don't have its frames
apart : (frame : ℕ) (r : Frames) (ws : List Frames) → covers frame r ≡ true → weight.ranges (has frame) (filter (λ x. not (meets r x)) ws) ≡ 0
apart frame r [] c = refl
apart frame r (w ∷ ws) c = apart_step (apart frame r ws c) (meets r w) refl
  where
    apart_step : weight.ranges (has frame) (filter (λ x. not (meets r x)) ws) ≡ 0 → (b : Bool) → meets r w ≡ b → weight.ranges (has frame) (filter (λ x. not (meets r x)) (w ∷ ws)) ≡ 0
    apart_step more true is = rw is more
    apart_step more false is =
        let none : has frame w ≡ 0 = ap (λ b. cond b 1 0) (meets_covers frame r w c is) in
        rw is (omega (arith, none, more))

-- nobody but windows has the frames of a range that isn't taken
untaken_weighs : (frame : ℕ) (r : Frames) (hs : List Holder) → covers frame r ≡ true → list_any (λ h. meets r h.range) hs ≡ false → holder_ranges (has frame) hs ≡ 0
untaken_weighs frame r [] c e = refl
untaken_weighs frame r (h ∷ hs) c e =
    let parts = or_parts (meets r h.range) (list_any (λ x. meets r x.range) hs) e in
    let here : has frame h.range ≡ 0 = ap (λ b. cond b 1 0) (meets_covers frame r h.range c parts.0) in
    omega (arith, here, untaken_weighs frame r hs c parts.1)

-- each frame weighs one at most with the new windows
window_once : (frame : ℕ) (s : State) (r : Frames) → is_taken s r ≡ false → InOrder s → (b : Bool) → covers frame r ≡ b → weight.ranges (has frame) (windows_with r s.windows) + load (has frame) s ≤ 1
window_once frame s r free h true is =
    let rest = filter (λ x. not (meets r x)) s.windows in
    omega (arith, weight.ranges-insert (has frame) (union r s.windows) rest, apart frame r s.windows is, has_le frame (union r s.windows), untaken_weighs frame r (owners s) is free, owners_hold (has frame) s)
window_once frame s r free h false is =
    let rest = filter (λ x. not (meets r x)) s.windows in
    let none : has frame r ≡ 0 = ap (λ b. cond b 1 0) is in
    omega (arith, weight.ranges-insert (has frame) (union r s.windows) rest, union_weighs (has frame) r s.windows (has_joins frame r), none, h.once frame)

-- with them the state is in order
windows_in_order : (s : State) (r : Frames) → is_taken s r ≡ false → is_inside s.bounds r ≡ true → InOrder s → InOrder (with_windows s (windows_with r s.windows))
windows_in_order s r free inside h =
    let rest = filter (λ x. not (meets r x)) s.windows in
    let outside = lacks (is_inside s.bounds) in
    let none : outside r ≡ 0 = ap (λ b. cond b 0 1) inside in
    record {
      once = λ frame. window_once frame s r free h (covers frame r) refl;
      windows = omega (arith, h.windows, none, weight.ranges-insert outside (union r s.windows) rest, union_weighs outside r s.windows (lacks_joins s.bounds r));
      inside = h.inside;
      aligned = h.aligned;
    }

-- frames between the bounds are inside
from_to_inside : (b : Extent) (lo hi : ℕ) → lo ≤ hi → b.start ≤ lo → hi ≤ b.last → is_inside b (from_to lo hi) ≡ true
from_to_inside b lo hi order start last = grind (arith, nat_tests)

-- a reservation leaves the state in order
pub reserved_in_order : (s : State) (lo hi : ℕ) → MayReserve s lo hi → InOrder s → InOrder (with_windows s (windows_with (from_to lo hi) s.windows))
reserved_in_order s lo hi may h =
    windows_in_order s (from_to lo hi) may.free (from_to_inside s.bounds lo hi may.in_order may.start may.last) h
