-- No frame is in two holders, and each holder is inside and aligned: said by weights, and kept where ranges move.
use Rattle.std.proofs.Common.{ℕ, zero, suc, ◌≡◌, ◌+◌, ◌-◌, ◌%◌, ◌≤◌, ◌==◌, ◌&&◌, Bool, true, false, cond, not, min, List, [], ◌∷◌, refl, sym, ap, ◌∙◌, arith}
use Rattle.std.specs.Prelude.{nat_le}
use Rattle.std.specs.List.{list_all}
use Rattle.std.proofs.lemmas.Bool.Decides.{nat_tests}
use Rattle.std.proofs.lemmas.Bool.{cond_both, and_parts, and_from, not-true}
use Rattle.iova_range.specs.Frames.{Frames, covers, meets}
use Rattle.iova_range.specs.Sizes.{align_of}
use Rattle.iova_range.specs.Bounds.{Extent}
use Rattle.iova_model.specs.Fit.{fits, is_clear}
use Rattle.iova_model.specs.State.{State, Holder, holders, owners, held_ranges, times_held, new_domain}
use Rattle.iova_model.specs.Valid.{is_inside, is_aligned, IsOnePlace}
use Rattle.iova_laws.proofs.Weight as weight
use Rattle.iova_laws.proofs.WeightHolders.{load, holder_ranges, owners_hold, all_hold, held_are}
use Rattle.iova_laws.proofs.ConserveSteps.{IsMoved}

-- one where the range has the frame
abbrev pub has : ℕ → Frames → ℕ
has frame r = cond (covers frame r) 1 0

-- one where the range fails the test
abbrev pub lacks : (Frames → Bool) → Frames → ℕ
lacks test r = cond (test r) 0 1

-- each frame weighs one at most, and nothing is outside the bounds or badly aligned
pub record InOrder (s : State) : Type 0 where
  pub once : (frame : ℕ) → weight.ranges (has frame) s.windows + load (has frame) s ≤ 1
  pub windows : weight.ranges (lacks (is_inside s.bounds)) s.windows ≡ 0
  pub inside : load (lacks (is_inside s.bounds)) s ≡ 0
  pub aligned : load (lacks is_aligned) s ≡ 0

-- how often a frame is held is what it weighs
times_weigh : (frame : ℕ) (hs : List Holder) → times_held frame hs ≡ holder_ranges (has frame) hs
times_weigh frame [] = refl
times_weigh frame (h ∷ hs) = ap (λ n. has frame h.range + n) (times_weigh frame hs)

-- all pass where nothing lacks
all_weigh : (test : Frames → Bool) (hs : List Holder) → list_all (λ h. test h.range) hs ≡ true → holder_ranges (lacks test) hs ≡ 0
all_weigh test [] e = refl
all_weigh test (h ∷ hs) e =
    let parts = and_parts (test h.range) (list_all (λ x. test x.range) hs) e in
    let here : lacks test h.range ≡ 0 = ap (λ b. cond b 0 1) parts.0 in
    omega (arith, here, all_weigh test hs parts.1)

-- a range that lacks nothing passes the test
pub none_lacks : (test : Frames → Bool) (r : Frames) → lacks test r ≡ 0 → test r ≡ true
none_lacks test r none = lacks_step (test r) refl
  where
    lacks_step : (b : Bool) → test r ≡ b → test r ≡ true
    lacks_step true is = is
    lacks_step false is = absurd (let one : 1 ≡ 0 = ap (λ b. cond b 0 1) (sym is) ∙ none in omega arith)

-- a range in which a frame weighs nothing doesn't have it
pub none_has : (frame : ℕ) (r : Frames) → has frame r ≡ 0 → covers frame r ≡ false
none_has frame r none = has_step (covers frame r) refl
  where
    has_step : (b : Bool) → covers frame r ≡ b → covers frame r ≡ false
    has_step true is = absurd (let one : 1 ≡ 0 = ap (λ b. cond b 1 0) (sym is) ∙ none in omega arith)
    has_step false is = is

-- where nothing lacks, all pass
weigh_all : (test : Frames → Bool) (hs : List Holder) → holder_ranges (lacks test) hs ≡ 0 → list_all (λ h. test h.range) hs ≡ true
weigh_all test [] e = refl
weigh_all test (h ∷ hs) e =
    and_from (test h.range) (list_all (λ x. test x.range) hs) (none_lacks test h.range (omega arith)) (weigh_all test hs (omega arith))

-- one place, by weights
pub in_order : (s : State) → IsOnePlace s → InOrder s
in_order s h =
    let all = all_weigh (is_inside s.bounds) (holders s) h.inside in
    record {
      once = λ frame. omega (arith, h.once frame, times_weigh frame (holders s), all_hold (has frame) s);
      windows = omega (arith, all, all_hold (lacks (is_inside s.bounds)) s);
      inside = omega (arith, all, all_hold (lacks (is_inside s.bounds)) s);
      aligned = omega (arith, all_weigh is_aligned (owners s) h.aligned, owners_hold (lacks is_aligned) s);
    }

-- and back
pub one_place : (s : State) → InOrder s → IsOnePlace s
one_place s h = record {
  once = λ frame. omega (arith, h.once frame, times_weigh frame (holders s), all_hold (has frame) s);
  inside = weigh_all (is_inside s.bounds) (holders s) (omega (arith, h.windows, h.inside, all_hold (lacks (is_inside s.bounds)) s));
  aligned = weigh_all is_aligned (owners s) (omega (arith, h.aligned, owners_hold (lacks is_aligned) s));
}

-- Where nothing is taken from free frames.

-- what is freed or stays is still in order
pub moved_in_order : (s t : State) (freed : List Frames) → IsMoved s t [] freed → InOrder s → InOrder t
moved_in_order s t freed moved h =
    let outside : Extent → Frames → ℕ = λ b. lacks (is_inside b) in
    record {
      once = λ frame. omega (arith, h.once frame, moved.balance (has frame), ap (weight.ranges (has frame)) moved.windows);
      windows = omega (arith, h.windows, ap (λ b. weight.ranges (outside b) t.windows) moved.bounds, ap (weight.ranges (outside s.bounds)) moved.windows);
      inside = omega (arith, h.inside, moved.balance (outside s.bounds), ap (λ b. load (outside b) t) moved.bounds);
      aligned = omega (arith, h.aligned, moved.balance (lacks is_aligned));
    }

-- A range that meets no holder.

-- its frames are not those of a range that it doesn't meet
pub meets_covers : (frame : ℕ) (r h : Frames) → covers frame r ≡ true → meets r h ≡ false → covers frame h ≡ false
meets_covers frame r h a b = grind (arith, nat_tests)

-- a frame weighs one at most in one range
pub has_le : (frame : ℕ) (r : Frames) → has frame r ≤ 1
has_le frame r = cond_both (covers frame r) 1 0 (λ n. n ≤ 1) (λ e. omega arith) (λ e. omega arith)

-- its frames weigh nothing in ranges that it meets none of
clear_weighs : (frame : ℕ) (r : Frames) (rs : List Frames) → covers frame r ≡ true → is_clear r rs ≡ true → weight.ranges (has frame) rs ≡ 0
clear_weighs frame r [] c e = refl
clear_weighs frame r (x ∷ xs) c e =
    let parts = and_parts (not (meets r x)) (is_clear r xs) e in
    let here : has frame x ≡ 0 = ap (λ b. cond b 1 0) (meets_covers frame r x c (not-true _ parts.0)) in
    omega (arith, here, clear_weighs frame r xs c parts.1)

-- a range that may be added: nobody has its frames, and it is inside and aligned
pub record MayAdd (s : State) (r : Frames) : Type 0 where
  pub clear : is_clear r (held_ranges s) ≡ true
  pub inside : is_inside s.bounds r ≡ true
  pub aligned : is_aligned r ≡ true

-- each frame still weighs one at most with it
added_once : (frame : ℕ) (s t : State) (r : Frames) → MayAdd s r → IsMoved s t (r ∷ []) [] → InOrder s → (b : Bool) → covers frame r ≡ b → weight.ranges (has frame) t.windows + load (has frame) t ≤ 1
added_once frame s t r may moved h true is =
    omega (arith, moved.balance (has frame), clear_weighs frame r (held_ranges s) is may.clear, held_are (has frame) s, has_le frame r, ap (weight.ranges (has frame)) moved.windows)
added_once frame s t r may moved h false is =
    let none : has frame r ≡ 0 = ap (λ b. cond b 1 0) is in
    omega (arith, moved.balance (has frame), none, h.once frame, ap (weight.ranges (has frame)) moved.windows)

-- with it the state is in order
pub added_in_order : (s t : State) (r : Frames) → MayAdd s r → IsMoved s t (r ∷ []) [] → InOrder s → InOrder t
added_in_order s t r may moved h =
    let outside : Extent → Frames → ℕ = λ b. lacks (is_inside b) in
    let inside : outside s.bounds r ≡ 0 = ap (λ b. cond b 0 1) may.inside in
    let aligned : lacks is_aligned r ≡ 0 = ap (λ b. cond b 0 1) may.aligned in
    record {
      once = λ frame. added_once frame s t r may moved h (covers frame r) refl;
      windows = omega (arith, h.windows, ap (λ b. weight.ranges (outside b) t.windows) moved.bounds, ap (weight.ranges (outside s.bounds)) moved.windows);
      inside = omega (arith, h.inside, inside, moved.balance (outside s.bounds), ap (λ b. load (outside b) t) moved.bounds);
      aligned = omega (arith, h.aligned, aligned, moved.balance (lacks is_aligned));
    }

-- what fits may be added
pub fit_may_add : (s : State) (size limit lo : ℕ) → 1 ≤ size → fits s.bounds (held_ranges s) size limit lo ≡ true → MayAdd s (record { lo = lo; len = size })
fit_may_add s size limit lo some e =
    let r : Frames = record { lo = lo; len = size } in
    let a = lo % align_of size == 0 in
    let b = nat_le s.bounds.start lo in
    let c = nat_le (lo + size - 1) (min limit s.bounds.last) in
    let d = is_clear r (held_ranges s) in
    let x = and_parts (a && b && c) d e in
    let y = and_parts (a && b) c x.0 in
    let z = and_parts a b y.0 in
    let start : nat_le s.bounds.start lo ≡ true = z.1 in
    let last : nat_le (lo + size - 1) (min limit s.bounds.last) ≡ true = y.1 in
    record { clear = x.1; inside = grind (arith, nat_tests); aligned = z.0 }

-- Nothing is held.

-- a new domain has nothing
none_held : (weigh : Frames → ℕ) (n : ℕ) (b : Extent) → load weigh (new_domain b n) ≡ 0
none_held weigh zero b = refl
none_held weigh (suc n) b = omega (arith, none_held weigh n b)

-- so it is in order
pub new_in_order : (b : Extent) (n : ℕ) → InOrder (new_domain b n)
new_in_order b n = record {
  once = λ frame. omega (arith, none_held (has frame) n b);
  windows = refl;
  inside = none_held (lacks (is_inside b)) n b;
  aligned = none_held (lacks is_aligned) n b;
}
