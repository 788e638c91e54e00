-- What a flight that leaves the list changes, by its place.
use Rattle.std.proofs.Common.{ℕ, zero, suc, ◌≡◌, ◌+◌, ◌<◌, ◌≤◌, ◌==◌, max, Bool, true, false, List, [], ◌∷◌, length, get_or, Some, None, refl, sym, ap, subst, arith}
use Rattle.std.specs.Prelude.{position, remove, slice_set}
use Rattle.std.proofs.lemmas.Bool.Decides.{nat_tests}
use Rattle.std.proofs.lemmas.List.Quantifiers.{position-Some}
use Rattle.std.specs.List.{position_or_len}
use Rattle.iova_model.specs.declared.flight.Flight.{Flight}
use Rattle.iova_model.specs.Flushes.{Flushes, after_end, is_in_flight, credit_of, without_flight, passed_on, left_over, credit_sum, AreSound}
use Rattle.iova_flush.proofs.Sound.{credit_sum-without, AreSound-ended}

-- x is at this place, and is the first flight of number n
pub record IsFirst (n : ℕ) (fs : List Flight) (place : ℕ) (x : Flight) : Type 0 where
  pub within : place < length fs
  pub here : x ≡ get_or fs place x
  pub number : (x.number == n) ≡ true
  pub before : (k : ℕ) → k < place → ((get_or fs k x).number == n) ≡ false

pub IsFirst-from_position : (n : ℕ) (fs : List Flight) (place : ℕ) (x : Flight) → position (λ (f : Flight). f.number == n) fs ≡ Some place
    → x ≡ get_or fs place x → IsFirst n fs place x
IsFirst-from_position n fs place x found here =
    let p = position-Some (λ (f : Flight). f.number == n) fs place x found in
    record { within = p.0; here = here; number = rw here p.1; before = p.2 }

-- in a list that goes on after f
past : (n : ℕ) (f : Flight) (fs : List Flight) (place : ℕ) (x : Flight) → IsFirst n (f ∷ fs) (suc place) x → IsFirst n fs place x
past n f fs place x h =
    record { within = omega (arith, h.within); here = h.here; number = h.number; before = λ k lt. h.before (suc k) (omega arith) }

is_other : (n : ℕ) (f : Flight) (fs : List Flight) (place : ℕ) (x : Flight) → IsFirst n (f ∷ fs) (suc place) x → (f.number == n) ≡ false
is_other n f fs place x h = h.before 0 (omega arith)

pub is_in_flight-first : (n : ℕ) (fs : List Flight) (place : ℕ) (x : Flight) → IsFirst n fs place x → is_in_flight n fs ≡ true
is_in_flight-first n [] place x h = absurd (omega (arith, h.within))
is_in_flight-first n (f ∷ fs) zero x h = let e : f ≡ x = sym h.here in rw (e, h.number) refl
is_in_flight-first n (f ∷ fs) (suc place) x h = rw (is_other n f fs place x h) (is_in_flight-first n fs place x (past n f fs place x h))

pub credit_of-first : (n : ℕ) (fs : List Flight) (place : ℕ) (x : Flight) → IsFirst n fs place x → credit_of n fs ≡ x.credit
credit_of-first n [] place x h = absurd (omega (arith, h.within))
credit_of-first n (f ∷ fs) zero x h = let e : f ≡ x = sym h.here in rw (e, h.number) refl
credit_of-first n (f ∷ fs) (suc place) x h = rw (is_other n f fs place x h) (credit_of-first n fs place x (past n f fs place x h))

without_flight-first : (n : ℕ) (fs : List Flight) (place : ℕ) (x : Flight) → IsFirst n fs place x → without_flight n fs ≡ remove fs place
without_flight-first n [] place x h = absurd (omega (arith, h.within))
without_flight-first n (f ∷ fs) zero x h = let e : f ≡ x = sym h.here in rw (e, h.number) refl
without_flight-first n (f ∷ fs) (suc place) x h =
    rw (is_other n f fs place x h) (ap (λ l. f ∷ l) (without_flight-first n fs place x (past n f fs place x h)))

-- with a flight after it, whose credit grows
passed_on-first : (n : ℕ) (fs : List Flight) (place : ℕ) (x later : Flight) → IsFirst n fs place x → suc place < length fs
    → later ≡ get_or (remove fs place) place later
    → passed_on n fs ≡ slice_set (remove fs place) place (record { number = later.number; credit = later.credit + x.credit })
passed_on-first n [] place x later h more is = absurd (omega (arith, h.within))
passed_on-first n (f ∷ []) zero x later h more is = absurd (omega arith)
passed_on-first n (f ∷ g ∷ fs) zero x later h more is =
    let e : f ≡ x = sym h.here in let e' : g ≡ later = sym is in rw (e, h.number, e') refl
passed_on-first n (f ∷ fs) (suc place) x later h more is =
    rw (is_other n f fs place x h) (ap (λ l. f ∷ l) (passed_on-first n fs place x later (past n f fs place x h) (omega arith) is))

left_over-first : (n : ℕ) (fs : List Flight) (place : ℕ) (x : Flight) → IsFirst n fs place x → suc place < length fs → left_over n fs ≡ 0
left_over-first n [] place x h more = absurd (omega (arith, h.within))
left_over-first n (f ∷ []) place x h more = absurd (omega arith)
left_over-first n (f ∷ g ∷ fs) zero x h more = let e : f ≡ x = sym h.here in rw (e, h.number) refl
left_over-first n (f ∷ g ∷ fs) (suc place) x h more =
    rw (is_other n f (g ∷ fs) place x h) (left_over-first n (g ∷ fs) place x (past n f (g ∷ fs) place x h) (omega arith))

-- with none after it
passed_on-last : (n : ℕ) (fs : List Flight) (place : ℕ) (x : Flight) → IsFirst n fs place x → length fs ≤ suc place → passed_on n fs ≡ remove fs place
passed_on-last n [] place x h last = absurd (omega (arith, h.within))
passed_on-last n (f ∷ []) zero x h last = let e : f ≡ x = sym h.here in rw (e, h.number) refl
passed_on-last n (f ∷ g ∷ fs) zero x h last = absurd (omega arith)
passed_on-last n (f ∷ fs) (suc place) x h last =
    rw (is_other n f fs place x h) (ap (λ l. f ∷ l) (passed_on-last n fs place x (past n f fs place x h) (omega arith)))

left_over-last : (n : ℕ) (fs : List Flight) (place : ℕ) (x : Flight) → IsFirst n fs place x → length fs ≤ suc place → left_over n fs ≡ x.credit
left_over-last n [] place x h last = absurd (omega (arith, h.within))
left_over-last n (f ∷ []) zero x h last = let e : f ≡ x = sym h.here in rw (e, h.number) refl
left_over-last n (f ∷ []) (suc place) x h last = absurd (omega (arith, h.within))
left_over-last n (f ∷ g ∷ fs) zero x h last = absurd (omega arith)
left_over-last n (f ∷ g ∷ fs) (suc place) x h last =
    rw (is_other n f (g ∷ fs) place x h) (left_over-last n (g ∷ fs) place x (past n f (g ∷ fs) place x h) (omega arith))

-- the credits that are added are among those in flight
pub credit-le-credit_sum : (n : ℕ) (fs : List Flight) (place : ℕ) (x : Flight) → IsFirst n fs place x → x.credit ≤ credit_sum fs
credit-le-credit_sum n fs place x h = omega (arith, credit_of-first n fs place x h, credit_sum-without n fs)

pub credits-le-credit_sum : (n : ℕ) (fs : List Flight) (place : ℕ) (x later : Flight) → IsFirst n fs place x → suc place < length fs
    → later ≡ get_or (remove fs place) place later → later.credit + x.credit ≤ credit_sum fs
credits-le-credit_sum n [] place x later h more is = absurd (omega (arith, h.within))
credits-le-credit_sum n (f ∷ []) zero x later h more is = absurd (omega arith)
credits-le-credit_sum n (f ∷ g ∷ fs) zero x later h more is =
    let e : f ≡ x = sym h.here in let e' : g ≡ later = sym is in rw (e, e') (omega arith)
credits-le-credit_sum n (f ∷ fs) (suc place) x later h more is =
    omega (arith, credits-le-credit_sum n fs place x later (past n f fs place x h) (omega arith) is)

-- What the flushes are then.

pub ended-well : (s : Flushes) (n place : ℕ) (x : Flight) → IsFirst n s.in_flight place x
    → after_end s n true ≡ record { start = s.start; finish = s.finish + x.credit; owed = s.owed; newest = max s.newest n; good = s.good + 1; in_flight = remove s.in_flight place }
ended-well s n place x h = rw (credit_of-first n s.in_flight place x h, without_flight-first n s.in_flight place x h) refl

pub ended-passed_on : (s : Flushes) (n place : ℕ) (x later : Flight) → IsFirst n s.in_flight place x → suc place < length s.in_flight
    → later ≡ get_or (remove s.in_flight place) place later
    → after_end s n false ≡ record { start = s.start; finish = s.finish; owed = s.owed; newest = s.newest; good = s.good; in_flight = slice_set (remove s.in_flight place) place (record { number = later.number; credit = later.credit + x.credit }) }
ended-passed_on s n place x later h more is =
    let none : s.owed + left_over n s.in_flight ≡ s.owed = omega (arith, left_over-first n s.in_flight place x h more) in
    rw (none, passed_on-first n s.in_flight place x later h more is) refl

pub ended-owed : (s : Flushes) (n place : ℕ) (x : Flight) → IsFirst n s.in_flight place x → length s.in_flight ≤ suc place
    → after_end s n false ≡ record { start = s.start; finish = s.finish; owed = s.owed + x.credit; newest = s.newest; good = s.good; in_flight = remove s.in_flight place }
ended-owed s n place x h last = rw (left_over-last n s.in_flight place x h last, passed_on-last n s.in_flight place x h last) refl

pub AreSound-well : {s : Flushes} → AreSound s → (n place : ℕ) (x : Flight) → IsFirst n s.in_flight place x
    → AreSound (record { start = s.start; finish = s.finish + x.credit; owed = s.owed; newest = max s.newest n; good = s.good + 1; in_flight = remove s.in_flight place })
AreSound-well {s} h n place x first =
    subst AreSound (ended-well s n place x first) (AreSound-ended s n true (is_in_flight-first n s.in_flight place x first) h)

pub AreSound-passed_on : {s : Flushes} → AreSound s → (n place : ℕ) (x later : Flight) → IsFirst n s.in_flight place x → suc place < length s.in_flight
    → later ≡ get_or (remove s.in_flight place) place later
    → AreSound (record { start = s.start; finish = s.finish; owed = s.owed; newest = s.newest; good = s.good; in_flight = slice_set (remove s.in_flight place) place (record { number = later.number; credit = later.credit + x.credit }) })
AreSound-passed_on {s} h n place x later first more is =
    subst AreSound (ended-passed_on s n place x later first more is) (AreSound-ended s n false (is_in_flight-first n s.in_flight place x first) h)

pub AreSound-owed : {s : Flushes} → AreSound s → (n place : ℕ) (x : Flight) → IsFirst n s.in_flight place x → length s.in_flight ≤ suc place
    → AreSound (record { start = s.start; finish = s.finish; owed = s.owed + x.credit; newest = s.newest; good = s.good; in_flight = remove s.in_flight place })
AreSound-owed {s} h n place x first last =
    subst AreSound (ended-owed s n place x first last) (AreSound-ended s n false (is_in_flight-first n s.in_flight place x first) h)

-- where no place was found
nowhere-cons : (n : ℕ) (f : Flight) (fs : List Flight) (b : Bool) → (f.number == n) ≡ b
    → length (f ∷ fs) ≤ position_or_len (λ (f : Flight). f.number == n) (f ∷ fs)
    → (length fs ≤ position_or_len (λ (f : Flight). f.number == n) fs → is_in_flight n fs ≡ false) → is_in_flight n (f ∷ fs) ≡ false
nowhere-cons n f fs true is past more = absurd (omega (arith, rw is at past))
nowhere-cons n f fs false is past more = rw is (more (omega (arith, rw is at past)))

nowhere : (n : ℕ) (fs : List Flight) → length fs ≤ position_or_len (λ (f : Flight). f.number == n) fs → is_in_flight n fs ≡ false
nowhere n [] past = refl
nowhere n (f ∷ fs) past = nowhere-cons n f fs (f.number == n) refl past (λ rest. nowhere n fs rest)

pub is_in_flight-none : (n : ℕ) (fs : List Flight) → position (λ (f : Flight). f.number == n) fs ≡ None → is_in_flight n fs ≡ false
is_in_flight-none n fs none = nowhere n fs (grind (arith, nat_tests))
