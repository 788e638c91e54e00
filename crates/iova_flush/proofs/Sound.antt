-- A flush that begins or ends keeps what holds of the numbers.
use Rattle.std.proofs.Common.{ℕ, ◌≡◌, ◌+◌, ◌-◌, ◌^◌, ◌<◌, ◌≤◌, ◌==◌, max, Bool, true, false, List, [], ◌∷◌, ◌++◌, length, refl, subst, arith, length-append}
use Rattle.std.proofs.lemmas.Bool.Decides.{nat_tests}
use Rattle.iova_model.specs.declared.flight.Flight.{Flight}
use Rattle.iova_model.specs.Flushes.{Flushes, with_flight, after_end, is_in_flight, credit_of, without_flight, passed_on, left_over, credit_sum, NumbersRise, CreditsReach, AreSound}

-- Numbers that rise.

NumbersRise-below : (low low' : ℕ) (fs : List Flight) (top : ℕ) → low' ≤ low → NumbersRise low fs top → NumbersRise low' fs top
NumbersRise-below low low' [] top le r = omega arith
NumbersRise-below low low' (f ∷ fs) top le r = (omega arith, r.1)

NumbersRise-le : (low : ℕ) (fs : List Flight) (top : ℕ) → NumbersRise low fs top → low ≤ top
NumbersRise-le low [] top r = r
NumbersRise-le low (f ∷ fs) top r = omega (arith, NumbersRise-le f.number fs top r.1)

NumbersRise-push : (low : ℕ) (fs : List Flight) (top credit : ℕ) → NumbersRise low fs top
    → NumbersRise low (fs ++ record { number = top + 1; credit = credit } ∷ []) (top + 1)
NumbersRise-push low [] top credit r = (omega arith, omega arith)
NumbersRise-push low (f ∷ fs) top credit r = (r.0, NumbersRise-push f.number fs top credit r.1)

NumbersRise-without : (n low : ℕ) (fs : List Flight) (top : ℕ) → NumbersRise low fs top → NumbersRise low (without_flight n fs) top
NumbersRise-without n low [] top r = r
NumbersRise-without n low (f ∷ fs) top r =
    grind (arith, nat_tests, NumbersRise-without n f.number fs top r.1, NumbersRise-below f.number low fs top)

NumbersRise-passed_on : (n low : ℕ) (fs : List Flight) (top : ℕ) → NumbersRise low fs top → NumbersRise low (passed_on n fs) top
NumbersRise-passed_on n low [] top r = r
NumbersRise-passed_on n low (f ∷ []) top r = grind (arith, nat_tests)
NumbersRise-passed_on n low (f ∷ g ∷ fs) top r = grind (arith, nat_tests, NumbersRise-passed_on n f.number (g ∷ fs) top r.1)

-- a number in flight isn't above the start count, and is above what all are above
in_flight_le : (n low : ℕ) (fs : List Flight) (top : ℕ) → is_in_flight n fs ≡ true → NumbersRise low fs top → n ≤ top
in_flight_le n low [] top is r = absurd cc
in_flight_le n low (f ∷ fs) top is r = grind (arith, nat_tests, in_flight_le n f.number fs top, NumbersRise-le f.number fs top)

in_flight_above : (n low : ℕ) (fs : List Flight) (top : ℕ) → is_in_flight n fs ≡ true → NumbersRise low fs top → low < n
in_flight_above n low [] top is r = absurd cc
in_flight_above n low (f ∷ fs) top is r = grind (arith, nat_tests, in_flight_above n f.number fs top)

-- The sum of the credits, and how many flights there are.

credit_sum-append : (fs gs : List Flight) → credit_sum (fs ++ gs) ≡ credit_sum fs + credit_sum gs
credit_sum-append [] gs = omega arith
credit_sum-append (f ∷ fs) gs = omega (arith, credit_sum-append fs gs)

pub credit_sum-without : (n : ℕ) (fs : List Flight) → credit_of n fs + credit_sum (without_flight n fs) ≡ credit_sum fs
credit_sum-without n [] = refl
credit_sum-without n (f ∷ fs) = grind (arith, nat_tests, credit_sum-without n fs)

credit_sum-passed_on : (n : ℕ) (fs : List Flight) → credit_sum (passed_on n fs) + left_over n fs ≡ credit_sum fs
credit_sum-passed_on n [] = refl
credit_sum-passed_on n (f ∷ []) = grind (arith, nat_tests)
credit_sum-passed_on n (f ∷ g ∷ fs) = grind (arith, nat_tests, credit_sum-passed_on n (g ∷ fs))

length-without : (n : ℕ) (fs : List Flight) → is_in_flight n fs ≡ true → length (without_flight n fs) + 1 ≡ length fs
length-without n [] is = absurd cc
length-without n (f ∷ fs) is = grind (arith, nat_tests, length-without n fs)

length-passed_on : (n : ℕ) (fs : List Flight) → is_in_flight n fs ≡ true → length (passed_on n fs) + 1 ≡ length fs
length-passed_on n [] is = absurd cc
length-passed_on n (f ∷ []) is = grind (arith, nat_tests)
length-passed_on n (f ∷ g ∷ fs) is = grind (arith, nat_tests, length-passed_on n (g ∷ fs))

-- How far the credits reach.

CreditsReach-push : (newest finish : ℕ) (fs : List Flight) (g : Flight) → CreditsReach newest finish fs
    → g.number ≤ finish + credit_sum fs + g.credit → finish + credit_sum fs + g.credit ≤ max newest g.number
    → CreditsReach newest finish (fs ++ g ∷ [])
CreditsReach-push newest finish [] g c least most = (omega arith, omega arith, tt)
CreditsReach-push newest finish (f ∷ fs) g c least most =
    (c.0, c.1, CreditsReach-push newest (finish + f.credit) fs g c.2 (omega arith) (omega arith))

CreditsReach-later : (newest newest' finish : ℕ) (fs : List Flight) → newest ≤ newest' → CreditsReach newest finish fs → CreditsReach newest' finish fs
CreditsReach-later newest newest' finish [] le c = tt
CreditsReach-later newest newest' finish (f ∷ fs) le c =
    (c.0, omega arith, CreditsReach-later newest newest' (finish + f.credit) fs le c.2)

-- what is left where flight n ended well
record ReachesOn (newest finish n : ℕ) (fs : List Flight) : Type 0 where
  within : finish + credit_of n fs ≤ max newest n
  rest : CreditsReach (max newest n) (finish + credit_of n fs) (without_flight n fs)

ReachesOn-cons : (newest finish n : ℕ) (f : Flight) (fs : List Flight) → CreditsReach newest finish (f ∷ fs)
    → is_in_flight n (f ∷ fs) ≡ true → (b : Bool) → (f.number == n) ≡ b
    → (is_in_flight n fs ≡ true → ReachesOn newest (finish + f.credit) n fs) → ReachesOn newest finish n (f ∷ fs)
ReachesOn-cons newest finish n f fs c is_there true is more =
    let same : f.number ≡ n = grind (arith, nat_tests) in
    record { within = rw is (omega arith); rest = rw is (CreditsReach-later newest (max newest n) (finish + f.credit) fs (omega arith) c.2) }
ReachesOn-cons newest finish n f fs c is_there false is more =
    let e = more (rw is at is_there) in
    let sum : finish + f.credit + credit_of n fs ≡ finish + credit_of n fs + f.credit = omega arith in
    let P : ℕ → Type 0 = λ k. CreditsReach (max newest n) k (without_flight n fs) in
    record { within = rw is (omega (arith, e.within)); rest = rw is (omega (arith, c.0), omega (arith, e.within), subst P sum e.rest) }

ReachesOn-from : (newest finish n : ℕ) (fs : List Flight) → CreditsReach newest finish fs → is_in_flight n fs ≡ true → ReachesOn newest finish n fs
ReachesOn-from newest finish n [] c is = absurd cc
ReachesOn-from newest finish n (f ∷ fs) c is =
    ReachesOn-cons newest finish n f fs c is (f.number == n) refl (λ later. ReachesOn-from newest (finish + f.credit) n fs c.2 later)

CreditsReach-passed_on-cons : (newest finish n : ℕ) (f g : Flight) (fs : List Flight) → CreditsReach newest finish (f ∷ g ∷ fs)
    → (b : Bool) → (f.number == n) ≡ b → CreditsReach newest (finish + f.credit) (passed_on n (g ∷ fs))
    → CreditsReach newest finish (passed_on n (f ∷ g ∷ fs))
CreditsReach-passed_on-cons newest finish n f g fs c true is more =
    let sum : finish + f.credit + g.credit ≡ finish + (g.credit + f.credit) = omega arith in
    let P : ℕ → Type 0 = λ k. CreditsReach newest k fs in
    rw is (omega (arith, c.2.0), omega (arith, c.2.1), subst P sum c.2.2)
CreditsReach-passed_on-cons newest finish n f g fs c false is more = rw is (c.0, c.1, more)

CreditsReach-passed_on : (newest finish n : ℕ) (fs : List Flight) → CreditsReach newest finish fs → CreditsReach newest finish (passed_on n fs)
CreditsReach-passed_on newest finish n [] c = tt
CreditsReach-passed_on newest finish n (f ∷ []) c = grind (arith, nat_tests)
CreditsReach-passed_on newest finish n (f ∷ g ∷ fs) c =
    CreditsReach-passed_on-cons newest finish n f g fs c (f.number == n) refl (CreditsReach-passed_on newest (finish + f.credit) n (g ∷ fs) c.2)

-- All of it.

pub AreSound-begun : (s : Flushes) → length s.in_flight < 32 → s.start < 2 ^ 63 - 1 → AreSound s → AreSound (with_flight s)
AreSound-begun s room fresh h =
    let g : Flight = record { number = s.start + 1; credit = 1 + s.owed } in
    record {
      balance = omega (arith, credit_sum-append s.in_flight (g ∷ []), h.balance);
      rising = NumbersRise-push 0 s.in_flight s.start (1 + s.owed) h.rising;
      reach = CreditsReach-push s.newest s.finish s.in_flight g h.reach (omega (arith, h.balance)) (omega (arith, h.balance));
      newest = omega (arith, h.newest);
      finish = h.finish;
      good = omega (arith, length-append s.in_flight (g ∷ []), h.good);
      room = omega (arith, length-append s.in_flight (g ∷ []));
      worn = omega arith;
    }

pub AreSound-ended : (s : Flushes) (n : ℕ) (ok : Bool) → is_in_flight n s.in_flight ≡ true → AreSound s → AreSound (after_end s n ok)
AreSound-ended s n true is h =
    let e = ReachesOn-from s.newest s.finish n s.in_flight h.reach is in
    record {
      balance = omega (arith, credit_sum-without n s.in_flight, h.balance);
      rising = NumbersRise-without n 0 s.in_flight s.start h.rising;
      reach = e.rest;
      newest = omega (arith, h.newest, in_flight_le n 0 s.in_flight s.start is h.rising);
      finish = e.within;
      good = omega (arith, length-without n s.in_flight is, h.good);
      room = omega (arith, length-without n s.in_flight is, h.room);
      worn = h.worn;
    }
AreSound-ended s n false is h = record {
  balance = omega (arith, credit_sum-passed_on n s.in_flight, h.balance);
  rising = NumbersRise-passed_on n 0 s.in_flight s.start h.rising;
  reach = CreditsReach-passed_on s.newest s.finish n s.in_flight h.reach;
  newest = h.newest;
  finish = h.finish;
  good = omega (arith, length-passed_on n s.in_flight is, h.good);
  room = omega (arith, length-passed_on n s.in_flight is, h.room);
  worn = h.worn;
}

-- Where all numbers in flight are at least n, flight n is the first.

reaches-cons : (n newest finish : ℕ) (f : Flight) (fs : List Flight) (top : ℕ) → CreditsReach newest finish (f ∷ fs)
    → NumbersRise f.number fs top → is_in_flight n (f ∷ fs) ≡ true → n ≤ f.number
    → (b : Bool) → (f.number == n) ≡ b → n ≤ finish + credit_of n (f ∷ fs)
reaches-cons n newest finish f fs top c r is_there least true is =
    let same : f.number ≡ n = grind (arith, nat_tests) in
    rw is (omega (arith, c.0))
reaches-cons n newest finish f fs top c r is_there least false is =
    absurd (let above = in_flight_above n f.number fs top (rw is at is_there) r in omega arith)

reaches : (n newest finish low : ℕ) (fs : List Flight) (top : ℕ) → CreditsReach newest finish fs → NumbersRise low fs top
    → n ≤ low + 1 → is_in_flight n fs ≡ true → n ≤ finish + credit_of n fs
reaches n newest finish low [] top c r least is = absurd cc
reaches n newest finish low (f ∷ fs) top c r least is =
    reaches-cons n newest finish f fs top c r.1 is (omega arith) (f.number == n) refl

-- so the finish count reaches the number of the oldest flush that ends well
pub finish_reaches : (s : Flushes) (n : ℕ) → AreSound s → is_in_flight n s.in_flight ≡ true
    → NumbersRise (n - 1) s.in_flight s.start → n ≤ s.finish + credit_of n s.in_flight
finish_reaches s n h is oldest = reaches n s.newest s.finish (n - 1) s.in_flight s.start h.reach oldest (omega arith) is
