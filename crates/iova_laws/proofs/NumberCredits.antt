-- Flights in flight, as they come and go: their numbers, their credits, and how many there are.
use Rattle.std.proofs.Common.{ℕ, ◌≡◌, ◌+◌, ◌<◌, ◌≤◌, ◌==◌, max, Bool, true, false, List, [], ◌∷◌, ◌++◌, length, refl, subst, arith}
use Rattle.std.proofs.lemmas.Bool.Decides.{nat_tests}
use Rattle.iova_model.specs.declared.flight.Flight.{Flight}
use Rattle.iova_model.specs.Flushes.{is_in_flight, credit_of, without_flight, passed_on, left_over, credit_sum, NumbersRise, CreditsReach}

-- The numbers.

-- numbers above one bound are above a lower one
numbers_from : (low low' : ℕ) (fs : List Flight) (top : ℕ) → low' ≤ low → NumbersRise low fs top → NumbersRise low' fs top
numbers_from low low' [] top le rise = omega arith
numbers_from low low' (f ∷ fs) top le rise = (omega arith, rise.1)

-- their bounds are in order
numbers_in_order : (low : ℕ) (fs : List Flight) (top : ℕ) → NumbersRise low fs top → low ≤ top
numbers_in_order low [] top rise = rise
numbers_in_order low (f ∷ fs) top rise = omega (arith, numbers_in_order f.number fs top rise.1)

-- the number of a flight is above the lower one
pub in_flight_above : (n low : ℕ) (fs : List Flight) (top : ℕ) → is_in_flight n fs ≡ true → NumbersRise low fs top → low < n
in_flight_above n low [] top flies rise = absurd cc
in_flight_above n low (f ∷ fs) top flies rise = grind (arith, nat_tests, in_flight_above n f.number fs top)

-- and none above the upper one
pub in_flight_begun : (n low : ℕ) (fs : List Flight) (top : ℕ) → is_in_flight n fs ≡ true → NumbersRise low fs top → n ≤ top
in_flight_begun n low [] top flies rise = absurd cc
in_flight_begun n low (f ∷ fs) top flies rise = grind (arith, nat_tests, in_flight_begun n f.number fs top, numbers_in_order f.number fs top)

-- a new flight, with the next number, goes last
pub numbers_push : (low : ℕ) (fs : List Flight) (top credit : ℕ) → NumbersRise low fs top → NumbersRise low (fs ++ record { number = top + 1; credit = credit } ∷ []) (top + 1)
numbers_push low [] top credit rise = (omega arith, omega arith)
numbers_push low (f ∷ fs) top credit rise = (rise.0, numbers_push f.number fs top credit rise.1)

-- a flight that ends well leaves the others in order
pub numbers_without : (n low : ℕ) (fs : List Flight) (top : ℕ) → NumbersRise low fs top → NumbersRise low (without_flight n fs) top
numbers_without n low [] top rise = rise
numbers_without n low (f ∷ fs) top rise = grind (arith, nat_tests, numbers_without n f.number fs top rise.1, numbers_from f.number low fs top)

-- and so does one that fails
pub numbers_passed : (n low : ℕ) (fs : List Flight) (top : ℕ) → NumbersRise low fs top → NumbersRise low (passed_on n fs) top
numbers_passed n low [] top rise = rise
numbers_passed n low (f ∷ []) top rise = grind (arith, nat_tests)
numbers_passed n low (f ∷ g ∷ fs) top rise = grind (arith, nat_tests, numbers_passed n f.number (g ∷ fs) top rise.1)

-- How many there are.

-- one less where a flight ends well
pub length-without_flight : (n : ℕ) (fs : List Flight) → is_in_flight n fs ≡ true → length (without_flight n fs) + 1 ≡ length fs
length-without_flight n [] flies = absurd cc
length-without_flight n (f ∷ fs) flies = grind (arith, nat_tests, length-without_flight n fs)

-- and one less where it fails
pub length-passed_on : (n : ℕ) (fs : List Flight) → is_in_flight n fs ≡ true → length (passed_on n fs) + 1 ≡ length fs
length-passed_on n [] flies = absurd cc
length-passed_on n (f ∷ []) flies = grind (arith, nat_tests)
length-passed_on n (f ∷ g ∷ fs) flies = grind (arith, nat_tests, length-passed_on n (g ∷ fs))

-- The sum of the credits.

-- over two lists
pub credit_sum-append : (fs gs : List Flight) → credit_sum (fs ++ gs) ≡ credit_sum fs + credit_sum gs
credit_sum-append [] gs = omega arith
credit_sum-append (f ∷ fs) gs = omega (arith, credit_sum-append fs gs)

-- a flight that ends well takes its credit along
pub credits_without : (n : ℕ) (fs : List Flight) → credit_of n fs + credit_sum (without_flight n fs) ≡ credit_sum fs
credits_without n [] = refl
credits_without n (f ∷ fs) = grind (arith, nat_tests, credits_without n fs)

-- the credit of one that fails goes to another, or is left over
pub credits_passed : (n : ℕ) (fs : List Flight) → credit_sum (passed_on n fs) + left_over n fs ≡ credit_sum fs
credits_passed n [] = refl
credits_passed n (f ∷ []) = grind (arith, nat_tests)
credits_passed n (f ∷ g ∷ fs) = grind (arith, nat_tests, credits_passed n (g ∷ fs))

-- What the credits reach.

-- a new flight goes last, whose own credit takes the sum of all as far as its number
pub reach_push : (newest finish : ℕ) (fs : List Flight) (g : Flight) → CreditsReach newest finish fs → g.number ≤ finish + credit_sum fs + g.credit → finish + credit_sum fs + g.credit ≤ max newest g.number
    → CreditsReach newest finish (fs ++ g ∷ [])
reach_push newest finish [] g reach least most = (omega arith, omega arith, tt)
reach_push newest finish (f ∷ fs) g reach least most = (reach.0, reach.1, reach_push newest (finish + f.credit) fs g reach.2 (omega arith) (omega arith))

-- a newer flush ended well
reach_newer : (newest newest' finish : ℕ) (fs : List Flight) → newest ≤ newest' → CreditsReach newest finish fs → CreditsReach newest' finish fs
reach_newer newest newest' finish [] le reach = tt
reach_newer newest newest' finish (f ∷ fs) le reach = (reach.0, omega arith, reach_newer newest newest' (finish + f.credit) fs le reach.2)

-- flight n has ended well: the finish count is none above the newest that did, and the others reach as far as before
pub record ReachesWithout (newest finish n : ℕ) (fs : List Flight) : Type 0 where
  pub within : finish + credit_of n fs ≤ max newest n
  pub others : CreditsReach (max newest n) (finish + credit_of n fs) (without_flight n fs)

-- the first flight is that one, or it isn't
without_step : (newest finish n : ℕ) (f : Flight) (fs : List Flight) → CreditsReach newest finish (f ∷ fs) → is_in_flight n (f ∷ fs) ≡ true → (b : Bool) → (f.number == n) ≡ b
    → (is_in_flight n fs ≡ true → ReachesWithout newest (finish + f.credit) n fs) → ReachesWithout newest finish n (f ∷ fs)
without_step newest finish n f fs reach flies true is later =
    let same : f.number ≡ n = grind (arith, nat_tests) in
    record { within = rw is (omega arith); others = rw is (reach_newer newest (max newest n) (finish + f.credit) fs (omega arith) reach.2) }
without_step newest finish n f fs reach flies false is later =
    let rest = later (rw is at flies) in
    let sum : finish + f.credit + credit_of n fs ≡ finish + credit_of n fs + f.credit = omega arith in
    record {
      within = rw is (omega (arith, rest.within));
      others = rw is (omega (arith, reach.0), omega (arith, rest.within), subst (λ k. CreditsReach (max newest n) k (without_flight n fs)) sum rest.others);
    }

-- a flight in flight ends well
pub reach_without : (newest finish n : ℕ) (fs : List Flight) → CreditsReach newest finish fs → is_in_flight n fs ≡ true → ReachesWithout newest finish n fs
reach_without newest finish n [] reach flies = absurd cc
reach_without newest finish n (f ∷ fs) reach flies =
    without_step newest finish n f fs reach flies (f.number == n) refl (λ later. reach_without newest (finish + f.credit) n fs reach.2 later)

-- the first of two flights is the one that failed, or it isn't
passed_step : (newest finish n : ℕ) (f g : Flight) (fs : List Flight) → CreditsReach newest finish (f ∷ g ∷ fs) → (b : Bool) → (f.number == n) ≡ b
    → CreditsReach newest (finish + f.credit) (passed_on n (g ∷ fs)) → CreditsReach newest finish (passed_on n (f ∷ g ∷ fs))
passed_step newest finish n f g fs reach true is later =
    let sum : finish + f.credit + g.credit ≡ finish + (g.credit + f.credit) = omega arith in
    rw is (omega (arith, reach.2.0), omega (arith, reach.2.1), subst (λ k. CreditsReach newest k fs) sum reach.2.2)
passed_step newest finish n f g fs reach false is later = rw is (reach.0, reach.1, later)

-- flight n has failed, and the others reach as far as before
pub reach_passed : (newest finish n : ℕ) (fs : List Flight) → CreditsReach newest finish fs → CreditsReach newest finish (passed_on n fs)
reach_passed newest finish n [] reach = tt
reach_passed newest finish n (f ∷ []) reach = grind (arith, nat_tests)
reach_passed newest finish n (f ∷ g ∷ fs) reach =
    passed_step newest finish n f g fs reach (f.number == n) refl (reach_passed newest (finish + f.credit) n (g ∷ fs) reach.2)
