-- The flushes with their credits, and the rings. The two counts and the rings are those of Linux
-- 5.15 drivers/iommu/iova.c (iova_domain_flush, fq_ring_free, queue_iova); credits, failures and
-- numbers are our own.
use Rattle.std.specs.Prelude.{ℕ, ◌≡◌, ◌<◌, ◌≤◌, ◌+◌, ◌-◌, ◌^◌, ◌==◌, Bool, true, false, nat_lt, max, List, [], ◌∷◌, ◌++◌, length, if◌then◌else◌}
use Rattle.iova_range.specs.declared.limits.TheConstants.{MAX_FLIGHTS, MAX_SERIAL}
use Rattle.iova_range.specs.Frames.{Frames}
use Rattle.iova_model.specs.declared.flight.Flight.{Flight}
use Rattle.iova_model.specs.declared.entry.Entry.{Entry}

-- How many flushes have begun (`start`) and are accounted for (`finish`); the credit of failed
-- flushes that no newer flush in flight could take (`owed`); the greatest number that ended well
-- (`newest`) and how many did (`good`); the flushes in flight, rising by number.
pub record Flushes : Type 0 where
  pub start : ℕ
  pub finish : ℕ
  pub owed : ℕ
  pub newest : ℕ
  pub good : ℕ
  pub in_flight : List Flight

abbrev pub flushes_from : ℕ → Flushes
flushes_from n = record { start = n; finish = n; owed = 0; newest = n; good = 0; in_flight = [] }

-- a flush begins, with a credit of its own and all that is owed
abbrev pub with_flight : Flushes → Flushes
with_flight s = record {
  start = s.start + 1;
  finish = s.finish;
  owed = 0;
  newest = s.newest;
  good = s.good;
  in_flight = s.in_flight ++ record { number = s.start + 1; credit = 1 + s.owed } ∷ [];
}

abbrev pub is_in_flight : ℕ → List Flight → Bool
is_in_flight n [] = false
is_in_flight n (f ∷ fs) = if f.number == n then true else is_in_flight n fs

abbrev pub credit_of : ℕ → List Flight → ℕ
credit_of n [] = 0
credit_of n (f ∷ fs) = if f.number == n then f.credit else credit_of n fs

abbrev pub without_flight : ℕ → List Flight → List Flight
without_flight n [] = []
without_flight n (f ∷ fs) = if f.number == n then fs else f ∷ without_flight n fs

-- a credit goes to the first of these flights, if there is one
abbrev pub add_to_first : ℕ → List Flight → List Flight
add_to_first credit [] = []
add_to_first credit (f ∷ fs) = record { number = f.number; credit = f.credit + credit } ∷ fs

-- the flight leaves, and its credit goes to the one with the next greater number
abbrev pub passed_on : ℕ → List Flight → List Flight
passed_on n [] = []
passed_on n (f ∷ fs) = if f.number == n then add_to_first f.credit fs else f ∷ passed_on n fs

-- the credit of the flight where none has a greater number
abbrev pub left_over : ℕ → List Flight → ℕ
left_over n [] = 0
left_over n (f ∷ []) = if f.number == n then f.credit else 0
left_over n (f ∷ g ∷ fs) = if f.number == n then 0 else left_over n (g ∷ fs)

-- A flush that ended well adds its credit to the finish count; one that failed passes it on, and
-- the last one's is owed.
abbrev pub after_end : Flushes → ℕ → Bool → Flushes
after_end s n true = record {
  start = s.start;
  finish = s.finish + credit_of n s.in_flight;
  owed = s.owed;
  newest = max s.newest n;
  good = s.good + 1;
  in_flight = without_flight n s.in_flight;
}
after_end s n false = record {
  start = s.start;
  finish = s.finish;
  owed = s.owed + left_over n s.in_flight;
  newest = s.newest;
  good = s.good;
  in_flight = passed_on n s.in_flight;
}

-- What holds of the numbers after any flushes.

-- all credits in flight
abbrev pub credit_sum : List Flight → ℕ
credit_sum [] = 0
credit_sum (f ∷ fs) = f.credit + credit_sum fs

-- the numbers rise, above `low` and up to `top`
abbrev pub NumbersRise : ℕ → List Flight → ℕ → Type 0
NumbersRise low [] top = low ≤ top
NumbersRise low (f ∷ fs) top = (low < f.number) × NumbersRise f.number fs top

-- Were all flights up to one to end well, the finish count would reach that one's number, and not
-- pass the greatest number that had then ended well.
abbrev pub CreditsReach : ℕ → ℕ → List Flight → Type 0
CreditsReach newest finish [] = Unit {0}
CreditsReach newest finish (f ∷ fs) =
    (f.number ≤ finish + f.credit) × (finish + f.credit ≤ max newest f.number)
    × CreditsReach newest (finish + f.credit) fs

pub record AreSound (s : Flushes) : Type 0 where
  pub balance : s.start ≡ s.finish + credit_sum s.in_flight + s.owed
  pub rising : NumbersRise 0 s.in_flight s.start
  pub reach : CreditsReach s.newest s.finish s.in_flight
  pub newest : s.newest ≤ s.start
  pub finish : s.finish ≤ s.newest
  pub good : s.good + length s.in_flight ≤ s.start
  pub room : length s.in_flight ≤ MAX_FLIGHTS
  pub worn : s.start ≤ MAX_SERIAL

-- Rings, oldest entry first.

abbrev pub entry_range : Entry → Frames
entry_range e = record { lo = e.lo; len = e.len }

-- What a drain takes out: the longest prefix whose counts are all below the finish count. The rest
-- stays. fq_ring_free
abbrev pub flushed_front : ℕ → List Entry → List Entry
flushed_front finish [] = []
flushed_front finish (e ∷ es) = if nat_lt e.count finish then e ∷ flushed_front finish es else []

abbrev pub unflushed_rest : ℕ → List Entry → List Entry
unflushed_rest finish [] = []
unflushed_rest finish (e ∷ es) = if nat_lt e.count finish then unflushed_rest finish es else e ∷ es

-- the counts don't fall, from `low` up to `top`
abbrev pub CountsRise : ℕ → List Entry → ℕ → Type 0
CountsRise low [] top = low ≤ top
CountsRise low (e ∷ es) top = (low ≤ e.count) × CountsRise e.count es top
