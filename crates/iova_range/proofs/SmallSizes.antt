-- What a request for at most 32 frames is given, by trying each number; and the order of a size.
use Rattle.std.proofs.Common.{ℕ, zero, suc, ◌≡◌, ◌-◌, ◌*◌, ◌^◌, ◌≤◌, ◌<◌, ◌==◌, Bool, true, false, ◌&&◌, nat_lt, Some, refl, arith}
use Rattle.std.specs.Int.Count.{count_leading_zeros}
use Rattle.std.proofs.lemmas.Bool.Decides.{nat_tests}
use Rattle.iova_range.specs.Sizes.{need, order_of}
use Rattle.iova_range.proofs.Powers.{each_order}

-- the order that the highest digit of twice the frames, less one, gives
abbrev pub order_by_digits : ℕ → ℕ
order_by_digits frames = 63 - count_leading_zeros 64 (2 * frames - 1)

-- it is that of what a request for one frame more is given
abbrev is_right : ℕ → Bool
is_right n = nat_lt (order_by_digits (suc n)) 6 && (need (suc n) == 2 ^ order_by_digits (suc n))

abbrev all_below : (ℕ → Bool) → ℕ → Bool
all_below test zero = true
all_below test (suc n) = test n && all_below test n

at_below : (test : ℕ → Bool) (most n : ℕ) → all_below test most ≡ true → n < most → test n ≡ true
at_below test zero n all lt = absurd (omega arith)
at_below test (suc most) n all lt = step (n == most) refl (test most) refl (all_below test most) refl all (λ rest less. at_below test most n rest less)
  where
    step : (b : Bool) → (n == most) ≡ b → (t : Bool) → test most ≡ t → (a : Bool) → all_below test most ≡ a → (t && a) ≡ true
        → (all_below test most ≡ true → n < most → test n ≡ true) → test n ≡ true
    step true is true here a rest both more = let same : n ≡ most = grind (arith, nat_tests) in rw same here
    step false is true here true rest both more = more rest (grind (arith, nat_tests))
    step b is false here a rest both more = absurd cc
    step false is true here false rest both more = absurd cc

tried : all_below is_right 32 ≡ true
unfolding count_leading_zeros
tried = refl

low_and_right : (n : ℕ) → n < 32
    → (order_by_digits (suc n) < 6) × (need (suc n) ≡ 2 ^ order_by_digits (suc n))
low_and_right n lt = step (nat_lt (order_by_digits (suc n)) 6) refl
    (need (suc n) == 2 ^ order_by_digits (suc n)) refl (at_below is_right 32 n tried lt)
  where
    step : (a : Bool) → nat_lt (order_by_digits (suc n)) 6 ≡ a
        → (b : Bool) → (need (suc n) == 2 ^ order_by_digits (suc n)) ≡ b → (a && b) ≡ true
        → (order_by_digits (suc n) < 6) × (need (suc n) ≡ 2 ^ order_by_digits (suc n))
    step true low true same both = (grind (arith, nat_tests), grind (arith, nat_tests))
    step true low false same both = absurd cc
    step false low b same both = absurd cc

pub small_size : (frames : ℕ) → 1 ≤ frames → frames ≤ 32
    → (order_by_digits frames < 6) × (need frames ≡ 2 ^ order_by_digits frames)
small_size zero some few = absurd (omega arith)
small_size (suc n) some few = low_and_right n (omega arith)

pub order_of_power : (o : ℕ) → o < 6 → order_of (2 ^ o) ≡ Some o
order_of_power o lt = each_order (λ o. order_of (2 ^ o) ≡ Some o) refl refl refl refl refl refl o lt
