-- The least power of two that isn't below a number, computed and as a property.
use Rattle.std.proofs.Common.{ℕ, zero, suc, ◌≡◌, ◌+◌, ◌*◌, ◌/◌, ◌^◌, ◌<◌, ◌≤◌, ◌⊎◌, inl, inr, max, Bool, true, false, cond, refl, sym, ap, ◌∙◌, arith}
use Rattle.std.specs.Prelude.{nat_le}
use Rattle.std.specs.Int.{IsNextPowerOfTwo}
use Rattle.std.proofs.Math.Nat.{two-pow-succ}
use Rattle.std.proofs.lemmas.Bool.{cases_order}
use Rattle.std.proofs.lemmas.Bool.Decides.{nat_tests}
use Rattle.std.proofs.lemmas.Nat.{pow_below}
use Rattle.iova_range.specs.Sizes.{doubled_to, align_of}

-- 2^m is the first power of two that isn't below n
pub record IsFirstPower (n m : ℕ) : Type 0 where
  pub reaches : n ≤ 2 ^ m
  pub first : (i : ℕ) → i < m → 2 ^ i < n

pub first_power_unique : (n m k : ℕ) → IsFirstPower n m → IsFirstPower n k → m ≡ k
first_power_unique n m k a b = split (cases_order m k)
  where
    split : (m ≡ k) ⊎ ((m < k) ⊎ (k < m)) → m ≡ k
    split (inl e) = e
    split (inr (inl lt)) = let h : 2 ^ m < n = b.first m lt in let g : n ≤ 2 ^ m = a.reaches in absurd (omega arith)
    split (inr (inr lt)) = let h : 2 ^ k < n = a.first k lt in let g : n ≤ 2 ^ k = b.reaches in absurd (omega arith)

below_next : (n k : ℕ) → ((i : ℕ) → i < k → 2 ^ i < n) → 2 ^ k < n → (i : ℕ) → i < k + 1 → 2 ^ i < n
below_next n k below here i lt = split (cases_order i k)
  where
    split : (i ≡ k) ⊎ ((i < k) ⊎ (k < i)) → 2 ^ i < n
    split (inl e) = rw e here
    split (inr (inl less)) = below i less
    split (inr (inr more)) = absurd (omega arith)

-- one doubling more, where it is needed
doubled_step : (n times k : ℕ) (b : Bool) → nat_le n (2 ^ k) ≡ b → ((i : ℕ) → i < k → 2 ^ i < n)
    → (((i : ℕ) → i < k + 1 → 2 ^ i < n) → (m : ℕ) × (doubled_to n times (2 ^ (k + 1)) ≡ 2 ^ m) × IsFirstPower n m)
    → (m : ℕ) × (doubled_to n (suc times) (2 ^ k) ≡ 2 ^ m) × IsFirstPower n m
doubled_step n times k true is below more =
    (k, ap (λ (b : Bool). cond b (2 ^ k) (doubled_to n times (2 * 2 ^ k))) is, record { reaches = grind (arith, nat_tests); first = below })
doubled_step n times k false is below more =
    let here : 2 ^ k < n = grind (arith, nat_tests) in
    let twice : 2 * 2 ^ k ≡ 2 ^ (k + 1) = (let e : k + 1 ≡ suc k = omega arith in rw (e, two-pow-succ k) (omega arith)) in
    let rest = more (below_next n k below here) in
    (rest.0, ap (λ (b : Bool). cond b (2 ^ k) (doubled_to n times (2 * 2 ^ k))) is ∙ (ap (λ p. doubled_to n times p) twice ∙ rest.1), rest.2)

-- doubling from 2^k reaches the first power
pub doubled_to-first : (n times k : ℕ) → n ≤ 2 ^ (k + times) → ((i : ℕ) → i < k → 2 ^ i < n) → (m : ℕ) × (doubled_to n times (2 ^ k) ≡ 2 ^ m) × IsFirstPower n m
doubled_to-first n zero k fits below =
    let e : k + 0 ≡ k = omega arith in
    (k, refl, record { reaches = rw e at fits; first = below })
doubled_to-first n (suc times) k fits below =
    let e : k + suc times ≡ k + 1 + times = omega arith in
    doubled_step n times k (nat_le n (2 ^ k)) refl below (λ further. doubled_to-first n times (k + 1) (rw e at fits) further)

pub lt-two_pow : (n : ℕ) → n < 2 ^ n
lt-two_pow zero = omega arith
lt-two_pow (suc n) = rw (two-pow-succ n) (omega (arith, lt-two_pow n))

-- align_of is a power of two, the first that isn't below the size
pub align_of-first : (size : ℕ) → (m : ℕ) × (align_of size ≡ 2 ^ m) × IsFirstPower size m
align_of-first size = doubled_to-first size size 0 (let e : 0 + size ≡ size = omega arith in rw e (omega (arith, lt-two_pow size))) (λ i lt. absurd (omega arith))

half_pow : (k : ℕ) → 2 ^ suc k / 2 ≡ 2 ^ k
half_pow k = rw (two-pow-succ k) (omega arith)

-- std's form of the property
pub first_from_next : (n m : ℕ) → n ≤ 2 ^ m → 2 ^ m / 2 < max 1 n → 1 ≤ n → IsFirstPower n m
first_from_next n zero reaches half some = record { reaches = reaches; first = λ i lt. absurd (omega arith) }
first_from_next n (suc m) reaches half some = record {
  reaches = reaches;
  first = λ i lt.
      let h : 2 ^ m < n = (let g = rw (half_pow m) at half in omega arith) in
      split i (cases_order i m) lt h;
}
  where
    split : (i : ℕ) → (i ≡ m) ⊎ ((i < m) ⊎ (m < i)) → i < suc m → 2 ^ m < n → 2 ^ i < n
    split i (inl e) lt h = rw e h
    split i (inr (inl less)) lt h = let g = pow_below i m less in omega arith
    split i (inr (inr more)) lt h = absurd (omega arith)

next_from_first : (n m : ℕ) → 1 ≤ n → IsFirstPower n m → 2 ^ m / 2 < max 1 n
next_from_first n zero some f = omega arith
next_from_first n (suc m) some f = rw (half_pow m) (let h : 2 ^ m < n = f.first m (omega arith) in omega arith)

-- what has the property is what align_of computes
pub align_of-from_next : (size p : ℕ) → 1 ≤ size → IsNextPowerOfTwo size p → p ≡ align_of size
align_of-from_next size p some h =
    let a = align_of-first size in
    let m = h.0.0 in
    let is : p ≡ 2 ^ m = h.0.1 in
    let reaches : size ≤ 2 ^ m = rw is at h.1 in
    let half : 2 ^ m / 2 < max 1 size = rw is at h.2 in
    let e : m ≡ a.0 = first_power_unique size m a.0 (first_from_next size m reaches half some) a.2 in
    is ∙ (ap (λ k. 2 ^ k) e ∙ sym a.1)

-- and what it computes has it
pub align_of-is_next : (size : ℕ) → 1 ≤ size → IsNextPowerOfTwo size (align_of size)
align_of-is_next size some =
    let a = align_of-first size in
    ((a.0, a.1), rw a.1 a.2.reaches, rw a.1 (next_from_first size a.0 some a.2))

-- what holds of each order that has magazines holds of all
pub each_order : (P : ℕ → Type 0) → P 0 → P 1 → P 2 → P 3 → P 4 → P 5 → (order : ℕ) → order < 6 → P order
each_order P a b c d e f zero lt = a
each_order P a b c d e f (suc zero) lt = b
each_order P a b c d e f (suc (suc zero)) lt = c
each_order P a b c d e f (suc (suc (suc zero))) lt = d
each_order P a b c d e f (suc (suc (suc (suc zero)))) lt = e
each_order P a b c d e f (suc (suc (suc (suc (suc zero))))) lt = f
each_order P a b c d e f (suc (suc (suc (suc (suc (suc order)))))) lt = absurd (omega arith)
