-- The room of a gap: what the definition says, and that what is computed is it.
use Rattle.std.proofs.Common.{ℕ, zero, suc, ◌≡◌, ◌+◌, ◌-◌, ◌*◌, ◌/◌, ◌%◌, ◌^◌, ◌<◌, ◌≤◌, ◌⊎◌, inl, inr, max, min, Bool, true, false, bit_xor, Option, Some, None, refl, sym, ap, ◌∙◌, arith}
use Rattle.std.specs.Prelude.{nat_le, nat_lt}
use Rattle.std.specs.Int.Bits.{xor_add_and}
use Rattle.std.proofs.lemmas.Bool.{and_parts, and_from}
use Rattle.std.proofs.lemmas.Bool.Decides.{nat_tests}
use Rattle.std.proofs.lemmas.Nat.{pow_pos, pow_below, mul-le, pow-add, xor_shr, and_le_l, div-add-mod'}
use Rattle.std.proofs.Math.Nat.{div-mul-le_self, le-div_iff_mul-le, lt_of_mul-lt-mul_right, suc-mul, mul_assoc, mul-mod_left, mod-lt, pow-le-pow_right}
use Rattle.std.proofs.Math.Pow.{shr_mono}
use Rattle.iova_range.specs.Sizes.{align_of}
use Rattle.iova_range.proofs.Powers.{IsFirstPower, first_power_unique, align_of-first}
use Rattle.iova_model.specs.Fit.{greatest}
use Rattle.iova_model.proofs.Placing.{greatest_none, greatest_some}
use Rattle.iova_tree.specs.Room.{FitsBetween, fits_between, or_zero, room_for, room}

-- Multiples.

pub multiple_le : (a m q : ℕ) → 0 < a → q * a ≤ m → q * a ≤ m / a * a
multiple_le a m q z h =
    let i : q ≤ m / a = (le-div_iff_mul-le {k = a} {x = q} {y = m} z).1 h in
    mul-le q a (m / a) a i (omega arith)

pub multiple_is : (a x : ℕ) → x % a ≡ 0 → x / a * a ≡ x
multiple_is a x h = let e = div-add-mod' x a in omega arith

pub align_of_pos : (size : ℕ) → 0 < align_of size
align_of_pos size = let f = align_of-first size in rw f.1 (pow_pos f.0)

-- multiples of the greater of two powers are multiples of the smaller
as_smaller : (k j q : ℕ) → k ≤ j → q * 2 ^ j ≡ q * 2 ^ (j - k) * 2 ^ k
as_smaller k j q h =
    let e : j ≡ (j - k) + k = omega arith in
    ap (λ z. q * 2 ^ z) e ∙ ap (λ z. q * z) (pow-add 2 (j - k) k) ∙ sym (mul_assoc q (2 ^ (j - k)) (2 ^ k))

multiple_smaller : (k j q : ℕ) → k ≤ j → q * 2 ^ j % 2 ^ k ≡ 0
multiple_smaller k j q h = ap (λ z. z % 2 ^ k) (as_smaller k j q h) ∙ mul-mod_left (q * 2 ^ (j - k)) (2 ^ k)

multiples_apart : (a x y : ℕ) → x * a < y * a → x * a + a ≤ y * a
multiples_apart a x y h =
    let lt : x < y = lt_of_mul-lt-mul_right a {m = x} {n = y} h in
    let m = mul-le (suc x) a y a (omega arith) (omega arith) in
    rw (suc-mul x a) at m

-- What the definition says.

pub fits-to : (from until size : ℕ) → fits_between from until size ≡ true → FitsBetween from until size
fits-to from until size h =
    let a = align_of size in
    let p = and_parts (nat_le size until) (nat_le from ((until - size) / a * a)) h in
    let e1 : nat_le size until ≡ true = p.0 in
    let e2 : nat_le from ((until - size) / a * a) ≡ true = p.1 in
    let le : size ≤ until = grind (arith, nat_tests) in
    let from_le : from ≤ (until - size) / a * a = grind (arith, nat_tests) in
    let d = div-mul-le_self (until - size) a in
    ((until - size) / a * a, mul-mod_left ((until - size) / a) a, from_le, omega arith)

pub fits-from : (from until size : ℕ) → FitsBetween from until size → fits_between from until size ≡ true
fits-from from until size f =
    let a = align_of size in
    let lo = f.0 in
    let start : from ≤ lo = f.2 in
    let end : lo + size ≤ until = f.3 in
    let is : lo / a * a ≡ lo = multiple_is a lo f.1 in
    let most : lo / a * a ≤ (until - size) / a * a = multiple_le a (until - size) (lo / a) (align_of_pos size) (omega arith) in
    and_from (nat_le size until) (nat_le from ((until - size) / a * a)) (grind (arith, nat_tests)) (let le : from ≤ (until - size) / a * a = omega arith in grind (arith, nat_tests))

covers_cases : (sizes from until size : ℕ) (o : Option ℕ) → greatest (fits_between from until) sizes ≡ o → size < sizes → FitsBetween from until size → size ≤ or_zero o
covers_cases sizes from until size None is lt f =
    let no = greatest_none (fits_between from until) sizes size is lt in
    let yes = fits-from from until size f in
    let both : true ≡ false = sym yes ∙ no in absurd cc
covers_cases sizes from until size (Some i) is lt f = (greatest_some (fits_between from until) sizes i is).most size lt (fits-from from until size f)

-- no size that fits is greater
pub room_for-covers : (sizes from until size : ℕ) → size < sizes → FitsBetween from until size → size ≤ room_for sizes from until
room_for-covers sizes from until size lt f = covers_cases sizes from until size _ refl lt f

fits_cases : (sizes from until : ℕ) (o : Option ℕ) → greatest (fits_between from until) sizes ≡ o → 1 ≤ or_zero o → FitsBetween from until (or_zero o)
fits_cases sizes from until None is some = absurd (omega arith)
fits_cases sizes from until (Some i) is some = fits-to from until i (greatest_some (fits_between from until) sizes i is).passes

-- and it fits itself
pub room_for-fits : (sizes from until : ℕ) → 1 ≤ room_for sizes from until → FitsBetween from until (room_for sizes from until)
room_for-fits sizes from until some = fits_cases sizes from until _ refl some

below_cases : (sizes from until : ℕ) (o : Option ℕ) → greatest (fits_between from until) sizes ≡ o → 0 < sizes → or_zero o < sizes
below_cases sizes from until None is some = some
below_cases sizes from until (Some i) is some = (greatest_some (fits_between from until) sizes i is).below

pub room_for-below : (sizes from until : ℕ) → 0 < sizes → room_for sizes from until < sizes
room_for-below sizes from until some = below_cases sizes from until _ refl some

pub room-covers : (from until size : ℕ) → size ≤ 1048576 → FitsBetween from until size → size ≤ room from until
unfolding room
room-covers from until size le f = room_for-covers 1048577 from until size (omega arith) f

pub room-fits : (from until : ℕ) → 1 ≤ room from until → FitsBetween from until (room from until)
unfolding room
room-fits from until some = room_for-fits 1048577 from until some

pub room-below : (from until : ℕ) → room from until < 1048577
unfolding room
room-below from until = room_for-below 1048577 from until (omega arith)

-- it is at most the number of the frames
pub room-short : (from until : ℕ) → room from until ≤ until - from
room-short from until = split (nat_le 1 (room from until)) refl
  where
    split : (b : Bool) → nat_le 1 (room from until) ≡ b → room from until ≤ until - from
    split true e =
        let f = room-fits from until (grind (arith, nat_tests)) in
        let start : from ≤ f.0 = f.2 in
        let end : f.0 + room from until ≤ until = f.3 in
        omega arith
    split false e = let none : room from until < 1 = grind (arith, nat_tests) in omega arith

-- nothing fits into nothing
pub room-nothing : (from until : ℕ) → until ≤ from → room from until ≡ 0
room-nothing from until le = split (room from until) refl
  where
    split : (n : ℕ) → room from until ≡ n → room from until ≡ 0
    split zero e = e
    split (suc n) e =
        let f = room-fits from until (omega arith) in
        absurd (omega (arith, f.2, f.3))

-- a number is the room if it fits, or is 0, and what fits isn't greater
pub room-is : (from until n : ℕ) → n ≤ 1048576 → (1 ≤ n → FitsBetween from until n) → ((size : ℕ) → 1 ≤ size → size ≤ 1048576 → FitsBetween from until size → size ≤ n) → n ≡ room from until
room-is from until n le fits most = omega (arith, up n le fits, down (room from until) refl)
  where
    up : (k : ℕ) → k ≤ 1048576 → (1 ≤ k → FitsBetween from until k) → k ≤ room from until
    up zero lt f = omega arith
    up (suc k) lt f = room-covers from until (suc k) lt (f (omega arith))

    down : (r : ℕ) → room from until ≡ r → room from until ≤ n
    down zero e = omega arith
    down (suc r) e = most (room from until) (omega arith) (omega (arith, room-below from until)) (room-fits from until (omega arith))

-- where a size fits, each smaller one does
pub fits-smaller : (from until big small : ℕ) → FitsBetween from until big → 1 ≤ small → small ≤ big → FitsBetween from until small
fits-smaller from until big small f some le =
    let b = align_of-first big in
    let s = align_of-first small in
    let power : s.0 ≤ b.0 = lower s.0 b.0 s.2 b.2 (nat_le s.0 b.0) refl in
    let lo = f.0 in
    let is : lo / 2 ^ b.0 * 2 ^ b.0 ≡ lo = multiple_is (2 ^ b.0) lo (rw b.1 at f.1) in
    let aligned : lo % 2 ^ s.0 ≡ 0 = ap (λ z. z % 2 ^ s.0) (sym is) ∙ multiple_smaller s.0 b.0 (lo / 2 ^ b.0) power in
    (lo, rw s.1 aligned, f.2, omega (arith, f.3))
  where
    lower : (k j : ℕ) → IsFirstPower small k → IsFirstPower big j → (t : Bool) → nat_le k j ≡ t → k ≤ j
    lower k j s b true e = grind (arith, nat_tests)
    lower k j s b false e =
        let lt : j < k = grind (arith, nat_tests) in
        let less : 2 ^ j < small = s.first j lt in
        let reaches : big ≤ 2 ^ j = b.reaches in
        absurd (omega arith)

-- What is computed.

-- a frame of the gap with the most factors of two: m * 2^j, and the gap reaches less than 2^j to either side
pub record IsSplit (from until j m : ℕ) : Type 0 where
  pub above_from : from ≤ m * 2 ^ j
  pub below_until : m * 2 ^ j < until
  pub near_until : until ≤ m * 2 ^ j + 2 ^ j
  pub near_from : m * 2 ^ j < from + 2 ^ j

-- between a multiple of 2^j less than 2^j above from, and from, there are only multiples of lesser powers
below_split_cases : (b : Bool) (j k q m from : ℕ) → nat_lt j k ≡ b → q * 2 ^ k < m * 2 ^ j → from ≤ q * 2 ^ k → m * 2 ^ j < from + 2 ^ j → q * 2 ^ k + 2 ^ k ≤ m * 2 ^ j
below_split_cases false j k q m from is h p d =
    let le : k ≤ j = grind (arith, nat_tests) in
    let e = as_smaller k j m le in
    rw e (multiples_apart (2 ^ k) q (m * 2 ^ (j - k)) (rw e at h))
below_split_cases true j k q m from is h p d =
    let lt : j < k = grind (arith, nat_tests) in
    let e = as_smaller j k q (omega arith) in
    let g : q * 2 ^ (k - j) * 2 ^ j + 2 ^ j ≤ m * 2 ^ j = multiples_apart (2 ^ j) (q * 2 ^ (k - j)) m (rw e at h) in
    let g2 : q * 2 ^ k + 2 ^ j ≤ m * 2 ^ j = rw e g in
    absurd (omega arith)

-- a size that fits ends up above the split, or its power does below
pub fits_where : (from until j m size : ℕ) → IsSplit from until j m → FitsBetween from until size → (size ≤ until - m * 2 ^ j) ⊎ ((k : ℕ) × (size ≤ 2 ^ k) × (2 ^ k ≤ m * 2 ^ j - from))
fits_where from until j m size s f = split (nat_le (m * 2 ^ j) f.0) refl
  where
    split : (b : Bool) → nat_le (m * 2 ^ j) f.0 ≡ b → (size ≤ until - m * 2 ^ j) ⊎ ((k : ℕ) × (size ≤ 2 ^ k) × (2 ^ k ≤ m * 2 ^ j - from))
    split true e =
        let le : m * 2 ^ j ≤ f.0 = grind (arith, nat_tests) in
        let end : f.0 + size ≤ until = f.3 in
        inl (omega arith)
    split false e =
        let lt : f.0 < m * 2 ^ j = grind (arith, nat_tests) in
        let start : from ≤ f.0 = f.2 in
        let a = align_of-first size in
        let k = a.0 in
        let q = f.0 / 2 ^ k in
        let is : q * 2 ^ k ≡ f.0 = multiple_is (2 ^ k) f.0 (rw a.1 at f.1) in
        let apart : q * 2 ^ k + 2 ^ k ≤ m * 2 ^ j = below_split_cases _ j k q m from refl (rw is lt) (rw is start) s.near_from in
        inr (k, a.2.reaches, omega arith)

-- what lies above the split fits there
pub above_fits : (from until j m : ℕ) → IsSplit from until j m → FitsBetween from until (until - m * 2 ^ j)
above_fits from until j m s =
    let above = until - m * 2 ^ j in
    let a = align_of-first above in
    let le : a.0 ≤ j = lower a.0 a.2 (nat_le a.0 j) refl in
    (m * 2 ^ j, rw a.1 (multiple_smaller a.0 j m le), s.above_from, omega (arith, s.below_until))
  where
    lower : (k : ℕ) → IsFirstPower (until - m * 2 ^ j) k → (t : Bool) → nat_le k j ≡ t → k ≤ j
    lower k f true e = grind (arith, nat_tests)
    lower k f false e =
        let less : 2 ^ j < until - m * 2 ^ j = f.first j (grind (arith, nat_tests)) in
        absurd (omega (arith, s.near_until))

align_of_power : (i : ℕ) → align_of (2 ^ i) ≡ 2 ^ i
align_of_power i =
    let a = align_of-first (2 ^ i) in
    let e : a.0 ≡ i = first_power_unique (2 ^ i) a.0 i a.2 (record { reaches = omega arith; first = λ l lt. pow_below l i lt }) in
    a.1 ∙ ap (λ z. 2 ^ z) e

less_power : (a x : ℕ) → a ≤ x * a → (x * a - a) % a ≡ 0
less_power a zero le = let e : zero * a - a ≡ 0 * a = omega arith in ap (λ z. z % a) e ∙ mul-mod_left 0 a
less_power a (suc x) le = let e : suc x * a - a ≡ x * a = (let s = suc-mul x a in omega arith) in ap (λ z. z % a) e ∙ mul-mod_left x a

-- a power of two that lies below the split fits right below it
pub below_fits : (from until j m i : ℕ) → IsSplit from until j m → 2 ^ i ≤ m * 2 ^ j - from → FitsBetween from until (2 ^ i)
below_fits from until j m i s le =
    let lt : i < j = lower (nat_lt i j) refl in
    let e = as_smaller i j m (omega arith) in
    let aligned : (m * 2 ^ j - 2 ^ i) % 2 ^ i ≡ 0 = ap (λ z. (z - 2 ^ i) % 2 ^ i) e ∙ less_power (2 ^ i) (m * 2 ^ (j - i)) (rw e at (let h : 2 ^ i ≤ m * 2 ^ j = omega arith in h)) in
    (m * 2 ^ j - 2 ^ i, rw (align_of_power i) aligned, omega (arith, pow_pos i), omega (arith, s.below_until))
  where
    lower : (b : Bool) → nat_lt i j ≡ b → i < j
    lower true e = grind (arith, nat_tests)
    lower false e =
        let ge : j ≤ i = grind (arith, nat_tests) in
        let p : 2 ^ j ≤ 2 ^ i = pow-le-pow_right (omega arith) ge in
        absurd (omega (arith, s.near_from, pow_pos j))

-- a power of two up to a number is no greater than the greatest such
power_le : (i k x : ℕ) → 2 ^ k ≤ x → x < 2 ^ (i + 1) → 2 ^ k ≤ 2 ^ i
power_le i k x h p = split (nat_le k i) refl
  where
    split : (b : Bool) → nat_le k i ≡ b → 2 ^ k ≤ 2 ^ i
    split true e = pow-le-pow_right (omega arith) (grind (arith, nat_tests))
    split false e =
        let lt : i < k = grind (arith, nat_tests) in
        let g : 2 ^ (i + 1) ≤ 2 ^ k = pow-le-pow_right (omega arith) (omega arith) in
        absurd (omega arith)

-- the room of a gap whose split is its first frame
pub room-above : (from until j m : ℕ) → IsSplit from until j m → m * 2 ^ j - from ≡ 0 → min (until - m * 2 ^ j) 1048576 ≡ room from until
room-above from until j m s none = room-is from until _ (omega arith) fits most
  where
    fits : 1 ≤ min (until - m * 2 ^ j) 1048576 → FitsBetween from until (min (until - m * 2 ^ j) 1048576)
    fits some = fits-smaller from until (until - m * 2 ^ j) _ (above_fits from until j m s) some (omega arith)

    most : (size : ℕ) → 1 ≤ size → size ≤ 1048576 → FitsBetween from until size → size ≤ min (until - m * 2 ^ j) 1048576
    most size some le f = elim (fits_where from until j m size s f) as (λ _. size ≤ min (until - m * 2 ^ j) 1048576) [
      | inl h ↦ omega arith
      | inr h ↦ absurd (omega (arith, h.1, h.2))
    ]

-- and of any other, with the greatest power of two that lies below the split
pub room-both : (from until j m i : ℕ) → IsSplit from until j m → 2 ^ i ≤ m * 2 ^ j - from → m * 2 ^ j - from < 2 ^ (i + 1) → min (max (until - m * 2 ^ j) (2 ^ i)) 1048576 ≡ room from until
room-both from until j m i s low high = room-is from until _ (omega arith) fits most
  where
    either : (b : Bool) → nat_le (2 ^ i) (until - m * 2 ^ j) ≡ b → FitsBetween from until (max (until - m * 2 ^ j) (2 ^ i))
    either true e =
        let le : 2 ^ i ≤ until - m * 2 ^ j = grind (arith, nat_tests) in
        let is : max (until - m * 2 ^ j) (2 ^ i) ≡ until - m * 2 ^ j = omega arith in
        rw is (above_fits from until j m s)
    either false e =
        let gt : until - m * 2 ^ j < 2 ^ i = grind (arith, nat_tests) in
        let is : max (until - m * 2 ^ j) (2 ^ i) ≡ 2 ^ i = omega arith in
        rw is (below_fits from until j m i s low)

    fits : 1 ≤ min (max (until - m * 2 ^ j) (2 ^ i)) 1048576 → FitsBetween from until (min (max (until - m * 2 ^ j) (2 ^ i)) 1048576)
    fits some = fits-smaller from until (max (until - m * 2 ^ j) (2 ^ i)) _ (either _ refl) some (omega arith)

    most : (size : ℕ) → 1 ≤ size → size ≤ 1048576 → FitsBetween from until size → size ≤ min (max (until - m * 2 ^ j) (2 ^ i)) 1048576
    most size some le f = elim (fits_where from until j m size s f) as (λ _. size ≤ min (max (until - m * 2 ^ j) (2 ^ i)) 1048576) [
      | inl h ↦ omega arith
      | inr h ↦ (let p = power_le i h.0 (m * 2 ^ j - from) h.2 high in omega (arith, h.1))
    ]

-- The split, from the highest digit in which two numbers differ.

quotient_one : (j d : ℕ) → 2 ^ j ≤ d → d < 2 ^ (j + 1) → d / 2 ^ j ≡ 1
quotient_one j d low high =
    let twice : 2 ^ (j + 1) ≡ 2 ^ j * 2 = pow-add 2 j 1 in
    let least : 1 ≤ d / 2 ^ j = (le-div_iff_mul-le {k = 2 ^ j} {x = 1} {y = d} (pow_pos j)).1 (omega arith) in
    let le = div-mul-le_self d (2 ^ j) in
    let most : d / 2 ^ j < 2 = lt_of_mul-lt-mul_right (2 ^ j) {m = d / 2 ^ j} {n = 2} (omega arith) in
    omega arith

next_quotient : (a b j : ℕ) → a < b → 2 ^ j ≤ bit_xor a b → bit_xor a b < 2 ^ (j + 1) → b / 2 ^ j ≡ a / 2 ^ j + 1
next_quotient a b j lt low high =
    let one : bit_xor (a / 2 ^ j) (b / 2 ^ j) ≡ 1 = sym (xor_shr a b j) ∙ quotient_one j (bit_xor a b) low high in
    let sum = xor_add_and (a / 2 ^ j) (b / 2 ^ j) in
    let both = and_le_l (a / 2 ^ j) (b / 2 ^ j) in
    let order : a / 2 ^ j ≤ b / 2 ^ j = shr_mono j (omega arith) in
    omega arith

pub split_at : (from until j : ℕ) → 1 ≤ from → from < until → 2 ^ j ≤ bit_xor (from - 1) (until - 1) → bit_xor (from - 1) (until - 1) < 2 ^ (j + 1) → IsSplit from until j ((until - 1) / 2 ^ j)
split_at from until j some lt low high =
    let next : (until - 1) / 2 ^ j ≡ (from - 1) / 2 ^ j + 1 = next_quotient (from - 1) (until - 1) j (omega arith) low high in
    let e1 = div-add-mod' (until - 1) (2 ^ j) in
    let e2 = div-add-mod' (from - 1) (2 ^ j) in
    let r1 : (until - 1) % 2 ^ j < 2 ^ j = mod-lt (until - 1) (pow_pos j) in
    let r2 : (from - 1) % 2 ^ j < 2 ^ j = mod-lt (from - 1) (pow_pos j) in
    let step : (until - 1) / 2 ^ j * 2 ^ j ≡ (from - 1) / 2 ^ j * 2 ^ j + 2 ^ j = ap (λ z. z * 2 ^ j) next ∙ (let e : (from - 1) / 2 ^ j + 1 ≡ suc ((from - 1) / 2 ^ j) = omega arith in ap (λ z. z * 2 ^ j) e ∙ suc-mul ((from - 1) / 2 ^ j) (2 ^ j)) in
    record { above_from = omega arith; below_until = omega arith; near_until = omega arith; near_from = omega arith }

pub differ : (a b : ℕ) → a < b → 0 < bit_xor a b
differ a b lt = let sum = xor_add_and a b in let both = and_le_l a b in omega arith

-- a gap has no more room than one around it
pub room_mono : (from until a b : ℕ) → from ≤ a → b ≤ until → room a b ≤ room from until
room_mono from until a b low high = split (nat_le 1 (room a b)) refl
  where
    split : (c : Bool) → nat_le 1 (room a b) ≡ c → room a b ≤ room from until
    split true e =
        let f = room-fits a b (grind (arith, nat_tests)) in
        let start : a ≤ f.0 = f.2 in
        let end : f.0 + room a b ≤ b = f.3 in
        let small = room-below a b in
        room-covers from until (room a b) (omega arith) (f.0, f.1, omega arith, omega arith)
    split false e = let none : room a b < 1 = grind (arith, nat_tests) in omega arith
