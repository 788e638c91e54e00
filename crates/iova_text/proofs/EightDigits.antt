-- Eight digits, each a byte of one number, the first in the lowest.
use Rattle.std.proofs.Common.{◌≡◌, ◌≢◌, ◌≤◌, ℕ, zero, suc, ◌+◌, ◌*◌, ◌/◌, ◌%◌, ◌^◌, ◌<◌, List, length, take, get_or, decimal, bit_and, refl, sym, ap, ◌∙◌, arith}
use Rattle.std.proofs.lemmas.Nat.{and_block, and_mask}
use Rattle.std.proofs.lemmas.Grind.{and_high_numeral}
use Rattle.std.proofs.lemmas.List.{get_or-take}
use Rattle.iova_text.proofs.Digits.{one_digit, digit_more}

-- the first number that so many bytes don't hold
abbrev end_of : ℕ → ℕ
end_of zero = 1
end_of (suc k) = end_of k * 256

-- so many bytes of 240, the high half of a byte
abbrev high_halves : ℕ → ℕ
high_halves zero = 0
high_halves (suc k) = high_halves k * 2 ^ 8 + 240

-- so many bytes of 6
abbrev sixes : ℕ → ℕ
sixes zero = 0
sixes (suc k) = sixes k * 256 + 6

-- each of so many bytes is below 10, and there are no more
abbrev pub AreDigits : ℕ → ℕ → Type 0
AreDigits zero w = w ≡ 0
AreDigits (suc k) w = (w % 256 < 10) × AreDigits k (w / 256)

-- no high half of the lowest byte, nor of those above it
low_half : (w m : ℕ) → bit_and w (m * 2 ^ 8 + 240) ≡ 0 → (bit_and (w / 256) m ≡ 0) × (w % 256 < 16)
low_half w m e =
    let whole : w ≡ w / 256 * 2 ^ 8 + w % 256 = omega arith in
    let parts : bit_and (w / 256) m * 2 ^ 8 + bit_and (w % 256) 240 ≡ 0 =
    sym (and_block 8 (w / 256) m (w % 256) 240 (omega arith) (omega arith)) ∙ (ap (λ (x : ℕ). bit_and x (m * 2 ^ 8 + 240)) (sym whole) ∙ e) in
    let half : bit_and (w % 256) 240 + w % 256 % 16 ≡ w % 256 = and_high_numeral (w % 256) 239 refl (omega arith) in
    (omega (arith, parts), omega (arith, parts, half))

-- with 6 more no such byte carries
six_fit : (k w : ℕ) → w < end_of k → bit_and w (high_halves k) ≡ 0 → w + sixes k < end_of k
six_fit zero w lt e = omega (arith, lt)
six_fit (suc k) w lt e =
    let low = low_half w (high_halves k) e in
    let above = six_fit k (w / 256) (omega (arith, lt)) low.0 in
    omega (arith, low.1, above)

are_digits : (k w : ℕ) → w < end_of k → bit_and w (high_halves k) ≡ 0 → bit_and (w + sixes k) (high_halves k) ≡ 0 → AreDigits k w
are_digits zero w lt e more = omega (arith, lt)
are_digits (suc k) w lt e more =
    let low = low_half w (high_halves k) e in
    let six = low_half (w + sixes (suc k)) (high_halves k) more in
    let above : (w + sixes (suc k)) / 256 ≡ w / 256 + sixes k = omega (arith, low.1) in
    let last : (w + sixes (suc k)) % 256 ≡ w % 256 + 6 = omega (arith, low.1) in
    (omega (arith, last, six.1), are_digits k (w / 256) (omega (arith, lt)) low.0 (ap (λ (x : ℕ). bit_and x (high_halves k)) (sym above) ∙ six.0))

pub eight_are : (w : ℕ) → w < 2 ^ 64 → bit_and w 17361641481138401520 ≡ 0 → bit_and ((w + 434041037028460038) % 18446744073709551616) 17361641481138401520 ≡ 0
    → AreDigits 8 w
eight_are w fits e more =
    let no_carry : (w + 434041037028460038) % 18446744073709551616 ≡ w + 434041037028460038 = omega (arith, six_fit 8 w fits e) in
    are_digits 8 w fits e (ap (λ (x : ℕ). bit_and x 17361641481138401520) (sym no_carry) ∙ more)

-- neighbours joined, of which the one before is in the lower bits
abbrev pub pairs_of : ℕ → ℕ
pairs_of w = bit_and (w * 10 + w / 256) 71777214294589695

abbrev pub fours_of : ℕ → ℕ
fours_of p = bit_and (p * 100 + p / 65536) 281470681808895

abbrev pub eight_of : ℕ → ℕ
eight_of q = bit_and (q * 10000 + q / 4294967296) 4294967295

keep_byte : (x m up lo : ℕ) → up < 256 → lo < 256 → bit_and (x * 2 ^ 16 + (up * 256 + lo)) (m * 2 ^ 16 + 255) ≡ bit_and x m * 2 ^ 16 + lo
keep_byte x m up lo few less =
    let low : bit_and (up * 256 + lo) 255 ≡ lo = and_mask (up * 256 + lo) 8 ∙ omega (arith, less) in
    and_block 16 x m (up * 256 + lo) 255 (omega (arith, few, less)) (omega arith) ∙ ap (λ (y : ℕ). bit_and x m * 2 ^ 16 + y) low

-- the number with these digits in its bytes, the first in the lowest
abbrev bytes_of : ℕ → ℕ → ℕ → ℕ → ℕ → ℕ → ℕ → ℕ → ℕ
bytes_of a b c d e f g h = a + 256 * (b + 256 * (c + 256 * (d + 256 * (e + 256 * (f + 256 * (g + 256 * h))))))

abbrev fours : ℕ → ℕ → ℕ → ℕ → ℕ
fours p q r s = p + 65536 * (q + 65536 * (r + 65536 * s))

pairs_are : (a b c d e f g h : ℕ) → a < 10 → b < 10 → c < 10 → d < 10 → e < 10 → f < 10 → g < 10 → h < 10
    → pairs_of (bytes_of a b c d e f g h) ≡ fours (10 * a + b) (10 * c + d) (10 * e + f) (10 * g + h)
pairs_are a b c d e f g h la lb lc ld le lf lg lh =
    let w = bytes_of a b c d e f g h in
    let p = 10 * a + b in
    let q = 10 * c + d in
    let r = 10 * e + f in
    let s = 10 * g + h in
    let next : w / 256 ≡ b + 256 * (c + 256 * (d + 256 * (e + 256 * (f + 256 * (g + 256 * h))))) = omega (arith, la) in
    let joined : w * 10 + w / 256
    ≡ (((10 * h * 256 + s) * 2 ^ 16 + ((10 * f + g) * 256 + r)) * 2 ^ 16 + ((10 * d + e) * 256 + q)) * 2 ^ 16 + ((10 * b + c) * 256 + p) = omega (arith, next) in
    let last : bit_and (10 * h * 256 + s) 255 ≡ s = and_mask (10 * h * 256 + s) 8 ∙ omega (arith, lg, lh) in
    let third = keep_byte (10 * h * 256 + s) 255 (10 * f + g) r (omega (arith, lf, lg)) (omega (arith, le, lf)) in
    let second = keep_byte ((10 * h * 256 + s) * 2 ^ 16 + ((10 * f + g) * 256 + r)) (255 * 2 ^ 16 + 255) (10 * d + e) q (omega (arith, ld, le)) (omega (arith, lc, ld)) in
    let first = keep_byte (((10 * h * 256 + s) * 2 ^ 16 + ((10 * f + g) * 256 + r)) * 2 ^ 16 + ((10 * d + e) * 256 + q)) ((255 * 2 ^ 16 + 255) * 2 ^ 16 + 255)
    (10 * b + c) p (omega (arith, lb, lc)) (omega (arith, la, lb)) in
    ap (λ (x : ℕ). bit_and x 71777214294589695) joined ∙ (first ∙ omega (arith, second, third, last))

fours_are : (p q r s : ℕ) → p < 100 → q < 100 → r < 100 → s < 100 → fours_of (fours p q r s) ≡ (100 * p + q) + 4294967296 * (100 * r + s)
fours_are p q r s lp lq lr ls =
    let next : fours p q r s / 65536 ≡ q + 65536 * (r + 65536 * s) = omega (arith, lp) in
    let joined : fours p q r s * 100 + fours p q r s / 65536
    ≡ (100 * s * 65536 + (100 * r + s)) * 2 ^ 32 + ((100 * q + r) * 65536 + (100 * p + q)) = omega (arith, next) in
    let high : bit_and (100 * s * 65536 + (100 * r + s)) 65535 ≡ 100 * r + s = and_mask (100 * s * 65536 + (100 * r + s)) 16 ∙ omega (arith, lr, ls) in
    let low : bit_and ((100 * q + r) * 65536 + (100 * p + q)) 65535 ≡ 100 * p + q = and_mask ((100 * q + r) * 65536 + (100 * p + q)) 16 ∙ omega (arith, lp, lq) in
    let parts = and_block 32 (100 * s * 65536 + (100 * r + s)) 65535 ((100 * q + r) * 65536 + (100 * p + q)) 65535 (omega (arith, lp, lq, lr)) (omega arith) in
    ap (λ (x : ℕ). bit_and x 281470681808895) joined ∙ (parts ∙ omega (arith, high, low))

eight_is : (p q : ℕ) → p < 10000 → q < 10000 → eight_of (p + 4294967296 * q) ≡ 10000 * p + q
eight_is p q lp lq = and_mask ((p + 4294967296 * q) * 10000 + (p + 4294967296 * q) / 4294967296) 32 ∙ omega (arith, lp, lq)

-- the number that they spell
abbrev value_of : ℕ → ℕ → ℕ → ℕ → ℕ → ℕ → ℕ → ℕ → ℕ
value_of a b c d e f g h = (((((((a * 10 + b) * 10 + c) * 10 + d) * 10 + e) * 10 + f) * 10 + g) * 10 + h)

joined_is : (a b c d e f g h : ℕ) → a < 10 → b < 10 → c < 10 → d < 10 → e < 10 → f < 10 → g < 10 → h < 10
    → eight_of (fours_of (pairs_of (bytes_of a b c d e f g h))) ≡ value_of a b c d e f g h
joined_is a b c d e f g h la lb lc ld le lf lg lh =
    let p = 10 * a + b in
    let q = 10 * c + d in
    let r = 10 * e + f in
    let s = 10 * g + h in
    let pairs = pairs_are a b c d e f g h la lb lc ld le lf lg lh in
    let fours = fours_are p q r s (omega (arith, la, lb)) (omega (arith, lc, ld)) (omega (arith, le, lf)) (omega (arith, lg, lh)) in
    let eight = eight_is (100 * p + q) (100 * r + s) (omega (arith, la, lb, lc, ld)) (omega (arith, le, lf, lg, lh)) in
    ap (λ (x : ℕ). eight_of (fours_of x)) pairs ∙ (ap eight_of fours ∙ (eight ∙ omega arith))

-- the lowest byte and those above it are separated in one way
low_byte : (b x bs xs : ℕ) → b < 256 → x < 256 → b + 256 * bs ≡ x + 256 * xs → (b ≡ x) × (bs ≡ xs)
low_byte b x bs xs lb lx e = (omega (arith, lb, lx, e), omega (arith, lb, lx, e))

-- these bytes of a text are these digits
pub record Spells (text : List ℕ) (n : ℕ) : Type 0 where
  pub spelled : take 8 text ≡ decimal n
  pub some : 0 < n
  pub fits : n < 10 ^ 8

spell : (text : List ℕ) (a b c d e f g h : ℕ) → 8 ≤ length text → 0 < a
    → a < 10 → b < 10 → c < 10 → d < 10 → e < 10 → f < 10 → g < 10 → h < 10
    → get_or text 0 0 ≡ 48 + a → get_or text 1 0 ≡ 48 + b → get_or text 2 0 ≡ 48 + c → get_or text 3 0 ≡ 48 + d
    → get_or text 4 0 ≡ 48 + e → get_or text 5 0 ≡ 48 + f → get_or text 6 0 ≡ 48 + g → get_or text 7 0 ≡ 48 + h
    → Spells text (value_of a b c d e f g h)
spell text a b c d e f g h long some la lb lc ld le lf lg lh ta tb tc td te tf tg th =
    let n1 = a in
    let n2 = n1 * 10 + b in
    let n3 = n2 * 10 + c in
    let n4 = n3 * 10 + d in
    let n5 = n4 * 10 + e in
    let n6 = n5 * 10 + f in
    let n7 = n6 * 10 + g in
    let s1 = one_digit text a (omega (arith, long)) ta la in
    let s2 = digit_more text n1 b 1 (omega (arith, long)) tb lb (omega (arith, some)) (omega (arith, la)) (omega arith) s1 in
    let s3 = digit_more text n2 c 2 (omega (arith, long)) tc lc (omega (arith, some)) (omega (arith, la, lb)) (omega arith) s2 in
    let s4 = digit_more text n3 d 3 (omega (arith, long)) td ld (omega (arith, some)) (omega (arith, la, lb, lc)) (omega arith) s3 in
    let s5 = digit_more text n4 e 4 (omega (arith, long)) te le (omega (arith, some)) (omega (arith, la, lb, lc, ld)) (omega arith) s4 in
    let s6 = digit_more text n5 f 5 (omega (arith, long)) tf lf (omega (arith, some)) (omega (arith, la, lb, lc, ld, le)) (omega arith) s5 in
    let s7 = digit_more text n6 g 6 (omega (arith, long)) tg lg (omega (arith, some)) (omega (arith, la, lb, lc, ld, le, lf)) (omega arith) s6 in
    let s8 = digit_more text n7 h 7 (omega (arith, long)) th lh (omega (arith, some)) (omega (arith, la, lb, lc, ld, le, lf, lg)) (omega arith) s7 in
    record {
      spelled = s8;
      some = omega (arith, some);
      fits = omega (arith, la, lb, lc, ld, le, lf, lg, lh);
    }

-- the text's first eight bytes are digits where each byte of the number less 48 is one
eight_spell : (text : List ℕ) (v w : ℕ) → 8 ≤ length text → ((i : ℕ) → get_or text i 0 < 256) → get_or text 0 0 ≢ 48
    → v ≡ get_or text 0 0 + 256 * (get_or text 1 0 + 256 * (get_or text 2 0 + 256 * (get_or text 3 0 + 256 * (get_or text 4 0
    + 256 * (get_or text 5 0 + 256 * (get_or text 6 0 + 256 * get_or text 7 0))))))
    → w ≡ (v + 14974415777481871312) % 18446744073709551616 → AreDigits 8 w → Spells text (eight_of (fours_of (pairs_of w)))
eight_spell text v w long byte first whole less are =
    let (la, (lb, (lc, (ld, (le, (lf, (lg, (lh, none)))))))) = are in
    let a = w % 256 in
    let b = w / 256 % 256 in
    let c = w / 256 / 256 % 256 in
    let d = w / 256 / 256 / 256 % 256 in
    let e = w / 256 / 256 / 256 / 256 % 256 in
    let f = w / 256 / 256 / 256 / 256 / 256 % 256 in
    let g = w / 256 / 256 / 256 / 256 / 256 / 256 % 256 in
    let h = w / 256 / 256 / 256 / 256 / 256 / 256 / 256 % 256 in
    let bytes : w ≡ bytes_of a b c d e f g h = omega (arith, none) in
    let back : v ≡ bytes_of (48 + a) (48 + b) (48 + c) (48 + d) (48 + e) (48 + f) (48 + g) (48 + h) =
    omega (arith, bytes, less, la, lb, lc, ld, le, lf, lg, lh, whole, byte 0, byte 1, byte 2, byte 3, byte 4, byte 5, byte 6, byte 7) in
    let same = sym whole ∙ back in
    let t0 = low_byte (get_or text 0 0) (48 + a) _ _ (byte 0) (omega (arith, la)) same in
    let t1 = low_byte (get_or text 1 0) (48 + b) _ _ (byte 1) (omega (arith, lb)) t0.1 in
    let t2 = low_byte (get_or text 2 0) (48 + c) _ _ (byte 2) (omega (arith, lc)) t1.1 in
    let t3 = low_byte (get_or text 3 0) (48 + d) _ _ (byte 3) (omega (arith, ld)) t2.1 in
    let t4 = low_byte (get_or text 4 0) (48 + e) _ _ (byte 4) (omega (arith, le)) t3.1 in
    let t5 = low_byte (get_or text 5 0) (48 + f) _ _ (byte 5) (omega (arith, lf)) t4.1 in
    let t6 = low_byte (get_or text 6 0) (48 + g) (get_or text 7 0) (48 + h) (byte 6) (omega (arith, lg)) t5.1 in
    let value = ap (λ (x : ℕ). eight_of (fours_of (pairs_of x))) bytes ∙ joined_is a b c d e f g h la lb lc ld le lf lg lh in
    rw value (spell text a b c d e f g h long (omega (arith, first, t0.0)) la lb lc ld le lf lg lh t0.0 t1.0 t2.0 t3.0 t4.0 t5.0 t6.0 t6.1)

-- the number whose bytes are less by 48 each, without a borrow
abbrev pub less_zeros : ℕ → ℕ
less_zeros v = (v + 14974415777481871312) % 18446744073709551616

-- so are they where both tests pass
pub tested_spell : (text front : List ℕ) (v : ℕ) → 8 ≤ length text → ((i : ℕ) → get_or text i 0 < 256) → get_or text 0 0 ≢ 48 → front ≡ take 8 text
    → v ≡ get_or front 0 0 + 256 * (get_or front 1 0 + 256 * (get_or front 2 0 + 256 * (get_or front 3 0 + 256 * (get_or front 4 0
    + 256 * (get_or front 5 0 + 256 * (get_or front 6 0 + 256 * get_or front 7 0))))))
    → bit_and (less_zeros v) 17361641481138401520 ≡ 0 → bit_and ((less_zeros v + 434041037028460038) % 18446744073709551616) 17361641481138401520 ≡ 0
    → Spells text (eight_of (fours_of (pairs_of (less_zeros v))))
tested_spell text front v long byte first same whole low high =
    let at : (i : ℕ) → i < 8 → get_or front i 0 ≡ get_or text i 0 = λ i lt. ap (λ (xs : List ℕ). get_or xs i 0) same ∙ get_or-take 8 text i 0 lt in
    eight_spell text v (less_zeros v) long byte first
    (omega (arith, whole, at 0 (omega arith), at 1 (omega arith), at 2 (omega arith), at 3 (omega arith), at 4 (omega arith), at 5 (omega arith), at 6 (omega arith), at 7 (omega arith)))
    refl (eight_are (less_zeros v) (omega arith) low high)
