-- Hexadecimal digits, and the one number that they spell.
use Rattle.std.proofs.Common.{◌≡◌, ℕ, zero, suc, ◌+◌, ◌*◌, ◌/◌, ◌%◌, ◌^◌, ◌<◌, ◌≤◌, ◌⊎◌, inl, inr, List, [], ◌∷◌, ◌++◌, length, take, drop, get_or, refl, sym, ap, ◌∙◌, arith, codes, add-one, append_assoc, length-append, take-append-drop}
use Rattle.std.proofs.lemmas.Bool.{cases_lt, cond-true, cond-false, lt-ltb, le-ltb}
use Rattle.std.proofs.lemmas.List.{get_or_append_left, get_or-append-add, take_more, take_at, drop_at}
use Rattle.std.proofs.lemmas.Nat.{pow-add}
use Rattle.std.proofs.Math.Pow.{pow_mono}
use lib.Dec.{ltb}
use Rattle.iova_regions.specs.Text.{hex_digit, hex_digits, address_text}

pub length-hex_digits : (count n : ℕ) → length (hex_digits count n) ≡ count
length-hex_digits zero n = refl
length-hex_digits (suc count) n =
    omega (arith, length-append (hex_digits count (n / 16)) (hex_digit (n % 16) ∷ []), length-hex_digits count (n / 16))

digit_low : (d : ℕ) → d < 10 → hex_digit d ≡ 48 + d
digit_low d lt = cond-true (ltb d 10) (48 + d) (87 + d) (lt-ltb d 10 lt)

digit_high : (d : ℕ) → 10 ≤ d → hex_digit d ≡ 87 + d
digit_high d le = cond-false (ltb d 10) (48 + d) (87 + d) (le-ltb d 10 le)

same_digit : (a b : ℕ) → a < 16 → b < 16 → hex_digit a ≡ hex_digit b → a ≡ b
same_digit a b small other e = split (cases_lt a 10) (cases_lt b 10)
  where
    split : (a < 10) ⊎ (10 ≤ a) → (b < 10) ⊎ (10 ≤ b) → a ≡ b
    split (inl p) (inl q) = let f : 48 + a ≡ 48 + b = sym (digit_low a p) ∙ (e ∙ digit_low b q) in omega arith
    split (inl p) (inr q) = let f : 48 + a ≡ 87 + b = sym (digit_low a p) ∙ (e ∙ digit_high b q) in absurd (omega arith)
    split (inr p) (inl q) = let f : 87 + a ≡ 48 + b = sym (digit_high a p) ∙ (e ∙ digit_low b q) in absurd (omega arith)
    split (inr p) (inr q) = let f : 87 + a ≡ 87 + b = sym (digit_high a p) ∙ (e ∙ digit_high b q) in omega arith

last_parts : (xs ys : List ℕ) (a b : ℕ) → xs ++ a ∷ [] ≡ ys ++ b ∷ [] → (xs ≡ ys) × (a ≡ b)
last_parts [] [] a b e = (refl, cc)
last_parts [] (y ∷ ys) a b e = absurd (omega (arith, ap length e, length-append ys (b ∷ [])))
last_parts (x ∷ xs) [] a b e = absurd (omega (arith, ap length e, length-append xs (a ∷ [])))
last_parts (x ∷ xs) (y ∷ ys) a b e =
    let head : x ≡ y = cc in
    let tail : xs ++ a ∷ [] ≡ ys ++ b ∷ [] = cc in
    let r = last_parts xs ys a b tail in
    let front : xs ≡ ys = r.0 in
    (cc, r.1)

-- one digit more
fits_more : (i : ℕ) → 2 ^ (4 * (i + 1)) ≡ 16 * 2 ^ (4 * i)
fits_more i =
    let e : 4 * (i + 1) ≡ 4 + 4 * i = omega arith in ap (λ (k : ℕ). 2 ^ k) e ∙ pow-add 2 4 (4 * i)

-- digits spell one number of so many digits
pub same_number : (count n m : ℕ) → n < 2 ^ (4 * count) → m < 2 ^ (4 * count) → hex_digits count n ≡ hex_digits count m → n ≡ m
same_number zero n m small other e = omega arith
same_number (suc count) n m small other e =
    let power : 2 ^ (4 * suc count) ≡ 16 * 2 ^ (4 * count) = ap (λ (k : ℕ). 2 ^ (4 * k)) (sym (add-one count)) ∙ fits_more count in
    let ends = last_parts (hex_digits count (n / 16)) (hex_digits count (m / 16)) (hex_digit (n % 16)) (hex_digit (m % 16)) e in
    let high : n / 16 ≡ m / 16 = same_number count (n / 16) (m / 16) (omega arith) (omega arith) ends.0 in
    let low : n % 16 ≡ m % 16 = same_digit (n % 16) (m % 16) (omega arith) (omega arith) ends.1 in
    omega arith

-- each digit is one
pub digit_at : (count n i : ℕ) → i < count → (d : ℕ) × (d < 16) × (get_or (hex_digits count n) i 0 ≡ hex_digit d)
digit_at zero n i lt = absurd (omega arith)
digit_at (suc count) n i lt = split (cases_lt i count) (λ less. digit_at count (n / 16) i less)
  where
    split : (i < count) ⊎ (count ≤ i) → (i < count → (d : ℕ) × (d < 16) × (get_or (hex_digits count (n / 16)) i 0 ≡ hex_digit d))
        → (d : ℕ) × (d < 16) × (get_or (hex_digits (suc count) n) i 0 ≡ hex_digit d)
    split (inl less) before =
        let r = before less in
        let within : i < length (hex_digits count (n / 16)) = omega (arith, length-hex_digits count (n / 16)) in
        (r.0, r.1, get_or_append_left (hex_digits count (n / 16)) (hex_digit (n % 16) ∷ []) 0 i within ∙ r.2)
    split (inr at) before =
        let here : i ≡ length (hex_digits count (n / 16)) + 0 = omega (arith, length-hex_digits count (n / 16)) in (
          n % 16,
          omega arith,
          ap (λ (k : ℕ). get_or (hex_digits count (n / 16) ++ hex_digit (n % 16) ∷ []) k 0) here
              ∙ get_or-append-add (hex_digits count (n / 16)) (hex_digit (n % 16) ∷ []) 0 0,
        )

pub digits_more : (text : List ℕ) (i n d : ℕ) → i < length text → take i text ≡ hex_digits i n → d < 16 → get_or text i 0 ≡ hex_digit d
    → take (i + 1) text ≡ hex_digits (i + 1) (n * 16 + d)
digits_more text i n d lt e small is =
    let high : (n * 16 + d) / 16 ≡ n = omega arith in
    let low : (n * 16 + d) % 16 ≡ d = omega arith in
    let more : hex_digits (suc i) (n * 16 + d) ≡ hex_digits i n ++ hex_digit d ∷ [] =
    ap (λ (q : ℕ). hex_digits i q ++ hex_digit ((n * 16 + d) % 16) ∷ []) high ∙ ap (λ (r : ℕ). hex_digits i n ++ hex_digit r ∷ []) low in
    take_more text i 0 lt ∙ (ap (λ (x : List ℕ). x ++ get_or text i 0 ∷ []) e ∙ (ap (λ (b : ℕ). hex_digits i n ++ b ∷ []) is
    ∙ (sym more ∙ ap (λ (k : ℕ). hex_digits k (n * 16 + d)) (sym (add-one i)))))

pub number_more : (i n d : ℕ) → n < 2 ^ (4 * i) → d < 16 → n * 16 + d < 2 ^ (4 * (i + 1))
number_more i n d lt small = omega (arith, fits_more i)

pub number_fits : (i n d : ℕ) → i < 16 → n < 2 ^ (4 * i) → d < 16 → n * 16 + d < 2 ^ 64
number_fits i n d lt small digit =
    let within : 4 * (i + 1) ≤ 64 = omega arith in
    omega (arith, number_more i n d small digit, pow_mono within)

-- The 18 bytes of an address

pub address_whole : (text mark tail digits rest : List ℕ) (n : ℕ) → mark ≡ take 2 text → tail ≡ drop 2 text → digits ≡ take 16 tail → rest ≡ drop 16 tail
    → mark ≡ codes "0x" → digits ≡ hex_digits 16 n → text ≡ address_text n ++ rest
unfolding address_text
address_whole text mark tail digits rest n a b c d e f =
    let back : text ≡ mark ++ (digits ++ rest) =
    sym (take-append-drop 2 text) ∙ (ap (λ (x : List ℕ). x ++ drop 2 text) (sym a)
    ∙ ap (λ (x : List ℕ). mark ++ x) (sym b ∙ (sym (take-append-drop 16 tail) ∙ (ap (λ (x : List ℕ). x ++ drop 16 tail) (sym c) ∙ ap (λ (x : List ℕ). digits ++ x) (sym d))))) in
    back ∙ (ap (λ (x : List ℕ). x ++ (digits ++ rest)) e ∙ (ap (λ (x : List ℕ). codes "0x" ++ (x ++ rest)) f
    ∙ sym (append_assoc (codes "0x") (hex_digits 16 n) rest)))

pub address_parts : (text mark tail digits rest more : List ℕ) (n : ℕ) → mark ≡ take 2 text → tail ≡ drop 2 text → digits ≡ take 16 tail → rest ≡ drop 16 tail
    → text ≡ address_text n ++ more → (mark ≡ codes "0x") × (digits ≡ hex_digits 16 n) × (rest ≡ more)
unfolding address_text
address_parts text mark tail digits rest more n a b c d e =
    let whole : text ≡ codes "0x" ++ (hex_digits 16 n ++ more) = e ∙ append_assoc (codes "0x") (hex_digits 16 n) more in
    let end : tail ≡ hex_digits 16 n ++ more = b ∙ (ap (drop 2) whole ∙ drop_at (codes "0x") (hex_digits 16 n ++ more) 2 refl) in
    let long = length-hex_digits 16 n in (
      a ∙ (ap (take 2) whole ∙ take_at (codes "0x") (hex_digits 16 n ++ more) 2 refl),
      c ∙ (ap (take 16) end ∙ take_at (hex_digits 16 n) more 16 long),
      d ∙ (ap (drop 16) end ∙ drop_at (hex_digits 16 n) more 16 long),
    )

pub address_long : (text more : List ℕ) (n : ℕ) → text ≡ address_text n ++ more → 18 ≤ length text
unfolding address_text
address_long text more n e =
    let whole : text ≡ codes "0x" ++ (hex_digits 16 n ++ more) = e ∙ append_assoc (codes "0x") (hex_digits 16 n) more in
    let size : length text ≡ 2 + length (hex_digits 16 n ++ more) = ap length whole ∙ length-append (codes "0x") (hex_digits 16 n ++ more) in
    omega (arith, size, length-append (hex_digits 16 n) more, length-hex_digits 16 n)
