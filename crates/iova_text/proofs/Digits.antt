-- Digits at the front of a text, and the number that they spell.
use Rattle.std.proofs.Common.{◌≡◌, ℕ, ◌+◌, ◌-◌, ◌*◌, ◌/◌, ◌%◌, ◌^◌, ◌<◌, ◌≤◌, ◌⊎◌, inl, inr, true, List, [], ◌∷◌, ◌++◌, length, take, drop, get_or, decimal, refl, sym, ap, ◌∙◌, arith, rules, ◌≢◌}
use Rattle.std.specs.Char.{is_ascii_digit}
use Rattle.std.specs.List.{list_all}
use Rattle.std.proofs.lemmas.Bool.{cases_eq}
use Rattle.std.proofs.lemmas.List.{take_more, take-append-drop, length-take, get_or-take}
use Rattle.std.proofs.Math.Nat.{pow-le-pow_right}
use Rattle.std.proofs.lemmas.Grind.{pow_more}
use Rattle.std.proofs.lemmas.Fmt.{digits_decimal, digits_value-decimal, decimal_digit, decimal_step, first_decimal, decimal-digits_value}
use Rattle.std.proofs.lemmas.Str.Parse.{IsNumeralModel, numerals_by_fold}
use Rattle.iova_text.specs.Reading.{stops}
use Rattle.iova_text.proofs.Cuts.{list_all-more, run_front, run_once}

-- digits read from the left, after the number so far
abbrev pub read_on : ℕ → List ℕ → ℕ
read_on n [] = n
read_on n (c ∷ cs) = read_on (10 * n + (c - 48)) cs

pub own : IsNumeralModel (λ ds. list_all is_ascii_digit ds ≡ true) (read_on 0)
own = numerals_by_fold _ (search rules) read_on (search rules)

pub read_on-append : (n : ℕ) (xs ys : List ℕ) → read_on n (xs ++ ys) ≡ read_on (read_on n xs) ys
read_on-append n [] ys = refl
read_on-append n (x ∷ xs) ys = read_on-append (10 * n + (x - 48)) xs ys

-- further digits make no number less
pub read_on-le : (n : ℕ) (xs : List ℕ) → n ≤ read_on n xs
read_on-le n [] = omega arith
read_on-le n (x ∷ xs) = omega (arith, read_on-le (10 * n + (x - 48)) xs)

pub decimal-digits : (n : ℕ) → n < 2 ^ 64 → list_all is_ascii_digit (decimal n) ≡ true
decimal-digits n fits = digits_decimal own n fits

pub read_on-decimal : (n : ℕ) → n < 2 ^ 64 → read_on 0 (decimal n) ≡ n
read_on-decimal n fits = digits_value-decimal own n fits

-- digits at the front of a number's text spell no greater number
pub front-le : (xs ys rest : List ℕ) (n : ℕ) → n < 2 ^ 64 → list_all is_ascii_digit xs ≡ true → stops is_ascii_digit rest ≡ true
    → xs ++ ys ≡ decimal n ++ rest → read_on 0 xs ≤ n
front-le xs ys rest n fits digits stop e =
    let r = run_front is_ascii_digit xs ys (decimal n) rest digits (decimal-digits n fits) stop e in
    let whole : read_on 0 (decimal n) ≡ read_on (read_on 0 xs) r.0 = ap (read_on 0) r.1 ∙ read_on-append 0 xs r.0 in
    omega (arith, whole, read_on-decimal n fits, read_on-le (read_on 0 xs) r.0)

-- what one digit more spells
pub read_on-more : (text : List ℕ) (len : ℕ) → len < length text → read_on 0 (take (len + 1) text) ≡ read_on 0 (take len text) * 10 + (get_or text len 0 - 48)
read_on-more text len lt =
    rw (take_more text len 0 lt, read_on-append 0 (take len text) (get_or text len 0 ∷ [])) (omega arith)

-- a number's text spells a number of 64 bits with each digit more
pub next_fits : (text rest : List ℕ) (n len : ℕ) → n < 2 ^ 64 → stops is_ascii_digit rest ≡ true → text ≡ decimal n ++ rest
    → len < length text → list_all is_ascii_digit (take len text) ≡ true → is_ascii_digit (get_or text len 0) ≡ true
    → read_on 0 (take len text) * 10 + (get_or text len 0 - 48) < 2 ^ 64
next_fits text rest n len fits stop e lt digits pass =
    let le = front-le (take (len + 1) text) (drop (len + 1) text) rest n fits (list_all-more is_ascii_digit text len lt digits pass) stop (take-append-drop (len + 1) text ∙ e) in
    omega (arith, read_on-more text len lt, le)

-- so few digits spell a number of 64 bits, whichever they are
pub digit_fits : (n digit len : ℕ) → n < 10 ^ len → digit < 10 → len < 19 → (n * 10 + digit < 10 ^ (len + 1)) × (n * 10 + digit < 2 ^ 64)
digit_fits n digit len fits few sure =
    let more : n * 10 + digit < 10 ^ (len + 1) = rw (pow_more 10 len) (omega (arith, fits, few)) in
    let most : 10 ^ (len + 1) ≤ 10 ^ 19 = pow-le-pow_right {n = 10} (omega arith) {i = len + 1} {j = 19} (omega (arith, sure)) in
    (more, omega (arith, more, most))

-- one digit more behind a number that is not 0
pub decimal_more : (n digit : ℕ) → 0 < n → digit < 10 → n * 10 + digit < 2 ^ 64 → decimal n ++ (48 + digit) ∷ [] ≡ decimal (n * 10 + digit)
decimal_more n digit some few fits =
    let front : (n * 10 + digit) / 10 ≡ n = omega (arith, few) in
    let last : (n * 10 + digit) % 10 ≡ digit = omega (arith, few) in
    let step = decimal_step (n * 10 + digit) (omega (arith, some)) fits in
    sym (step ∙ ap (λ (x : ℕ). decimal x ++ (48 + (n * 10 + digit) % 10) ∷ []) front ∙ ap (λ (x : ℕ). decimal n ++ (48 + x) ∷ []) last)

-- all digits at the front are the number's text
pub front_is : (xs ys rest : List ℕ) (n : ℕ) → n < 2 ^ 64 → list_all is_ascii_digit xs ≡ true → stops is_ascii_digit ys ≡ true
    → stops is_ascii_digit rest ≡ true → xs ++ ys ≡ decimal n ++ rest → (xs ≡ decimal n) × (ys ≡ rest)
front_is xs ys rest n fits digits end stop e = run_once is_ascii_digit xs ys (decimal n) rest digits end (decimal-digits n fits) stop e

-- no number but 0 begins with a 0
pub begins_with_zero : (n : ℕ) (xs rest : List ℕ) → n < 2 ^ 64 → 48 ∷ xs ≡ decimal n ++ rest → (0 ≡ n) × (xs ≡ rest)
begins_with_zero n xs rest fits e = split (cases_eq n 0)
  where
    split : (n ≡ 0) ⊎ (n ≡ 0 → ⊥) → (0 ≡ n) × (xs ≡ rest)
    split (inl zero) = (
      sym zero,
      (let text : decimal n ≡ 48 ∷ [] = ap decimal zero ∙ decimal_digit 0 (omega arith) in
          let same : 48 ∷ xs ≡ (48 ∷ []) ++ rest = rw text at e in cc),
    )
    split (inr some) = absurd (more (decimal n) (first_decimal n (omega (arith, some)) fits) e)
      where
        more : (ds : List ℕ) → 48 < get_or ds 0 0 → 48 ∷ xs ≡ ds ++ rest → ⊥
        more [] lt same = omega arith
        more (d ∷ ds) lt same = let head : 48 ≡ d = cc in omega arith

-- digits that begin with no 0 are the text of what they spell
pub decimal-read_on : (text : List ℕ) (len : ℕ) → list_all is_ascii_digit (take len text) ≡ true → 0 < len → len ≤ length text
    → get_or text 0 0 ≢ 48 → read_on 0 (take len text) < 2 ^ 64 → decimal (read_on 0 (take len text)) ≡ take len text
decimal-read_on text len digits some within zero fits =
    decimal-digits_value own (take len text) digits (omega (arith, length-take len text)) (λ e. absurd (zero (sym (get_or-take len text 0 0 some) ∙ e))) fits

-- a digit at the front spells its number
pub one_digit : (text : List ℕ) (n : ℕ) → 0 < length text → get_or text 0 0 ≡ 48 + n → n < 10 → take 1 text ≡ decimal n
one_digit text n some byte few = take_more text 0 0 some ∙ (ap (λ (x : ℕ). x ∷ []) byte ∙ sym (decimal_digit n few))

-- the digit behind a number's text spells with it the number that has it as its last digit
pub digit_more : (text : List ℕ) (n digit len : ℕ) → len < length text → get_or text len 0 ≡ 48 + digit → digit < 10 → 0 < n → n < 10 ^ len → len < 19
    → take len text ≡ decimal n → take (len + 1) text ≡ decimal (n * 10 + digit)
digit_more text n digit len lt byte few some fits sure spelled =
    take_more text len 0 lt
    ∙ (ap (λ (x : List ℕ). x ++ get_or text len 0 ∷ []) spelled
    ∙ (ap (λ (x : ℕ). decimal n ++ x ∷ []) byte ∙ decimal_more n digit some few (digit_fits n digit len fits few sure).1))
