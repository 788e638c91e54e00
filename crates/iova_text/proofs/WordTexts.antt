-- What a line of words has: no LF, few bytes, and one spelling.
use Rattle.std.proofs.Common.{ℕ, ◌≡◌, ◌*◌, ◌^◌, ◌<◌, ◌≤◌, ◌==◌, Bool, true, false, List, [], ◌∷◌, ◌++◌, get_or, length, length-append, decimal, refl, sym, ap, ◌∙◌, arith}
use Rattle.std.specs.Char.{is_ascii_digit}
use Rattle.std.specs.List.{list_all, AllByRecursion}
use Rattle.std.proofs.lemmas.Bool.{and_parts, and_from, not_from_false, ne_eqb, false≢true}
use Rattle.std.proofs.lemmas.Fmt.{length-decimal-le}
use Rattle.iova_text.specs.Lines.{is_not_lf, HasNoLf}
use Rattle.iova_text.specs.Reading.{stops}
use Rattle.iova_text.specs.Words.{spaced_words, kind_text}
use Rattle.iova_text.proofs.Cuts.{list_all-append, run_once}
use Rattle.iova_text.proofs.Digits.{decimal-digits, read_on, read_on-decimal}

not_lf_digit : (b : ℕ) → is_ascii_digit b ≡ true → is_not_lf b ≡ true
not_lf_digit b d = not_from_false (b == 10) (ne_eqb b 10 (λ e. false≢true (ap is_ascii_digit (sym e) ∙ d)))

no_lf_digits : (ds : List ℕ) → list_all is_ascii_digit ds ≡ true → HasNoLf ds
no_lf_digits [] a = refl
no_lf_digits (d ∷ ds) a =
    let parts = and_parts (is_ascii_digit d) (list_all is_ascii_digit ds) a in
    and_from (is_not_lf d) (list_all is_not_lf ds) (not_lf_digit d parts.0) (no_lf_digits ds parts.1)

pub no_lf_decimal : (n : ℕ) → n < 2 ^ 64 → HasNoLf (decimal n)
no_lf_decimal n fits = no_lf_digits (decimal n) (decimal-digits n fits)

pub no_lf_kind : (b : Bool) → HasNoLf (kind_text b)
no_lf_kind true = refl
no_lf_kind false = refl

pub no_lf_words : (ws : List (List ℕ)) → AllByRecursion HasNoLf ws → HasNoLf (spaced_words ws)
no_lf_words [] a = refl
no_lf_words (w ∷ ws) a = list_all-append is_not_lf w (spaced_words ws) a.0 (no_lf_words ws a.1)

-- a word of no more bytes than the longest number
abbrev pub IsShort : List ℕ → Type 0
IsShort w = length w ≤ 20

pub short_decimal : (n : ℕ) → n < 2 ^ 64 → IsShort (decimal n)
short_decimal n fits = length-decimal-le 20 n (omega arith) (omega arith) fits

pub short_kind : (b : Bool) → IsShort (kind_text b)
short_kind true = omega arith
short_kind false = omega arith

pub short_words : (ws : List (List ℕ)) → AllByRecursion IsShort ws → length (spaced_words ws) ≤ 21 * length ws
short_words [] a = omega arith
short_words (w ∷ ws) a = omega (arith, length-append w (spaced_words ws), short_words ws a.1, a.0)

pub same_decimal : (a b : ℕ) → a < 2 ^ 64 → b < 2 ^ 64 → decimal a ≡ decimal b → a ≡ b
same_decimal a b fits other e = sym (read_on-decimal a fits) ∙ (ap (read_on 0) e ∙ read_on-decimal b other)

pub same_kind : (a b : Bool) → kind_text a ++ [] ≡ kind_text b ++ [] → a ≡ b
same_kind true true e = refl
same_kind true false e = absurd (omega (arith, ap (λ (x : List ℕ). get_or x 0 0) e))
same_kind false true e = absurd (omega (arith, ap (λ (x : List ℕ). get_or x 0 0) e))
same_kind false false e = refl

no_digit : (us : List (List ℕ)) → stops is_ascii_digit (spaced_words us) ≡ true
no_digit [] = refl
no_digit (u ∷ us) = refl

-- a number, and what begins by a space or ends
pub same_front : (a b : ℕ) (ws vs : List (List ℕ)) → a < 2 ^ 64 → b < 2 ^ 64 → spaced_words (decimal a ∷ ws) ≡ spaced_words (decimal b ∷ vs)
    → (a ≡ b) × (spaced_words ws ≡ spaced_words vs)
same_front a b ws vs fits other e =
    let both : 32 ∷ (decimal a ++ spaced_words ws) ≡ 32 ∷ (decimal b ++ spaced_words vs) = e in
    let tails : decimal a ++ spaced_words ws ≡ decimal b ++ spaced_words vs = cc in
    let r = run_once is_ascii_digit (decimal a) (spaced_words ws) (decimal b) (spaced_words vs)
    (decimal-digits a fits) (no_digit ws) (decimal-digits b other) (no_digit vs) tails in
    (same_decimal a b fits other r.0, r.1)
