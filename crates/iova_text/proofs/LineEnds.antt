-- The first LF of some bytes.
use Rattle.std.proofs.Common.{ℕ, zero, suc, ◌≡◌, ◌+◌, ◌-◌, ◌<◌, ◌≤◌, ◌==◌, ◌⊎◌, inl, inr, List, [], ◌∷◌, ◌++◌, length, take, drop, get_or, refl, sym, ap, ◌∙◌, arith, true, add-one, append_assoc, length-append}
use Rattle.std.specs.List.{list_all}
use Rattle.std.proofs.Math.Seq.{take-append-add}
use Rattle.std.proofs.lemmas.Bool.{and_from, cases_eq, eqb-true, false≢true, ne_eqb, not_from_false, false_from_ne_true}
use Rattle.std.proofs.lemmas.List.{take_more, take-append-le}
use Rattle.iova_range.specs.declared.limits.TheConstants.{MAX_LINE}
use Rattle.iova_text.specs.Lines.{is_not_lf, HasNoLf, whole_line, IsUnended, IsOverlong, BeginsOdd}
use Rattle.iova_text.proofs.Cuts.{cut_at, list_all-append, list_all-more, list_all-right, run_once}

pub no_lf_before : (bytes : List ℕ) (n : ℕ) → n ≤ length bytes → ((k : ℕ) → 0 ≤ k → k < n → (get_or bytes k 0 == 10) ≡ true → ⊥) → HasNoLf (take n bytes)
no_lf_before bytes zero within none = refl
no_lf_before bytes (suc n) within none =
    let before = no_lf_before bytes n (omega arith) (λ k low lt. none k low (omega arith)) in
    let here : is_not_lf (get_or bytes n 0) ≡ true = not_from_false (get_or bytes n 0 == 10) (false_from_ne_true (get_or bytes n 0 == 10) (none n (omega arith) (omega arith))) in
    rw (← add-one n) (list_all-more is_not_lf bytes n (omega arith) before here)

pub cut_at_lf : (bytes : List ℕ) (n : ℕ) → n < length bytes → (get_or bytes n 0 == 10) ≡ true
    → bytes ≡ whole_line (take n bytes) ++ take (length bytes - (n + 1)) (drop (n + 1) bytes)
cut_at_lf bytes n lt is =
    let byte : get_or bytes n 0 ≡ 10 = eqb-true (get_or bytes n 0) 10 is in
    cut_at bytes (n + 1) ∙ ap (λ (x : List ℕ). x ++ take (length bytes - (n + 1)) (drop (n + 1) bytes))
    (take_more bytes n 0 lt ∙ ap (λ (b : ℕ). take n bytes ++ b ∷ []) byte)

-- Bytes are cut at their first LF in one way.
pub cut_once : (a b c d : List ℕ) → HasNoLf a → HasNoLf c → whole_line a ++ b ≡ whole_line c ++ d → (a ≡ c) × (b ≡ d)
cut_once a b c d one other e =
    let left : a ++ 10 ∷ b ≡ c ++ 10 ∷ d = sym (append_assoc a (10 ∷ []) b) ∙ (e ∙ append_assoc c (10 ∷ []) d) in
    let r = run_once is_not_lf a (10 ∷ b) c (10 ∷ d) one refl other refl left in
    (r.0, (let both : 10 ∷ b ≡ 10 ∷ d = r.1 in cc))

-- what has no LF is no line and more
pub no_line : (bytes line more : List ℕ) → HasNoLf bytes → bytes ≡ whole_line line ++ more → ⊥
no_line bytes line more none e =
    let all : list_all is_not_lf (line ++ 10 ∷ more) ≡ true = ap (list_all is_not_lf) (sym (e ∙ append_assoc line (10 ∷ []) more)) ∙ none in
    false≢true (list_all-right is_not_lf line (10 ∷ more) all)

-- a short line ends within the bytes of the longest
pub lf_within : (bytes line more : List ℕ) → length line < MAX_LINE → bytes ≡ whole_line line ++ more → HasNoLf (take MAX_LINE bytes) → ⊥
lf_within bytes line more lt e none =
    let left = 127 - length line in
    let at : take (length line + (left + 1)) (line ++ 10 ∷ more) ≡ line ++ take (left + 1) (10 ∷ more) = take-append-add line (10 ∷ more) (left + 1) in
    let all : length line + (left + 1) ≡ 128 = omega arith in
    let front : take (left + 1) (10 ∷ more) ≡ 10 ∷ take left more = rw add-one refl in
    let cut : take 128 bytes ≡ line ++ 10 ∷ take left more =
    ap (λ (x : List ℕ). take 128 x) (e ∙ append_assoc line (10 ∷ []) more)
    ∙ (ap (λ (n : ℕ). take n (line ++ 10 ∷ more)) (sym all) ∙ (at ∙ ap (λ (x : List ℕ). line ++ x) front)) in
    false≢true (list_all-right is_not_lf line (10 ∷ take left more) (ap (list_all is_not_lf) (sym cut) ∙ none))

-- as many bytes as the longest line has, without LF
pub overlong : (kept piece : List ℕ) → IsUnended kept → HasNoLf (take (MAX_LINE - length kept) piece)
    → MAX_LINE ≤ length kept + length piece → IsOverlong (kept ++ piece)
overlong kept piece is none long = record {
  one =
      (let n = MAX_LINE - length kept in
      let all : length kept + n ≡ MAX_LINE = omega (arith, is.short) in
      ap (λ (k : ℕ). list_all is_not_lf (take k (kept ++ piece))) (sym all)
      ∙ (ap (list_all is_not_lf) (take-append-add kept piece n) ∙ list_all-append is_not_lf kept (take n piece) is.one none));
  long = omega (arith, length-append kept piece, long);
}

-- Whatever comes after them, a first line that is odd stays so, and one that is too long.
pub odd_more : (IsOdd : List ℕ → Type 0) (bytes more : List ℕ) → BeginsOdd IsOdd bytes → BeginsOdd IsOdd (bytes ++ more)
odd_more IsOdd bytes more b = record {
  line = b.line;
  more = b.more ++ more;
  whole = ap (λ (x : List ℕ). x ++ more) b.whole ∙ append_assoc (whole_line b.line) b.more more;
  one = b.one;
  odd = b.odd;
}

pub overlong_more : (bytes more : List ℕ) → IsOverlong bytes → IsOverlong (bytes ++ more)
overlong_more bytes more b = record {
  one = ap (list_all is_not_lf) (take-append-le MAX_LINE bytes more b.long) ∙ b.one;
  long = omega (arith, length-append bytes more, b.long);
}

-- bytes have no LF, or a first one
pub first_lf : (bytes : List ℕ) → HasNoLf bytes ⊎ ((line : List ℕ) × (more : List ℕ) × (bytes ≡ whole_line line ++ more) × HasNoLf line)
first_lf [] = inl refl
first_lf (b ∷ bytes) = split (cases_eq b 10) (first_lf bytes)
  where
    split : (b ≡ 10) ⊎ (b ≡ 10 → ⊥) → HasNoLf bytes ⊎ ((line : List ℕ) × (more : List ℕ) × (bytes ≡ whole_line line ++ more) × HasNoLf line)
        → HasNoLf (b ∷ bytes) ⊎ ((line : List ℕ) × (more : List ℕ) × ((b ∷ bytes) ≡ whole_line line ++ more) × HasNoLf line)
    split (inl e) rest = inr ([], bytes, ap (λ (x : ℕ). x ∷ bytes) e, refl)
    split (inr ne) (inl none) = inl (and_from (is_not_lf b) (list_all is_not_lf bytes) (not_from_false (b == 10) (ne_eqb b 10 ne)) none)
    split (inr ne) (inr (line, more, e, one)) =
        inr (b ∷ line, more, ap (λ (x : List ℕ). b ∷ x) e, and_from (is_not_lf b) (list_all is_not_lf line) (not_from_false (b == 10) (ne_eqb b 10 ne)) one)
