-- Bytes that were read ahead, and handed on in their order.
use Rattle.std.proofs.Common.{ℕ, ◌≡◌, ◌+◌, ◌-◌, ◌≤◌, ◌++◌, List, [], ◌∷◌, take, drop, length, refl, sym, ap, ◌∙◌, take-append-drop, drop-drop, take-take, length-take-le, arith}
use Rattle.std.proofs.Math.Seq.{take-append_seam}
use Rattle.std.proofs.lemmas.List.{drop-take}

as_one : (left n : ℕ) → n ≤ left → n + (left - n) ≡ left
as_one left n most = omega (arith, most)

within : (from left n : ℕ) → n ≤ left → from + left ≤ 64 → n ≤ 64 - from
within from left n most fits = omega (arith, most, fits)

-- what is handed on, and then what is left, are the bytes that there were
in_two : (bytes : List ℕ) (from left n : ℕ) → n ≤ left → take n (take left (drop from bytes)) ++ take (left - n) (drop (from + n) bytes) ≡ take left (drop from bytes)
in_two bytes from left n most =
    ap (λ l. take n (take left (drop from bytes)) ++ l)
    (ap (take (left - n)) (sym (drop-drop n from bytes)) ∙ sym (drop-take n (left - n) (drop from bytes)) ∙ ap (λ k. drop n (take k (drop from bytes))) (as_one left n most))
    ∙ take-append-drop n (take left (drop from bytes))

-- the bytes are handed on in two parts, as they were copied into a buffer
pub handed_on : (bytes rest taken now : List ℕ) (from left n : ℕ) → n ≤ left → from + left ≤ 64
    → taken ≡ take n (take (64 - from) (drop from bytes)) → length taken ≡ n → now ≡ take left (drop from bytes)
    → now ≡ take n (taken ++ rest) ++ take (left - n) (drop (from + n) bytes)
handed_on bytes rest taken now from left n most fits is len was =
    was ∙ sym (ap (λ l. l ++ take (left - n) (drop (from + n) bytes))
    (ap (λ k. take k (taken ++ rest)) (sym len) ∙ take-append_seam taken rest ∙ is
    ∙ take-take n (64 - from) (drop from bytes) (within from left n most fits) ∙ sym (take-take n left (drop from bytes) most))
    ∙ in_two bytes from left n most)

-- bytes that are read where there were none
pub read_first : (bytes now : List ℕ) (n : ℕ) → length now ≡ 0 → n ≤ length bytes → (x : List ℕ) × (length x ≡ n) × (take n bytes ≡ now ++ x)
read_first bytes [] n none most = (take n bytes, length-take-le n bytes most, refl)
read_first bytes (x ∷ xs) n none most = absurd (omega (arith, none))
