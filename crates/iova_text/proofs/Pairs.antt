-- The table of two digits.
use Rattle.std.proofs.Common.{◌≡◌, ℕ, zero, suc, ◌+◌, ◌*◌, ◌/◌, ◌%◌, ◌<◌, ◌==◌, ◌∙◌, ap, inl, inr, Bool, true, ◌&&◌, get_or, refl, arith}
use Rattle.std.proofs.lemmas.Bool.{and_parts, eqb-true, cases_eq}
use Rattle.iova_text.specs.declared.buffer.TheConstants.{PAIRS}

abbrev holds_at : ℕ → Bool
holds_at n = (get_or PAIRS (n * 2) 0 == 48 + n / 10) && (get_or PAIRS (n * 2 + 1) 0 == 48 + n % 10)

abbrev hold_below : ℕ → Bool
hold_below zero = true
hold_below (suc n) = holds_at n && hold_below n

at_below : (n p : ℕ) → hold_below n ≡ true → p < n → holds_at p ≡ true
at_below zero p all lt = absurd (omega arith)
at_below (suc n) p all lt =
    let both = and_parts (holds_at n) (hold_below n) all in
    elim (cases_eq p n) [
      | inl e ↦ ap holds_at e ∙ both.0
      | inr ne ↦ at_below n p both.1 (omega (arith, ne))
    ]

pub PAIRS_at : (n : ℕ) → n < 100 → (get_or PAIRS (n * 2) 0 ≡ 48 + n / 10) × (get_or PAIRS (n * 2 + 1) 0 ≡ 48 + n % 10)
PAIRS_at n lt =
    let both = and_parts (get_or PAIRS (n * 2) 0 == 48 + n / 10) (get_or PAIRS (n * 2 + 1) 0 == 48 + n % 10) (at_below 100 n refl lt) in
    (eqb-true (get_or PAIRS (n * 2) 0) (48 + n / 10) both.0, eqb-true (get_or PAIRS (n * 2 + 1) 0) (48 + n % 10) both.1)
