-- A power of two has as many zeros at its end as it is twos; quotients by one, and their multiples.
use Rattle.std.proofs.Common.{◌≡◌, ◌≢◌, ◌≤◌, ◌<◌, ◌-◌, ◌*◌, ◌%◌, ◌^◌, ◌⊎◌, ℕ, inl, inr, w64, sym, ap, ◌∙◌, arith}
use Rattle.std.specs.Int.{trailing_zeros}
use Rattle.std.proofs.lemmas.Bool.{cases_eq}
use Rattle.std.proofs.lemmas.Nat.{pow_pos, pow_below, one_shl}
use Rattle.std.proofs.lemmas.Nat.Bits.{bit_at-trailing_zeros, bit_at-pow_other}
use Rattle.std.proofs.Math.Nat.{pow-le-pow_right}
use Rattle.iova_c.specs.Granules.{IsGranule, IsShifted}

pub zeros_of : (order : ℕ) → order ≤ 21 → trailing_zeros w64 (2 ^ order) ≡ order
zeros_of order small =
    let at = bit_at-trailing_zeros w64 (2 ^ order) (pow_pos order) (pow_below order 64 (omega arith)) in
    elim (cases_eq (trailing_zeros w64 (2 ^ order)) order) [
      | inl e ↦ e
      | inr other ↦ absurd (let none = bit_at-pow_other order (trailing_zeros w64 (2 ^ order)) other in let one = at.1 in omega (arith, none, one))
    ]

-- so a granule is this power of two
pub granule_zeros : (bytes : ℕ) (is : IsGranule bytes) → trailing_zeros w64 bytes ≡ is.0
granule_zeros bytes is = let e : bytes ≡ 2 ^ is.0 = is.3 in rw e (zeros_of is.0 is.2)

pub shifted : (bytes shift : ℕ) → 12 ≤ shift → shift ≤ 21 → bytes ≡ 1 * 2 ^ shift % 2 ^ 64 → IsShifted bytes shift
shifted bytes shift low high is =
    let power : bytes ≡ 2 ^ shift = is ∙ one_shl shift 64 (omega arith) in
    let least = pow-le-pow_right {n = 2} (omega arith) {i = 12} {j = shift} low in
    let most = pow-le-pow_right {n = 2} (omega arith) {i = shift} {j = 21} high in
    record { power = power; twelve = low; twenty_one = high; least = omega (arith, power, least); most = omega (arith, power, most) }

-- what isn't taken for a granule is none
pub none_of : (bytes shift : ℕ) → shift ≡ trailing_zeros w64 bytes → (shift < 12) ⊎ (21 < shift) ⊎ (bytes ≢ 1 * 2 ^ shift % 2 ^ 64) → IsGranule bytes → ⊥
none_of bytes shift zeros (inl low) is = let e = granule_zeros bytes is in omega (arith, zeros, e, low, is.1)
none_of bytes shift zeros (inr (inl high)) is = let e = granule_zeros bytes is in omega (arith, zeros, e, high, is.2)
none_of bytes shift zeros (inr (inr other)) is =
    let e : shift ≡ is.0 = zeros ∙ granule_zeros bytes is in
    let order = is.0 in let small : order < 64 = omega (arith, is.2) in
    other (is.3 ∙ sym (one_shl order 64 small) ∙ ap (λ k. 1 * 2 ^ k % 2 ^ 64) (sym e))
