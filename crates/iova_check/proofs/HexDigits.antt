-- Numbers of at most sixteen digits fit 64 bits.
use Rattle.std.proofs.Common.{ℕ, suc, ◌≡◌, ◌∙◌, ◌+◌, ◌*◌, ◌^◌, ◌<◌, ◌≤◌, List, ◌∷◌, Option, Some, refl, sym, ap, arith}
use Rattle.std.proofs.Math.Nat.{pow-suc, pow-le-pow_right}
use Rattle.iova_check.specs.Trace.{hex_digit, hex_from, hex_more}

-- a digit more fits
pub has_room : (count value left : ℕ) → count + left ≤ 16 → 0 < left → value < 16 ^ count → value < 1152921504606846976
has_room count value left fits some small =
    let le : 16 ^ count ≤ 16 ^ 15 = pow-le-pow_right {n = 16} (omega arith) {i = count} {j = 15} (omega arith) in
    let most : 16 ^ 15 ≡ 1152921504606846976 = refl in
    omega (arith, le, most, small)

pub one_more_digit : (count value digit : ℕ) → value < 16 ^ count → digit < 16 → value * 16 + digit < 16 ^ (count + 1)
one_more_digit count value digit small one =
    let next : count + 1 ≡ suc count = omega arith in
    let is : 16 ^ (count + 1) ≡ 16 ^ count * 16 = ap (λ (k : ℕ). 16 ^ k) next ∙ pow-suc 16 count in
    omega (arith, is, small, one)

pub hex_step : (value byte digit next : ℕ) (rest others : List ℕ) → rest ≡ byte ∷ others → hex_digit byte ≡ Some digit → next ≡ digit
    → hex_from (Some (value * 16 + next)) others ≡ hex_from (Some value) rest
hex_step value byte digit next rest others cut is same =
    ap (λ (d : ℕ). hex_from (Some (value * 16 + d)) others) same
    ∙ (ap (λ (o : Option ℕ). hex_from (hex_more value o) others) (sym is) ∙ sym (ap (hex_from (Some value)) cut))
