-- Decimal numbers of at most nineteen digits fit 64 bits.
use Rattle.std.proofs.Common.{ℕ, suc, ◌≡◌, ◌∙◌, ◌+◌, ◌*◌, ◌^◌, ◌<◌, ◌≤◌, List, ◌∷◌, Option, Some, refl, sym, ap, arith}
use Rattle.std.proofs.Math.Nat.{pow-suc, pow-le-pow_right}
use Rattle.iova_check.specs.Trace.{decimal_digit, decimal_from, decimal_more}

-- a digit more fits
pub has_room : (count value left : ℕ) → count + left ≤ 19 → 0 < left → value < 10 ^ count → value < 1000000000000000000
has_room count value left fits some small =
    let le : 10 ^ count ≤ 10 ^ 18 = pow-le-pow_right {n = 10} (omega arith) {i = count} {j = 18} (omega arith) in
    let most : 10 ^ 18 ≡ 1000000000000000000 = refl in
    omega (arith, le, most, small)

pub one_more_digit : (count value digit : ℕ) → value < 10 ^ count → digit < 10 → value * 10 + digit < 10 ^ (count + 1)
one_more_digit count value digit small one =
    let next : count + 1 ≡ suc count = omega arith in
    let is : 10 ^ (count + 1) ≡ 10 ^ count * 10 = ap (λ (k : ℕ). 10 ^ k) next ∙ pow-suc 10 count in
    omega (arith, is, small, one)

pub decimal_step : (value byte digit next : ℕ) (rest others : List ℕ) → rest ≡ byte ∷ others → decimal_digit byte ≡ Some digit → next ≡ digit
    → decimal_from (Some (value * 10 + next)) others ≡ decimal_from (Some value) rest
decimal_step value byte digit next rest others cut is same =
    ap (λ (d : ℕ). decimal_from (Some (value * 10 + d)) others) same
    ∙ (ap (λ (o : Option ℕ). decimal_from (decimal_more value o) others) (sym is) ∙ sym (ap (decimal_from (Some value)) cut))
