-- The greatest multiple of a power of two that isn't above a number.
use Rattle.std.proofs.Common.{ℕ, ◌≡◌, ◌-◌, ◌*◌, ◌/◌, ◌^◌, bit_and, arith}
use Rattle.std.proofs.lemmas.Nat.{and_mask, div-add-mod'}

-- what clearing the low bits leaves
pub cleared : (n k : ℕ) → n - bit_and n (2 ^ k - 1) ≡ n / 2 ^ k * 2 ^ k
cleared n k = rw (and_mask n k) (omega (arith, div-add-mod' n (2 ^ k)))
