-- Parts of tallies, for seats one after another.
use Rattle.std.proofs.Common.{ℕ, suc, ◌≡◌, ◌+◌, ◌*◌, ◌<◌, ◌≤◌, arith}
use Rattle.std.proofs.Math.Nat.{mul-le-mul_left, mul-suc}

-- there are enough for one seat more
pub room : (parts seats at have whole : ℕ) → at < seats → have + parts * at ≡ whole → parts * seats ≤ whole → parts ≤ have
room parts seats at have whole below is most =
    omega (arith, mul-le-mul_left parts below, mul-suc parts at, is, most)

-- and as many fewer are left
pub one_more : (parts at have left whole : ℕ) → have + parts * at ≡ whole → left + parts ≡ have → left + parts * suc at ≡ whole
one_more parts at have left whole is less = omega (arith, mul-suc parts at, is, less)
