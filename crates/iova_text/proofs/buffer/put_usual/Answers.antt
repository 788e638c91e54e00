use Rattle.std.proofs.Common.{◌≡◌, ◌≤◌, ◌<◌, ◌^◌, ◌/◌, ◌%◌, ◌++◌, ℕ, decimal, arith, append_assoc}
use Rattle.itoa.proofs.Decimal.{decimal_four, pair}
use Rattle.iova_text.proofs.buffer.put_usual.Goals as goal

-- the digits of a number of nine or more: those above the last eight, and these in pairs
decimal_eight : (n : ℕ) → 100000000 ≤ n → n < 2 ^ 64
    → decimal n ≡ decimal (n / 100000000) ++ (pair (n % 100000000 / 10000 / 100) ++ (pair (n % 100000000 / 10000 % 100)
    ++ (pair (n % 100000000 % 10000 / 100) ++ pair (n % 100000000 % 10000 % 100))))
decimal_eight n lo hi =
    let a : n / 10000 / 10000 ≡ n / 100000000 = omega arith in
    let b : n / 10000 % 10000 ≡ n % 100000000 / 10000 = omega arith in
    let c : n % 10000 ≡ n % 100000000 % 10000 = omega arith in
    rw (decimal_four n (omega arith) hi, decimal_four (n / 10000) (omega arith) (omega arith), append_assoc, append_assoc, a, b, c)

pub returns-clause-items : goal.returns-clause-items
returns-clause-items g c =
    rw (
      c.put_pair-4.ensures,
      c.put_pair-3.ensures,
      c.put_pair-2.ensures,
      c.put_pair.ensures,
      c.put_short.ensures.items,
      decimal_eight c.args.n c.requires.long c.ranges.n.fits,
    ) (simp append_assoc)
