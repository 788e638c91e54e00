-- What a request is rounded up to is not nothing, and no more than a request may be.
use Rattle.std.proofs.Common.{ℕ, zero, suc, ◌*◌, ◌≤◌, arith}
use Rattle.std.specs.Prelude.{nat_le, nat_lt}
use Rattle.std.proofs.lemmas.Bool.{cond_both, ltb-true, leb-false}
use Rattle.iova_range.specs.Sizes.{doubled_to, align_of, need}

-- doubling goes up
doubled_ge : (n times p : ℕ) → p ≤ doubled_to n times p
doubled_ge n zero p = omega arith
doubled_ge n (suc times) p =
    cond_both (nat_le n p) p (doubled_to n times (2 * p)) (λ x. p ≤ x) (λ e. omega arith) (λ e. omega (arith, doubled_ge n times (2 * p)))

-- and stops before twice the size
doubled_le : (n times p : ℕ) → p ≤ 2 * n → doubled_to n times p ≤ 2 * n
doubled_le n zero p le = le
doubled_le n (suc times) p le =
    cond_both (nat_le n p) p (doubled_to n times (2 * p)) (λ x. x ≤ 2 * n) (λ e. le) (λ e. let lt = leb-false _ _ e in doubled_le n times (2 * p) (omega arith))

-- a request needs a frame
pub need_ge : (n : ℕ) → 1 ≤ n → 1 ≤ need n
need_ge n some = cond_both (nat_lt n 32) (align_of n) n (λ x. 1 ≤ x) (λ e. doubled_ge n n 1) (λ e. some)

-- and no more than a request may be
pub need_le : (n : ℕ) → 1 ≤ n → n ≤ 1048576 → need n ≤ 1048576
need_le n some few =
    cond_both (nat_lt n 32) (align_of n) n (λ x. x ≤ 1048576) (λ e. let lt = ltb-true _ _ e in let le = doubled_le n n 1 (omega arith) in omega arith) (λ e. few)
