-- How many frames pass, piece by piece.
use Rattle.std.proofs.Common.{ℕ, zero, suc, ◌≡◌, ◌∙◌, ◌+◌, ◌<◌, ◌≤◌, Bool, true, false, refl, ap, arith}
use Rattle.std.specs.Prelude.{if◌then◌else◌}
use Rattle.iova_check.specs.Counting.{count_below}

pub count_none : (p : ℕ → Bool) → count_below p 0 ≡ 0
unfolding count_below
count_none p = refl

count_suc : (p : ℕ → Bool) (n : ℕ) → count_below p (suc n) ≡ (if p n then 1 else 0) + count_below p n
unfolding count_below
count_suc p n = refl

abbrev bit : Bool → ℕ
bit b = if b then 1 else 0

-- frames that all pass, and frames of which none does
pub count_all : (p : ℕ → Bool) (n k : ℕ) → ((f : ℕ) → n ≤ f → f < n + k → p f ≡ true) → count_below p (n + k) ≡ count_below p n + k
count_all p n zero all = let is : n + 0 ≡ n = omega arith in ap (count_below p) is ∙ (omega arith)
count_all p n (suc k) all =
    let is : n + suc k ≡ suc (n + k) = omega arith in
    let one : bit (p (n + k)) ≡ 1 = ap bit (all (n + k) (omega arith) (omega arith)) in
    let rest = count_all p n k (λ f from under. all f from (omega arith)) in
    ap (count_below p) is ∙ (count_suc p (n + k) ∙ (omega (arith, one, rest)))

pub count_no : (p : ℕ → Bool) (n k : ℕ) → ((f : ℕ) → n ≤ f → f < n + k → p f ≡ false) → count_below p (n + k) ≡ count_below p n
count_no p n zero none = let is : n + 0 ≡ n = omega arith in ap (count_below p) is
count_no p n (suc k) none =
    let is : n + suc k ≡ suc (n + k) = omega arith in
    let one : bit (p (n + k)) ≡ 0 = ap bit (none (n + k) (omega arith) (omega arith)) in
    let rest = count_no p n k (λ f from under. none f from (omega arith)) in
    ap (count_below p) is ∙ (count_suc p (n + k) ∙ (omega (arith, one, rest)))
