-- Lengths that have an order, and what is held.
use Rattle.std.proofs.Common.{◌≡◌, ◌+◌, ◌^◌, ◌<◌, ◌≤◌, ◌==◌, ℕ, zero, suc, Bool, true, false, cond, List, [], ◌∷◌, find, Option, None, Some, refl, sym, ap, ◌∙◌, arith, sum_by}
use Rattle.std.specs.Prelude.{nat_lt, unwrap_or}
use Rattle.std.specs.List.{AllByRecursion}
use Rattle.std.proofs.lemmas.Bool.Decides.{nat_tests}
use Rattle.std.proofs.Math.Pow.{pow_mono}
use Rattle.iova_range.specs.Frames.{Frames}
use Rattle.iova_range.specs.Sizes.{need, order_of}
use Rattle.iova_model.specs.declared.entry.Entry.{Entry}
use Rattle.iova_cache.specs.Held.{Gains}
use Rattle.iova_cache.specs.Waiting.{IsCachedEntry}
use Rattle.iova_cache.specs.Caches.{HasOrder, AreGivenSizes, entry_at, odd, one_without, order_in}

pub small_power : (order : ℕ) → order < 6 → 2 ^ order ≤ 32
small_power order lt = let most : order ≤ 5 = omega arith in let le : 2 ^ order ≤ 2 ^ 5 = pow_mono most in omega (arith, le)

found : (len o : ℕ) (os : List ℕ) → AllByRecursion (λ (k : ℕ). k < 6) os → find (λ (k : ℕ). 2 ^ k == len) os ≡ Some o → (o < 6) × (len ≡ 2 ^ o)
found len o [] below is = absurd (let bad : ◌≡◌ {A = Option ℕ} None (Some o) = is in cc)
found len o (k ∷ ks) below is = step (2 ^ k == len) refl is (λ rest. found len o ks below.1 rest)
  where
    step : (b : Bool) → (2 ^ k == len) ≡ b → cond b (Some k) (find (λ (k : ℕ). 2 ^ k == len) ks) ≡ Some o → (find (λ (k : ℕ). 2 ^ k == len) ks ≡ Some o → (o < 6) × (len ≡ 2 ^ o)) → (o < 6) × (len ≡ 2 ^ o)
    step true at some later =
        let same : k ≡ o = let both : Some k ≡ Some o = some in cc in
        let here : 2 ^ k ≡ len = grind (arith, nat_tests) in
        let size : len ≡ 2 ^ k = sym here in (rw same at below.0, rw same at size)
    step false at some later = later some

pub order_found : (len o : ℕ) → order_of len ≡ Some o → (o < 6) × (len ≡ 2 ^ o)
order_found len o is = found len o (0 ∷ 1 ∷ 2 ∷ 3 ∷ 4 ∷ 5 ∷ []) (omega arith, (omega arith, (omega arith, (omega arith, (omega arith, (omega arith, tt)))))) is

pub power_order : (o : ℕ) → o < 6 → order_of (2 ^ o) ≡ Some o
power_order zero lt = refl
power_order (suc zero) lt = refl
power_order (suc (suc zero)) lt = refl
power_order (suc (suc (suc zero))) lt = refl
power_order (suc (suc (suc (suc zero)))) lt = refl
power_order (suc (suc (suc (suc (suc zero))))) lt = refl
power_order (suc (suc (suc (suc (suc (suc o)))))) lt = absurd (omega arith)

pub power_need : (o : ℕ) → o < 6 → need (2 ^ o) ≡ 2 ^ o
power_need zero lt = refl
power_need (suc zero) lt = refl
power_need (suc (suc zero)) lt = refl
power_need (suc (suc (suc zero))) lt = refl
power_need (suc (suc (suc (suc zero)))) lt = refl
power_need (suc (suc (suc (suc (suc zero))))) lt = refl
power_need (suc (suc (suc (suc (suc (suc o)))))) lt = absurd (omega arith)

-- the order of an entry, as it is counted
pub entry_order : (e : Entry) (n : ℕ) → IsCachedEntry e → order_of (need e.len) ≡ Some n → (order_in e.len ≡ n) × (e.len ≡ 2 ^ n)
entry_order e n c is =
    let whole : need e.len ≡ e.len = rw c.size (power_need c.order c.below) in
    let at : order_of e.len ≡ Some n = ap order_of (sym whole) ∙ is in
    (ap (λ (o : Option ℕ). unwrap_or o 0) at, (order_found e.len n at).1)

pub entry_few : (e : Entry) → IsCachedEntry e → e.len ≤ 32
entry_few e c = omega (arith, c.size, small_power c.order c.below)

-- What is held.

odd_none : (len : ℕ) (o : Option ℕ) → order_of len ≡ o → one_without o ≡ 0 → (n : ℕ) × (order_of len ≡ Some n)
odd_none len None is none = absurd (omega arith)
odd_none len (Some n) is none = (n, is)

has_order : (r : Frames) → odd r ≡ 0 → r.len ≤ 32 → (n : ℕ) × (order_of r.len ≡ Some n)
has_order r even few = step (nat_lt 32 r.len) refl even
  where
    step : (b : Bool) → nat_lt 32 r.len ≡ b → cond b 0 (one_without (order_of r.len)) ≡ 0 → (n : ℕ) × (order_of r.len ≡ Some n)
    step true is none = absurd (grind (arith, nat_tests))
    step false is none = odd_none r.len (order_of r.len) refl none

pub is_cached : (r : Frames) (count : ℕ) → r.lo < 2 ^ 40 → odd r ≡ 0 → r.len ≤ 32 → IsCachedEntry (entry_at r count)
is_cached r count low even few =
    let told = has_order r even few in
    let both = order_found r.len told.0 told.1 in
    record { low = low; order = told.0; below = both.0; size = both.1 }

pub even_power : (r : Frames) (order : ℕ) → order < 6 → r.len ≡ 2 ^ order → odd r ≡ 0
even_power r order lt is =
    let few : nat_lt 32 r.len ≡ false = let le = small_power order lt in grind (arith, nat_tests) in
    let at : order_of r.len ≡ Some order = ap order_of is ∙ power_order order lt in
    rw (few, at) refl

pub even_great : (r : Frames) → 32 < r.len → odd r ≡ 0
even_great r lt = let great : nat_lt 32 r.len ≡ true = grind (arith, nat_tests) in rw great refl

-- one more, one less
pub sizes_gained : (r : Frames) (old new : List Frames) → Gains r old new → odd r ≡ 0 → AreGivenSizes old → AreGivenSizes new
sizes_gained r old new g even all = let whole : sum_by odd new ≡ odd r + sum_by odd old = g odd in omega (arith, whole, even, all)

pub sizes_lost : (r : Frames) (old new : List Frames) → Gains r new old → AreGivenSizes old → (odd r ≡ 0) × AreGivenSizes new
sizes_lost r old new g all = let whole : sum_by odd old ≡ odd r + sum_by odd new = g odd in (omega (arith, whole, all), omega (arith, whole, all))

pub order_below : (frames order : ℕ) → HasOrder frames order → order < 6
order_below frames order h = (order_found (need frames) order h.is).0
