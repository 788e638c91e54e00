-- What the ranges of holders weigh, for any weight, and how many frames they have; how that follows a change of one list.
use Rattle.std.proofs.Common.{ℕ, zero, suc, ◌≡◌, ◌+◌, ◌*◌, ◌^◌, ◌<◌, ◌≤◌, List, [], ◌∷◌, ◌++◌, length, refl, sym, ap, ◌∙◌, arith, append_assoc, inl, inr}
use Rattle.std.specs.Prelude.{drop, slice_index_or, slice_set, sum_by}
use Rattle.std.specs.List.{AllByRecursion}
use Rattle.std.proofs.lemmas.List.Sums.{sum_by-append, sum_by-cons, sum_by-le}
use Rattle.std.proofs.lemmas.List.Elements.{All-from_recursion, All-weaker}
use Rattle.std.proofs.Math.Nat.{mul-le-mul}
use Rattle.iova_range.specs.Frames.{Frames}
use Rattle.iova_range.specs.Bounds.{Capacities, IsProfile}
use Rattle.iova_model.specs.declared.place.Place.{Place}
use Rattle.iova_model.specs.declared.place.Place.TheVariants as place
use Rattle.iova_model.specs.Caches.{Cache, Caches, of_order}
use Rattle.iova_model.specs.State.{Holder, at_place, cache_holders, magazine_holders, list_holders, depot_holders}
use Rattle.iova_model.specs.Valid.{IsDepotList, IsDepot, AreCaches}
use Rattle.iova_model.specs.Effects.{frames_of}
use Rattle.iova_depot.specs.Cached.{with_depot}
use Rattle.iova_depot.proofs.Found.{workers_from}

-- what the ranges of holders weigh
abbrev pub weight_of : (Frames → ℕ) → List Holder → ℕ
weight_of weigh hs = sum_by (λ (h : Holder). weigh h.range) hs

-- of two lists of holders
pub weight_of-append : (weigh : Frames → ℕ) (xs ys : List Holder) → weight_of weigh (xs ++ ys) ≡ weight_of weigh xs + weight_of weigh ys
weight_of-append weigh xs ys = sum_by-append (λ (h : Holder). weigh h.range) xs ys

-- a range weighs its frames
abbrev pub frames_in : Frames → ℕ
frames_in r = r.len

pub frames_of-append : (xs ys : List Holder) → frames_of (xs ++ ys) ≡ frames_of xs + frames_of ys
frames_of-append xs ys = weight_of-append frames_in xs ys

-- the entries of a depot
abbrev pub entries_of : List (List ℕ) → ℕ
entries_of lists = sum_by length lists

add_one_times : (a n : ℕ) → a + a * n ≡ a * (n + 1)
add_one_times a n = grind arith

add_times : (a m n : ℕ) → a * m + a * n ≡ a * (m + n)
add_times a m n = grind arith

pub frames_of-at_place : (p : Place) (o : ℕ) (los : List ℕ) → frames_of (at_place p (of_order o los)) ≡ 2 ^ o * length los
frames_of-at_place p o [] = grind arith
frames_of-at_place p o (lo ∷ los) =
    let more : length los + 1 ≡ suc (length los) = omega arith in
    let first : Holder = record { range = record { lo = lo; len = 2 ^ o }; place = p } in
    sum_by-cons (λ (h : Holder). h.range.len) first (at_place p (of_order o los)) ∙ (rw (frames_of-at_place p o los, ← more) (add_one_times (2 ^ o) (length los)))

-- the holders of one order of a worker
abbrev pub pair_holders : ℕ → ℕ → Cache → List Holder
pair_holders w o c = at_place (place.Magazine w) (of_order o c.loaded) ++ at_place (place.Magazine w) (of_order o c.previous)

pub frames_of-lists : (o : ℕ) (lists : List (List ℕ)) → frames_of (list_holders o lists) ≡ 2 ^ o * entries_of lists
frames_of-lists o [] = grind arith
frames_of-lists o (los ∷ rest) =
    frames_of-append (at_place place.Depot (of_order o los)) (list_holders o rest)
    ∙ (rw (frames_of-at_place place.Depot o los, frames_of-lists o rest, sum_by-cons length los rest) (add_times (2 ^ o) (length los) (entries_of rest)))

-- Holders by place: those of a list are those of its elements, each at its place.
pub record IsByPlace {A : Type 0} (here : ℕ → A → List Holder) (all : ℕ → List A → List Holder) : Type 0 where
  pub none : (k : ℕ) → all k [] ≡ []
  pub more : (k : ℕ) (x : A) (xs : List A) → all k (x ∷ xs) ≡ here k x ++ all (k + 1) xs

swap_ends : (a b r : ℕ) → b + r + a ≡ a + r + b
swap_ends a b r = omega arith

carry : (x r s a b : ℕ) → r + a ≡ s + b → x + r + a ≡ x + s + b
carry x r s a b e = omega arith

-- one element is put in the place of another
pub weight_of-set : (weigh : Frames → ℕ) {A : Type 0} (here : ℕ → A → List Holder) (all : ℕ → List A → List Holder) → IsByPlace here all → (k j : ℕ) (xs : List A) (d x y : A) → j < length xs → slice_index_or xs j d ≡ x
    → weight_of weigh (all k (slice_set xs j y)) + weight_of weigh (here (k + j) x) ≡ weight_of weigh (all k xs) + weight_of weigh (here (k + j) y)
weight_of-set weigh here all by k j [] d x y lt is = absurd (omega arith)
weight_of-set weigh here all by k zero (z ∷ zs) d x y lt is =
    let e : k + 0 ≡ k = omega arith in
    rw (e, by.more k y zs, by.more k z zs, weight_of-append weigh (here k y) (all (k + 1) zs), weight_of-append weigh (here k z) (all (k + 1) zs), ← is)
    (swap_ends (weight_of weigh (here k z)) (weight_of weigh (here k y)) (weight_of weigh (all (k + 1) zs)))
weight_of-set weigh here all by k (suc j) (z ∷ zs) d x y lt is =
    let e : k + suc j ≡ k + 1 + j = omega arith in
    let rest = slice_set zs j y in
    rw (e, by.more k z rest, by.more k z zs, weight_of-append weigh (here k z) (all (k + 1) rest), weight_of-append weigh (here k z) (all (k + 1) zs))
    (carry (weight_of weigh (here k z)) (weight_of weigh (all (k + 1) rest)) (weight_of weigh (all (k + 1) zs)) (weight_of weigh (here (k + 1 + j) x)) (weight_of weigh (here (k + 1 + j) y))
    (weight_of-set weigh here all by (k + 1) j zs d x y (omega arith) is))

one_more : (a b n m : ℕ) → a ≤ m → b ≤ n * m → a + b ≤ suc n * m
one_more a b n m h g = let e : suc n * m ≡ m + n * m = grind arith in omega arith

-- none has more than m frames
pub frames_of-bound : {A : Type 0} (here : ℕ → A → List Holder) (all : ℕ → List A → List Holder) → IsByPlace here all → (P : A → Type 0) (end m : ℕ)
    → ((k : ℕ) (x : A) → k < end → P x → frames_of (here k x) ≤ m) → (k : ℕ) (xs : List A) → k + length xs ≤ end → AllByRecursion P xs → frames_of (all k xs) ≤ length xs * m
frames_of-bound here all by P end m each k [] fits ps = rw (by.none k) (omega arith)
frames_of-bound here all by P end m each k (x ∷ xs) fits ps =
    let rest = frames_of-bound here all by P end m each (k + 1) xs (omega arith) ps.1 in
    rw (by.more k x xs, frames_of-append (here k x) (all (k + 1) xs)) (one_more (frames_of (here k x)) (frames_of (all (k + 1) xs)) (length xs) m (each k x (omega arith) ps.0) rest)

-- the holders of the caches are so
pub by_orders : (w : ℕ) → IsByPlace (pair_holders w) (cache_holders w)
by_orders w = record {
  none = λ k. refl;
  more = λ k c cs. sym (append_assoc (at_place (place.Magazine w) (of_order k c.loaded)) (at_place (place.Magazine w) (of_order k c.previous)) (cache_holders w (k + 1) cs));
}

pub by_workers : IsByPlace (λ w cs. cache_holders w 0 cs) magazine_holders
by_workers = record { none = λ k. refl; more = λ k cs rest. refl }

pub by_depots : IsByPlace list_holders depot_holders
by_depots = record { none = λ k. refl; more = λ k d rest. refl }

-- those of one worker and of the workers after it
pub frames_of-workers : (w : ℕ) (ws : List (List Cache)) (cs : List Cache) → w < length ws → slice_index_or ws w [] ≡ cs
    → frames_of (magazine_holders w (drop w ws)) ≡ frames_of (cache_holders w 0 cs) + frames_of (magazine_holders (w + 1) (drop (w + 1) ws))
frames_of-workers w ws cs lt at =
    rw (workers_from w ws cs lt at) (frames_of-append (cache_holders w 0 cs) (magazine_holders (w + 1) (drop (w + 1) ws)))

-- another depot of one order
pub frames_of-with_depot : (c : Caches) (o : ℕ) (depot : List (List ℕ)) → o < length c.depots
    → frames_of (depot_holders 0 (with_depot c o depot).depots) + 2 ^ o * entries_of (slice_index_or c.depots o []) ≡ frames_of (depot_holders 0 c.depots) + 2 ^ o * entries_of depot
frames_of-with_depot c o depot in_orders =
    let zero_first : 0 + o ≡ o = omega arith in
    let all = weight_of-set frames_in list_holders depot_holders by_depots 0 o c.depots [] (slice_index_or c.depots o []) depot in_orders refl in
    rw (zero_first, frames_of-lists o (slice_index_or c.depots o []), frames_of-lists o depot) at all

-- The count of the depot is small.

pub pow_of_order : (o : ℕ) → o < 6 → 2 ^ o ≤ 32
pow_of_order zero lt = omega arith
pow_of_order (suc zero) lt = omega arith
pow_of_order (suc (suc zero)) lt = omega arith
pow_of_order (suc (suc (suc zero))) lt = omega arith
pow_of_order (suc (suc (suc (suc zero)))) lt = omega arith
pow_of_order (suc (suc (suc (suc (suc zero))))) lt = omega arith
pow_of_order (suc (suc (suc (suc (suc (suc o)))))) lt = absurd (omega arith)

-- what both profiles have in common
pub record AreSizes (p : Capacities) : Type 0 where
  pub some : 127 ≤ p.mag
  pub few : p.mag ≤ 128
  pub shallow : p.depot ≤ 32

pub sizes_of : (p : Capacities) → IsProfile p → AreSizes p
sizes_of p (inl e) =
    let mag : p.mag ≡ 128 = ap (λ (p : Capacities). p.mag) e in
    let depot : p.depot ≡ 32 = ap (λ (p : Capacities). p.depot) e in
    record { some = omega arith; few = omega arith; shallow = omega arith }
sizes_of p (inr h) =
    let mag : p.mag ≡ 127 = ap (λ (p : Capacities). p.mag) h.1 in
    let depot : p.depot ≤ 32 = h.0 in
    record { some = omega arith; few = omega arith; shallow = depot }

pub entries_bound : (p : Capacities) → AreSizes p → (lists : List (List ℕ)) → IsDepot p lists → entries_of lists ≤ 4096
entries_bound p sizes lists is =
    let each = All-weaker (IsDepotList p) (λ (los : List ℕ). length los ≤ p.mag) (λ los one. one.room) lists (All-from_recursion (IsDepotList p) lists is.each) in
    let all : entries_of lists ≤ length lists * p.mag = sum_by-le length p.mag lists each in
    let rooms : length lists ≤ 32 = (let r : length lists ≤ p.depot = is.room in omega arith) in
    let full : length lists * p.mag ≤ 32 * 128 = mul-le-mul rooms sizes.few in
    omega arith

one_depot_bound : (p : Capacities) → AreSizes p → (o : ℕ) (lists : List (List ℕ)) → o < 6 → IsDepot p lists → frames_of (list_holders o lists) ≤ 131072
one_depot_bound p sizes o lists lt is = rw (frames_of-lists o lists) (mul-le-mul (pow_of_order o lt) (entries_bound p sizes lists is))

pub depots_bound : (p : Capacities) (workers : ℕ) (c : Caches) → IsProfile p → AreCaches p workers c → frames_of (depot_holders 0 c.depots) ≤ 786432
depots_bound p workers c profile is =
    let n : length c.depots ≡ 6 = is.orders in
    let b = frames_of-bound list_holders depot_holders by_depots (IsDepot p) 6 131072 (one_depot_bound p (sizes_of p profile)) 0 c.depots (omega arith) is.depots in
    rw n at b
