-- How many frames the cached ranges have, by the lists of entries.
use Rattle.std.proofs.Common.{ℕ, suc, ◌≡◌, ◌+◌, ◌*◌, ◌^◌, ◌<◌, ◌≤◌, List, [], ◌∷◌, ◌++◌, length, inl, inr, ap, arith, drop-cons, add-one}
use Rattle.std.specs.Prelude.{drop, map, slice_index_or}
use Rattle.std.proofs.lemmas.List.Sums.{sum_by-append, sum_by-cons}
use Rattle.iova_range.specs.Bounds.{Capacities, IsProfile}
use Rattle.iova_model.specs.declared.place.Place.{Place}
use Rattle.iova_model.specs.declared.place.Place.TheVariants as place
use Rattle.iova_model.specs.Caches.{Cache, no_magazines, of_order}
use Rattle.iova_model.specs.State.{Holder, at_place, cache_holders}
use Rattle.iova_model.specs.Effects.{frames_of}
use Rattle.iova_mag.specs.Magazines.{Magazine, IsMagazine}
use Rattle.iova_mag.specs.Workers.{Pair, frames_in}
use Rattle.iova_mag.specs.Inside.{ArePairsSound}
use Rattle.iova_mag.proofs.Pairs.{cache_in, cache_of-seen}

-- a magazine has 128 entries at most
mag-le : (p : Capacities) → IsProfile p → p.mag ≤ 128
mag-le p (inl e) = let mag : p.mag ≡ 128 = ap (λ (p : Capacities). p.mag) e in omega arith
mag-le p (inr h) = let mag : p.mag ≡ 127 = ap (λ (p : Capacities). p.mag) h.1 in omega arith

pub length-le : (m : Magazine) → IsMagazine m → length m.entries ≤ 128
length-le m s =
    let room : length m.entries ≤ m.profile.mag = s.room in
    let few = mag-le m.profile s.profile in
    omega arith

one_more : (n size : ℕ) → size + n * size ≡ suc n * size
one_more n size = grind arith

-- the frames of the ranges that entries of one order begin
frames_of-at_place : (p : Place) (order : ℕ) (los : List ℕ) → frames_of (at_place p (of_order order los)) ≡ length los * 2 ^ order
frames_of-at_place p order [] = grind arith
frames_of-at_place p order (lo ∷ los) =
    let first : Holder = record { range = record { lo = lo; len = 2 ^ order }; place = p } in
    let all = sum_by-cons (λ (h : Holder). h.range.len) first (at_place p (of_order order los)) in
    let more = one_more (length los) (2 ^ order) in
    omega (arith, frames_of-at_place p order los)

add_times : (a b size : ℕ) → (a + b) * size ≡ a * size + b * size
add_times a b size = grind arith

-- one order and those above it
frames_of-cache_holders : (worker order : ℕ) (cs : List Cache) (c : Cache) → order < length cs → slice_index_or cs order no_magazines ≡ c
    → frames_of (cache_holders worker order (drop order cs)) ≡ frames_in order c + frames_of (cache_holders worker (order + 1) (drop (order + 1) cs))
frames_of-cache_holders worker order cs c lt is =
    let p = place.Magazine worker in
    let rest = cache_holders worker (order + 1) (drop (order + 1) cs) in
    let a = at_place p (of_order order c.loaded) in
    let b = at_place p (of_order order c.previous) in
    let len : Holder → ℕ = λ h. h.range.len in
    let head : drop order cs ≡ c ∷ drop (order + 1) cs = rw (add-one, ← is) (drop-cons cs order no_magazines lt) in
    let loaded = sum_by-append len a (b ++ rest) in
    let previous = sum_by-append len b rest in
    let both = add_times (length c.loaded) (length c.previous) (2 ^ order) in
    rw head (omega (arith, frames_of-at_place p order c.loaded, frames_of-at_place p order c.previous))

-- how many frames pairs have, where it is known how many this pair has
pub frames_of-pairs : (profile : Capacities) (pairs : List Pair) (order : ℕ) (p : Pair) (frames : ℕ) → ArePairsSound profile pairs → order < 6 → p ≡ slice_index_or pairs order p
    → frames ≡ frames_in order p.cache → (worker : ℕ)
    → frames_of (cache_holders worker order (drop order (map cache_in pairs))) ≡ frames + frames_of (cache_holders worker (order + 1) (drop (order + 1) (map cache_in pairs)))
frames_of-pairs profile pairs order p frames s lt at is worker =
    let n : length (map cache_in pairs) ≡ 6 = s.sound.caches.orders in
    rw is (frames_of-cache_holders worker order (map cache_in pairs) p.cache (omega arith) (cache_of-seen profile pairs order p s lt at))
