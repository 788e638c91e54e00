-- Whether a cached range has a frame, by the lists of entries.
use Rattle.std.proofs.Common.{ℕ, ◌≡◌, ◌+◌, ◌-◌, ◌^◌, ◌<◌, ◌||◌, ◌&&◌, Bool, true, false, List, [], ◌∷◌, ◌++◌, length, refl, ap, ◌∙◌, arith, drop-cons, add-one}
use Rattle.std.specs.Prelude.{drop, map, slice_index_or, nat_le, nat_lt}
use Rattle.std.specs.List.{list_any}
use Rattle.std.proofs.lemmas.List.Folds.{list_any-append}
use Rattle.std.proofs.lemmas.Bool.Decides.{nat_tests}
use Rattle.iova_range.specs.Frames.{Frames, covers}
use Rattle.iova_model.specs.declared.place.Place.{Place}
use Rattle.iova_model.specs.declared.place.Place.TheVariants as place
use Rattle.iova_model.specs.Caches.{Cache, no_magazines, of_order}
use Rattle.iova_model.specs.State.{Holder, at_place, cache_holders}
use Rattle.iova_range.specs.Bounds.{Capacities}
use Rattle.iova_mag.specs.Workers.{Pair}
use Rattle.iova_mag.specs.Inside.{ArePairsSound}
use Rattle.iova_mag.proofs.Pairs.{cache_in, cache_of-seen}

or_assoc : (a b c : Bool) → (a || (b || c)) ≡ ((a || b) || c)
or_assoc true b c = refl
or_assoc false b c = refl

begins_around_at : (lo frame size : ℕ) → (nat_le lo frame && nat_lt (frame - lo) size) ≡ covers frame (record { lo = lo; len = size })
begins_around_at lo frame size = grind (arith, nat_tests)

-- the entries whose ranges have the frame, by first frames and by ranges
pub any-of_order : (frame order size : ℕ) (los : List ℕ) → size ≡ 2 ^ order → list_any (λ lo. nat_le lo frame && nat_lt (frame - lo) size) los ≡ list_any (covers frame) (of_order order los)
any-of_order frame order size [] e = refl
any-of_order frame order size (lo ∷ los) e =
    let here = begins_around_at lo frame size ∙ ap (λ len. covers frame (record { lo = lo; len = len })) e in
    rw (here, any-of_order frame order size los e) refl

-- a holder has the frame that its range has
any-at_place : (frame : ℕ) (place : Place) (rs : List Frames) → list_any (λ (h : Holder). covers frame h.range) (at_place place rs) ≡ list_any (covers frame) rs
any-at_place frame place [] = refl
any-at_place frame place (r ∷ rs) = rw (any-at_place frame place rs) refl

-- one order and those above it
pub any-cache_holders : (frame worker order : ℕ) (cs : List Cache) (c : Cache) → order < length cs → slice_index_or cs order no_magazines ≡ c
    → list_any (λ (h : Holder). covers frame h.range) (cache_holders worker order (drop order cs))
    ≡ ((list_any (covers frame) (of_order order c.loaded) || list_any (covers frame) (of_order order c.previous))
    || list_any (λ (h : Holder). covers frame h.range) (cache_holders worker (order + 1) (drop (order + 1) cs)))
any-cache_holders frame worker order cs c lt is =
    let t : Holder → Bool = λ h. covers frame h.range in
    let place = place.Magazine worker in
    let rest = cache_holders worker (order + 1) (drop (order + 1) cs) in
    let a = of_order order c.loaded in
    let b = of_order order c.previous in
    let head : drop order cs ≡ c ∷ drop (order + 1) cs = rw (add-one, ← is) (drop-cons cs order no_magazines lt) in
    rw head
    (list_any-append t (at_place place a) (at_place place b ++ rest)
    ∙ (rw (list_any-append t (at_place place b) rest, any-at_place frame place a, any-at_place frame place b) (or_assoc (list_any (covers frame) a) (list_any (covers frame) b) (list_any t rest))))

-- whether pairs have a frame, where it is known whether this pair has it
pub any-pairs : (profile : Capacities) (pairs : List Pair) (frame order : ℕ) (p : Pair) (has : Bool) → ArePairsSound profile pairs → order < 6 → p ≡ slice_index_or pairs order p
    → has ≡ (list_any (covers frame) (of_order order p.cache.loaded) || list_any (covers frame) (of_order order p.cache.previous)) → (worker : ℕ)
    → list_any (λ (h : Holder). covers frame h.range) (cache_holders worker order (drop order (map cache_in pairs)))
    ≡ (has || list_any (λ (h : Holder). covers frame h.range) (cache_holders worker (order + 1) (drop (order + 1) (map cache_in pairs))))
any-pairs profile pairs frame order p has s lt at is worker =
    let n : length (map cache_in pairs) ≡ 6 = s.sound.caches.orders in
    rw is (any-cache_holders frame worker order (map cache_in pairs) p.cache (omega arith) (cache_of-seen profile pairs order p s lt at))
