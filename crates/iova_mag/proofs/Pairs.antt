-- A change to one of a worker's pairs, as it is seen.
use Rattle.std.proofs.Common.{ℕ, ◌≡◌, ◌<◌, List, length, Bool, true, false, sym, ap, ◌∙◌, arith}
use Rattle.std.specs.Prelude.{map, slice_index_or, slice_set}
use Rattle.std.specs.Bool.{OnTrue}
use Rattle.std.proofs.lemmas.List.{map-set, get_or-map, length-map, length-set}
use Rattle.std.proofs.lemmas.List.Elements.{All-set, All-get_or, All-from_recursion, recursion_from_All}
use Rattle.iova_range.specs.Bounds.{Capacities}
use Rattle.iova_model.specs.Caches.{Cache, no_magazines, put}
use Rattle.iova_model.specs.Valid.{IsCache}
use Rattle.iova_mag.specs.Workers.{Pair, WorkerCache, cache_of, with_cache, shelf_of, pair_of}
use Rattle.iova_mag.specs.Inside.{ArePairsSound}

-- what is seen of a pair, and of all
abbrev pub cache_in : Pair → Cache
cache_in p = p.cache

abbrev pub seen : Capacities → List Pair → WorkerCache
seen profile pairs = record { profile = profile; caches = map cache_in pairs }

-- there are six of them
pub length-pairs : (profile : Capacities) (pairs : List Pair) → ArePairsSound profile pairs → length pairs ≡ 6
length-pairs profile pairs s = sym (length-map pairs cache_in) ∙ s.sound.caches.orders

-- the pair at an order is what is seen there
pub cache_of-seen : (profile : Capacities) (pairs : List Pair) (order : ℕ) (p : Pair) → ArePairsSound profile pairs → order < 6 → p ≡ slice_index_or pairs order p → cache_of (seen profile pairs) order ≡ p.cache
cache_of-seen profile pairs order p s lt is =
    let n = length-pairs profile pairs s in
    get_or-map cache_in pairs order p no_magazines (omega arith) ∙ ap cache_in (sym is)

-- and has the profile of all
profile_at : (profile : Capacities) (pairs : List Pair) (order : ℕ) (p : Pair) → ArePairsSound profile pairs → order < 6 → p ≡ slice_index_or pairs order p → p.profile ≡ profile
profile_at profile pairs order p s lt is =
    let n = length-pairs profile pairs s in
    ap (λ (p : Pair). p.profile) is ∙ All-get_or (λ (p : Pair). p.profile ≡ profile) pairs order p (omega arith) s.same

-- where a change to the pair at an order makes p into q, it is seen at that order alone
pub seen-set : (change : Cache → Cache) (profile : Capacities) (pairs : List Pair) (order : ℕ) (p q : Pair) → ArePairsSound profile pairs → order < 6 → p ≡ slice_index_or pairs order p
    → q.cache ≡ change p.cache → seen profile (slice_set pairs order q) ≡ with_cache (seen profile pairs) order (change (cache_of (seen profile pairs) order))
seen-set change profile pairs order p q s lt is becomes =
    let as_seen : Cache → WorkerCache = λ c. with_cache (seen profile pairs) order c in
    ap (λ (cs : List Cache). let w : WorkerCache = record { profile = profile; caches = cs } in w) (map-set cache_in pairs order q)
    ∙ (ap as_seen becomes ∙ ap (λ c. as_seen (change c)) (sym (cache_of-seen profile pairs order p s lt is)))

-- a put into a pair is one into what is seen of it
pub seen-put : (lo : ℕ) (profile : Capacities) (pairs : List Pair) (order : ℕ) (p q : Pair) → ArePairsSound profile pairs → order < 6 → p ≡ slice_index_or pairs order p
    → q ≡ record p { cache = pair_of (put p.profile (shelf_of p.cache) lo) }
    → seen profile (slice_set pairs order q) ≡ with_cache (seen profile pairs) order (pair_of (put profile (shelf_of (cache_of (seen profile pairs) order)) lo))
seen-put lo profile pairs order p q s lt is becomes =
    seen-set (λ (cache : Cache). pair_of (put profile (shelf_of cache) lo)) profile pairs order p q s lt is
    (ap cache_in becomes ∙ ap (λ (of : Capacities). pair_of (put of (shelf_of p.cache) lo)) (profile_at profile pairs order p s lt is))

-- and it leaves all sound
pub sound-set : (profile : Capacities) (pairs : List Pair) (order : ℕ) (p q : Pair) → ArePairsSound profile pairs → order < 6 → p ≡ slice_index_or pairs order p
    → q.profile ≡ p.profile → IsCache q.profile q.cache → ArePairsSound profile (slice_set pairs order q)
sound-set profile pairs order p q s lt is keeps room =
    let same : q.profile ≡ profile = keeps ∙ profile_at profile pairs order p s lt is in
    let caches = map cache_in pairs in
    record {
      same = All-set (λ (p : Pair). p.profile ≡ profile) pairs order q same s.same;
      sound = record {
        profile = s.sound.profile;
        caches = rw (map-set cache_in pairs order q) (record {
          orders = length-set caches order q.cache ∙ s.sound.caches.orders;
          each = recursion_from_All (IsCache profile) _ (All-set (IsCache profile) caches order q.cache (rw same at room) (All-from_recursion (IsCache profile) _ s.sound.caches.each));
        });
      };
    }

-- what holds at true, made into something else
pub on_true : {P Q : Type 0} → (b : Bool) → (P → Q) → OnTrue b P → OnTrue b Q
on_true true f h = f h
on_true false f h = tt
