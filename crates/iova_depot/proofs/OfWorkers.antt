-- What each call does to one worker's magazines.
use Rattle.std.proofs.Common.{ℕ, ◌≡◌, ◌+◌, ◌*◌, ◌^◌, ◌<◌, min, List, [], length, Some, None, refl, sym, ap, ◌∙◌, arith}
use Rattle.std.specs.Prelude.{slice_index_or, slice_set}
use Rattle.iova_range.specs.Bounds.{Capacities}
use Rattle.iova_model.specs.Caches.{Cache, Caches, Shelf, TakesEntry, no_magazines, cache_at, get, put}
use Rattle.iova_mag.specs.Workers.{WorkerCache, IsWorkerCache, AreEmpty, cache_of, with_cache, shelf_of, pair_of, newest, without_newest}
use Rattle.iova_depot.specs.Stored.{Stored}
use Rattle.iova_depot.specs.Cached.{with_worker_cache}
use Rattle.iova_depot.specs.Inside.{caches_of, AreCachesKept}
use Rattle.iova_depot.proofs.Moves.{get-empty, takes_newest, newest-empty, without_newest-none}
use Rattle.std.proofs.lemmas.List.{set-get_or}
use Rattle.iova_depot.proofs.Changes.{all_seen, cache_at-seen, profile_at, seen-set_worker, all_seen-set_worker, inside-worker}

-- Magazines that stay empty where they were so leave all sound.
inside-kept : (profile : Capacities) (ws : List WorkerCache) (ds : List Stored) (d n w o : ℕ) (p q : WorkerCache) (cache : Cache) → AreCachesKept profile ws ds d n
    → w < length ws → o < 6 → p ≡ slice_index_or ws w p → q ≡ with_cache p o cache → IsWorkerCache q → (AreEmpty (cache_of p o) → AreEmpty cache) → AreCachesKept profile (slice_set ws w q) ds d n
inside-kept profile ws ds d n w o p q cache s lt o_lt was is sound empty =
    inside-worker profile ws ds d n n w o p q cache s lt o_lt was is sound (omega arith)
    (λ below. empty (rw (cache_at-seen ws ds w o p lt was) at (s.empty.magazines w o lt o_lt below)))

pub of_get : (profile : Capacities) (ws : List WorkerCache) (ds : List Stored) (d n w o limit : ℕ) (p q : WorkerCache) → AreCachesKept profile ws ds d n
    → w < length ws → o < 6 → p ≡ slice_index_or ws w p → q ≡ with_cache p o (pair_of (get (shelf_of (cache_of p o)) limit (2 ^ o)).1) → IsWorkerCache q → AreCachesKept profile (slice_set ws w q) ds d n
of_get profile ws ds d n w o limit p q s lt o_lt was is sound =
    inside-kept profile ws ds d n w o p q _ s lt o_lt was is sound (λ none. rw (get-empty (cache_of p o) limit (2 ^ o) none) none)

pub of_put : (profile p_profile : Capacities) (ws : List WorkerCache) (ds : List Stored) (d n w o lo : ℕ) (p q : WorkerCache) → AreCachesKept profile ws ds d n
    → w < length ws → o < 6 → p ≡ slice_index_or ws w p → q ≡ with_cache p o (pair_of (put p_profile (shelf_of (cache_of p o)) lo)) → IsWorkerCache q → AreCachesKept profile (slice_set ws w q) ds d 0
of_put profile p_profile ws ds d n w o lo p q s lt o_lt was is sound =
    inside-worker profile ws ds d n 0 w o p q _ s lt o_lt was is sound (omega arith) (λ below. absurd (omega arith))

pub of_renew : (profile : Capacities) (ws : List WorkerCache) (ds : List Stored) (d n w o : ℕ) (p q : WorkerCache) → AreCachesKept profile ws ds d n
    → w < length ws → o < 6 → p ≡ slice_index_or ws w p → q ≡ with_cache p o (record { loaded = []; previous = (cache_of p o).previous }) → IsWorkerCache q → AreCachesKept profile (slice_set ws w q) ds d n
of_renew profile ws ds d n w o p q s lt o_lt was is sound =
    inside-kept profile ws ds d n w o p q _ s lt o_lt was is sound (λ none. (refl, none.1))

pub of_load : (profile : Capacities) (ws : List WorkerCache) (ds : List Stored) (d n w o : ℕ) (p q : WorkerCache) (entries : List ℕ) → AreCachesKept profile ws ds d n
    → w < length ws → o < 6 → p ≡ slice_index_or ws w p → q ≡ with_cache p o (record { loaded = entries; previous = [] }) → IsWorkerCache q → AreCachesKept profile (slice_set ws w q) ds d (min n (w * 6 + o))
of_load profile ws ds d n w o p q entries s lt o_lt was is sound =
    inside-worker profile ws ds d n (min n (w * 6 + o)) w o p q _ s lt o_lt was is sound (omega arith) (λ below. absurd (omega arith))

pub of_take : (profile : Capacities) (ws : List WorkerCache) (ds : List Stored) (d n w o : ℕ) (p q : WorkerCache) → AreCachesKept profile ws ds d n
    → w < length ws → o < 6 → p ≡ slice_index_or ws w p → q ≡ with_cache p o (without_newest (cache_of p o)) → IsWorkerCache q → AreCachesKept profile (slice_set ws w q) ds d n
of_take profile ws ds d n w o p q s lt o_lt was is sound =
    inside-kept profile ws ds d n w o p q _ s lt o_lt was is sound (newest-empty (cache_of p o))

-- where nothing was taken, the worker is as it was
same_worker : (ws : List WorkerCache) (w o : ℕ) (p q : WorkerCache) → p ≡ slice_index_or ws w p → q ≡ with_cache p o (without_newest (cache_of p o)) → newest (cache_of p o) ≡ None → slice_set ws w q ≡ ws
same_worker ws w o p q was is none =
    let kept : without_newest (cache_of p o) ≡ cache_of p o = (without_newest-none (cache_of p o) none).1 in
    let back : with_cache p o (cache_of p o) ≡ p = ap (λ (cs : List Cache). let u : WorkerCache = record { profile = p.profile; caches = cs } in u) (set-get_or p.caches o no_magazines) in
    let same : q ≡ p = is ∙ (ap (λ (c : Cache). with_cache p o c) kept ∙ back) in
    ap (λ (u : WorkerCache). slice_set ws w u) (same ∙ was) ∙ set-get_or ws w p

pub none_in_worker : (profile : Capacities) (ws : List WorkerCache) (ds : List Stored) (w o : ℕ) (p q : WorkerCache) → w < length ws → p ≡ slice_index_or ws w p
    → q ≡ with_cache p o (without_newest (cache_of p o)) → newest (cache_of p o) ≡ None → (all_seen profile (slice_set ws w q) ds ≡ all_seen profile ws ds) × AreEmpty (cache_at (caches_of ws ds) w o)
none_in_worker profile ws ds w o p q lt was is none = (
  ap (λ (us : List WorkerCache). all_seen profile us ds) (same_worker ws w o p q was is none),
  rw (cache_at-seen ws ds w o p lt was) (without_newest-none (cache_of p o) none).0,
)

-- where an entry was, it was one of the shelf's
pub takes_from_worker : (ws : List WorkerCache) (ds : List Stored) (w o lo : ℕ) (p q : WorkerCache) → w < length ws → p ≡ slice_index_or ws w p
    → q ≡ with_cache p o (without_newest (cache_of p o)) → newest (cache_of p o) ≡ Some lo → TakesEntry o lo (caches_of ws ds) (caches_of (slice_set ws w q) ds)
takes_from_worker ws ds w o lo p q lt was is some =
    let c = without_newest (cache_of p o) in
    let depot = slice_index_or (caches_of ws ds).depots o [] in
    let left : Shelf = record { loaded = c.loaded; previous = c.previous; depot = depot } in
    let all : Caches = caches_of ws ds in
    record {
      worker = w;
      shelf = left;
      takes = rw (cache_at-seen ws ds w o p lt was) (takes_newest (cache_of p o) lo some depot);
      others = seen-set_worker ws ds w o p q c lt was is
          ∙ ap (λ (depots : List (List (List ℕ))). let after : Caches = record { workers = (with_worker_cache all w o c).workers; depots = depots } in after) (sym (set-get_or all.depots o []));
    }

-- a put, as all is seen
pub all_seen-put : (profile : Capacities) (ws : List WorkerCache) (ds : List Stored) (d n w o lo : ℕ) (p q : WorkerCache) → AreCachesKept profile ws ds d n → w < length ws → p ≡ slice_index_or ws w p
    → q ≡ with_cache p o (pair_of (put p.profile (shelf_of (cache_of p o)) lo))
    → all_seen profile (slice_set ws w q) ds ≡ record { profile = profile; workers = length ws; caches = with_worker_cache (caches_of ws ds) w o (pair_of (put profile (shelf_of (cache_at (caches_of ws ds) w o)) lo)) }
all_seen-put profile ws ds d n w o lo p q s lt was is =
    all_seen-set_worker (λ (cache : Cache). pair_of (put profile (shelf_of cache) lo)) profile ws ds w o p q lt was
    (is ∙ ap (λ (of : Capacities). with_cache p o (pair_of (put of (shelf_of (cache_of p o)) lo))) (profile_at profile ws ds d n w p s lt was))
