-- A change of one worker's magazines, or of one depot, as it is seen, and what it keeps true inside.
use Rattle.std.proofs.Common.{ℕ, ◌≡◌, ◌≢◌, ◌+◌, ◌*◌, ◌^◌, ◌<◌, ◌≤◌, ◌⊎◌, inl, inr, List, [], length, refl, sym, ap, ◌∙◌, arith}
use Rattle.std.specs.Prelude.{map, slice_index_or, slice_set}
use Rattle.std.proofs.lemmas.Bool.{cases_eq}
use Rattle.std.proofs.lemmas.List.{map-set, get_or-map, get_or-set_same, get_or-set_other, length-map, length-set}
use Rattle.std.proofs.lemmas.List.Elements.{All-set, All-get_or, All-from_recursion, recursion_from_All}
use Rattle.iova_range.specs.Bounds.{Capacities}
use Rattle.iova_model.specs.Caches.{Cache, Caches, no_magazines, cache_at}
use Rattle.iova_model.specs.Valid.{IsDepot, AreWorkerCaches}
use Rattle.iova_mag.specs.Workers.{WorkerCache, IsWorkerCache, AreEmpty, cache_of, with_cache}
use Rattle.iova_depot.specs.Stored.{Stored}
use Rattle.iova_depot.specs.Cached.{Cached, IsCached, with_worker_cache, with_depot}
use Rattle.iova_depot.specs.Inside.{AreEmptyBelow, caches_of, AreCachesKept}
use Rattle.iova_depot.proofs.Counts.{entries_of, frames_of-with_depot}

-- what is seen of a worker, of a depot, and of all
abbrev pub caches_in : WorkerCache → List Cache
caches_in w = w.caches

abbrev pub lists_in : Stored → List (List ℕ)
lists_in d = d.lists

abbrev pub all_seen : Capacities → List WorkerCache → List Stored → Cached
all_seen profile ws ds = record { profile = profile; workers = length ws; caches = caches_of ws ds }

pub cached : (profile : Capacities) (ws : List WorkerCache) (ds : List Stored) (d n : ℕ) → AreCachesKept profile ws ds d n → IsCached (all_seen profile ws ds)
cached profile ws ds d n s = record { profile = s.is_profile; some_worker = s.some_worker; few_workers = s.few_workers; caches = s.caches }

-- A worker.

pub caches_at : (ws : List WorkerCache) (w : ℕ) (p : WorkerCache) → w < length ws → p ≡ slice_index_or ws w p → slice_index_or (map caches_in ws) w [] ≡ p.caches
caches_at ws w p lt is = get_or-map caches_in ws w p [] lt ∙ ap caches_in (sym is)

-- its magazines are those seen at its place
pub cache_at-seen : (ws : List WorkerCache) (ds : List Stored) (w o : ℕ) (p : WorkerCache) → w < length ws → p ≡ slice_index_or ws w p → cache_at (caches_of ws ds) w o ≡ cache_of p o
cache_at-seen ws ds w o p lt is = ap (λ (cs : List Cache). slice_index_or cs o no_magazines) (caches_at ws w p lt is)

-- it has six of them, and the profile of all
orders_at : (profile : Capacities) (ws : List WorkerCache) (ds : List Stored) (d n w : ℕ) → AreCachesKept profile ws ds d n → w < length ws → length (slice_index_or (caches_of ws ds).workers w []) ≡ 6
orders_at profile ws ds d n w s lt =
    let k : length (map caches_in ws) ≡ length ws = s.caches.each_worker in
    (All-get_or (AreWorkerCaches profile) (map caches_in ws) w [] (omega arith) (All-from_recursion (AreWorkerCaches profile) (map caches_in ws) s.caches.magazines)).orders

pub profile_at : (profile : Capacities) (ws : List WorkerCache) (ds : List Stored) (d n w : ℕ) (p : WorkerCache) → AreCachesKept profile ws ds d n → w < length ws → p ≡ slice_index_or ws w p → p.profile ≡ profile
profile_at profile ws ds d n w p s lt is =
    ap (λ (p : WorkerCache). p.profile) is ∙ All-get_or (λ (p : WorkerCache). p.profile ≡ profile) ws w p lt s.same_in_workers

-- other magazines of one order in it
pub seen-set_worker : (ws : List WorkerCache) (ds : List Stored) (w o : ℕ) (p q : WorkerCache) (cache : Cache) → w < length ws → p ≡ slice_index_or ws w p
    → q ≡ with_cache p o cache → caches_of (slice_set ws w q) ds ≡ with_worker_cache (caches_of ws ds) w o cache
seen-set_worker ws ds w o p q cache lt is becomes =
    ap (λ (all : List (List Cache)). let c : Caches = record { workers = all; depots = map lists_in ds } in c)
    (map-set caches_in ws w q
    ∙ ap (λ (cs : List Cache). slice_set (map caches_in ws) w cs) (ap caches_in becomes ∙ ap (λ (cs : List Cache). slice_set cs o cache) (sym (caches_at ws w p lt is))))

pub all_seen-set_worker : (change : Cache → Cache) (profile : Capacities) (ws : List WorkerCache) (ds : List Stored) (w o : ℕ) (p q : WorkerCache) → w < length ws → p ≡ slice_index_or ws w p
    → q ≡ with_cache p o (change (cache_of p o))
    → all_seen profile (slice_set ws w q) ds ≡ record { profile = profile; workers = length ws; caches = with_worker_cache (caches_of ws ds) w o (change (cache_at (caches_of ws ds) w o)) }
all_seen-set_worker change profile ws ds w o p q lt is becomes =
    rw (cache_at-seen ws ds w o p lt is, seen-set_worker ws ds w o p q (change (cache_of p o)) lt is becomes, length-set ws w q) refl

-- the magazines at each place afterwards
pub at_same : (c : Caches) (w o : ℕ) (cache : Cache) → w < length c.workers → o < length (slice_index_or c.workers w []) → cache_at (with_worker_cache c w o cache) w o ≡ cache
at_same c w o cache in_workers in_orders =
    let cs = slice_set (slice_index_or c.workers w []) o cache in
    rw (get_or-set_same c.workers w cs [] in_workers) (get_or-set_same (slice_index_or c.workers w []) o cache no_magazines in_orders)

at_other_order : (c : Caches) (w o i : ℕ) (cache : Cache) → w < length c.workers → i ≢ o → cache_at (with_worker_cache c w o cache) w i ≡ cache_at c w i
at_other_order c w o i cache in_workers other =
    let cs = slice_set (slice_index_or c.workers w []) o cache in
    rw (get_or-set_same c.workers w cs [] in_workers) (get_or-set_other (slice_index_or c.workers w []) o i cache no_magazines other)

at_other_worker : (c : Caches) (w o v i : ℕ) (cache : Cache) → v ≢ w → cache_at (with_worker_cache c w o cache) v i ≡ cache_at c v i
at_other_worker c w o v i cache other = rw (get_or-set_other c.workers w v (slice_set (slice_index_or c.workers w []) o cache) [] other) refl

empty-with_worker_cache : (n n' workers : ℕ) (c : Caches) (w o : ℕ) (cache : Cache) → w < length c.workers → o < length (slice_index_or c.workers w []) → AreEmptyBelow n workers c → n' ≤ n
    → (w * 6 + o < n' → AreEmpty cache) → AreEmptyBelow n' workers (with_worker_cache c w o cache)
empty-with_worker_cache n n' workers c w o cache in_workers in_orders s le empty = record {
  magazines = λ v i v_lt i_lt below. at_worker v i v_lt i_lt below (cases_eq v w);
  depots = λ i lt below. s.depots i lt (omega arith);
}
  where
    at_order : (i : ℕ) → i < 6 → w * 6 + i < n' → w < workers → (i ≡ o) ⊎ (i ≢ o) → AreEmpty (cache_at (with_worker_cache c w o cache) w i)
    at_order i i_lt below w_lt (inl e) = rw (e, at_same c w o cache in_workers in_orders) (empty (rw e at below))
    at_order i i_lt below w_lt (inr other) = rw (at_other_order c w o i cache in_workers other) (s.magazines w i w_lt i_lt (omega arith))

    at_worker : (v i : ℕ) → v < workers → i < 6 → v * 6 + i < n' → (v ≡ w) ⊎ (v ≢ w) → AreEmpty (cache_at (with_worker_cache c w o cache) v i)
    at_worker v i v_lt i_lt below (inl e) = rw e (at_order i i_lt (rw e at below) (rw e at v_lt) (cases_eq i o))
    at_worker v i v_lt i_lt below (inr other) = rw (at_other_worker c w o v i cache other) (s.magazines v i v_lt i_lt (omega arith))

pub inside-worker : (profile : Capacities) (ws : List WorkerCache) (ds : List Stored) (d n n' w o : ℕ) (p q : WorkerCache) (cache : Cache) → AreCachesKept profile ws ds d n
    → w < length ws → o < 6 → p ≡ slice_index_or ws w p → q ≡ with_cache p o cache → IsWorkerCache q
    → n' ≤ n → (w * 6 + o < n' → AreEmpty cache) → AreCachesKept profile (slice_set ws w q) ds d n'
inside-worker profile ws ds d n n' w o p q cache s lt o_lt is becomes sound le empty =
    let k : length (map caches_in ws) ≡ length ws = s.caches.each_worker in
    let w_lt : w < length (caches_of ws ds).workers = omega arith in
    let in_orders : o < length (slice_index_or (caches_of ws ds).workers w []) = rw (orders_at profile ws ds d n w s lt) o_lt in
    let same : q.profile ≡ profile = ap (λ (p : WorkerCache). p.profile) becomes ∙ profile_at profile ws ds d n w p s lt is in
    let now = seen-set_worker ws ds w o p q cache lt is becomes in
    let l = length-set ws w q in
    record {
      is_profile = s.is_profile;
      some_worker = rw l s.some_worker;
      few_workers = rw l s.few_workers;
      same_in_workers = All-set (λ (p : WorkerCache). p.profile ≡ profile) ws w q same s.same_in_workers;
      same_in_depots = s.same_in_depots;
      caches = record {
        each_worker = length-map (slice_set ws w q) caches_in;
        magazines = rw (map-set caches_in ws w q)
            (recursion_from_All (AreWorkerCaches profile) _ (All-set (AreWorkerCaches profile) (map caches_in ws) w q.caches (rw same at sound.caches) (All-from_recursion (AreWorkerCaches profile) _ s.caches.magazines)));
        orders = s.caches.orders;
        depots = s.caches.depots;
      };
      depot = s.depot;
      empty = rw (now, l) (empty-with_worker_cache n n' (length ws) (caches_of ws ds) w o cache w_lt in_orders s.empty le empty);
    }

-- A depot.

pub lists_at : (ds : List Stored) (o : ℕ) (p : Stored) → o < length ds → p ≡ slice_index_or ds o p → slice_index_or (map lists_in ds) o [] ≡ p.lists
lists_at ds o p lt is = get_or-map lists_in ds o p [] lt ∙ ap lists_in (sym is)

pub length-depots : (profile : Capacities) (ws : List WorkerCache) (ds : List Stored) (d n : ℕ) → AreCachesKept profile ws ds d n → length ds ≡ 6
length-depots profile ws ds d n s = sym (length-map ds lists_in) ∙ s.caches.orders

pub depot_at-seen : (profile : Capacities) (ws : List WorkerCache) (ds : List Stored) (d n o : ℕ) (p : Stored) → AreCachesKept profile ws ds d n → o < 6 → p ≡ slice_index_or ds o p
    → slice_index_or (caches_of ws ds).depots o [] ≡ p.lists
depot_at-seen profile ws ds d n o p s lt is = let k = length-depots profile ws ds d n s in lists_at ds o p (omega arith) is

pub depot_profile_at : (profile : Capacities) (ws : List WorkerCache) (ds : List Stored) (d n o : ℕ) (p : Stored) → AreCachesKept profile ws ds d n → o < 6 → p ≡ slice_index_or ds o p → p.profile ≡ profile
depot_profile_at profile ws ds d n o p s lt is =
    let k = length-depots profile ws ds d n s in
    ap (λ (p : Stored). p.profile) is ∙ All-get_or (λ (p : Stored). p.profile ≡ profile) ds o p (omega arith) s.same_in_depots

pub seen-set_depot : (ws : List WorkerCache) (ds : List Stored) (o : ℕ) (q : Stored) → caches_of ws (slice_set ds o q) ≡ with_depot (caches_of ws ds) o q.lists
seen-set_depot ws ds o q = ap (λ (all : List (List (List ℕ))). let c : Caches = record { workers = map caches_in ws; depots = all } in c) (map-set lists_in ds o q)

empty-with_depot : (n n' workers : ℕ) (c : Caches) (o : ℕ) (lists : List (List ℕ)) → o < length c.depots → AreEmptyBelow n workers c → n' ≤ n
    → (workers * 6 + o < n' → lists ≡ []) → AreEmptyBelow n' workers (with_depot c o lists)
empty-with_depot n n' workers c o lists in_orders s le empty = record {
  magazines = λ v i v_lt i_lt below. s.magazines v i v_lt i_lt (omega arith);
  depots = λ i i_lt below. at_order i i_lt below (cases_eq i o);
}
  where
    at_order : (i : ℕ) → i < 6 → workers * 6 + i < n' → (i ≡ o) ⊎ (i ≢ o) → slice_index_or (slice_set c.depots o lists) i [] ≡ []
    at_order i i_lt below (inl e) = rw (e, get_or-set_same c.depots o lists [] in_orders) (empty (rw e at below))
    at_order i i_lt below (inr other) = rw (get_or-set_other c.depots o i lists [] other) (s.depots i i_lt (omega arith))

count_follows : (d d' old new a b : ℕ) → new + a ≡ old + b → d ≡ old → d' + a ≡ d + b → d' ≡ new
count_follows d d' old new a b e f g = omega arith

pub inside-depot : (profile : Capacities) (ws : List WorkerCache) (ds : List Stored) (d n d' n' o : ℕ) (p q : Stored) → AreCachesKept profile ws ds d n
    → o < 6 → p ≡ slice_index_or ds o p → q.profile ≡ p.profile → IsDepot q.profile q.lists
    → d' + 2 ^ o * entries_of p.lists ≡ d + 2 ^ o * entries_of q.lists → n' ≤ n → (length ws * 6 + o < n' → q.lists ≡ [])
    → AreCachesKept profile ws (slice_set ds o q) d' n'
inside-depot profile ws ds d n d' n' o p q s o_lt is keeps sound counts le empty =
    let k : length (map lists_in ds) ≡ 6 = s.caches.orders in
    let lt : o < length (caches_of ws ds).depots = omega arith in
    let same : q.profile ≡ profile = keeps ∙ depot_profile_at profile ws ds d n o p s o_lt is in
    let now = seen-set_depot ws ds o q in
    let frames = frames_of-with_depot (caches_of ws ds) o q.lists lt in
    let counts' : d' + 2 ^ o * entries_of (slice_index_or (caches_of ws ds).depots o []) ≡ d + 2 ^ o * entries_of q.lists = rw (depot_at-seen profile ws ds d n o p s o_lt is) counts in
    record {
      is_profile = s.is_profile;
      some_worker = s.some_worker;
      few_workers = s.few_workers;
      same_in_workers = s.same_in_workers;
      same_in_depots = All-set (λ (p : Stored). p.profile ≡ profile) ds o q same s.same_in_depots;
      caches = record {
        each_worker = s.caches.each_worker;
        magazines = s.caches.magazines;
        orders = rw (map-set lists_in ds o q) (length-set (map lists_in ds) o q.lists ∙ k);
        depots = rw (map-set lists_in ds o q)
            (recursion_from_All (IsDepot profile) _ (All-set (IsDepot profile) (map lists_in ds) o q.lists (rw same at sound) (All-from_recursion (IsDepot profile) _ s.caches.depots)));
      };
      depot = rw (ap (λ (c : Caches). c.depots) now) (count_follows d d' _ _ _ _ frames s.depot counts');
      empty = rw now (empty-with_depot n n' (length ws) (caches_of ws ds) o q.lists lt s.empty le empty);
    }
