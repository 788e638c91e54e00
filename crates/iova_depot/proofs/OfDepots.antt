-- What each call does to one order's depot, and to the count.
use Rattle.std.proofs.Common.{ℕ, zero, suc, ◌≡◌, ◌≢◌, ◌+◌, ◌-◌, ◌*◌, ◌%◌, ◌^◌, ◌<◌, ◌≤◌, inr, List, [], ◌∷◌, ◌++◌, length, take, Some, refl, sym, ap, ◌∙◌, arith}
use Rattle.std.specs.Prelude.{slice_get, slice_index_or, slice_set, remove}
use Rattle.std.proofs.lemmas.List.{set-get_or, take_all}
use Rattle.std.proofs.Math.Nat.{mul-le-mul}
use Rattle.std.proofs.lemmas.List.Edits.{length-remove}
use Rattle.std.proofs.lemmas.List.Sums.{sum_by_more, sum_by_push, sum_by-set, sum_by-remove}
use Rattle.iova_range.specs.Bounds.{Capacities}
use Rattle.iova_model.specs.Caches.{Cache, Caches, Shelf, TakesOutOfDepot, TakesEntry, cache_at, no_magazines, with_shelf, without_list, front, last_or}
use Rattle.iova_model.specs.Valid.{IsDepot}
use Rattle.iova_mag.specs.Magazines.{Magazine, IsMagazine}
use Rattle.iova_mag.specs.Workers.{WorkerCache, with_cache}
use Rattle.iova_depot.specs.Stored.{Stored}
use Rattle.iova_depot.specs.Cached.{Cached, with_worker_cache}
use Rattle.iova_depot.specs.Inside.{caches_of, AreCachesKept}
use Rattle.iova_depot.proofs.Counts.{entries_of, pow_of_order, depots_bound}
use Rattle.iova_depot.proofs.Changes.{all_seen, depot_at-seen, seen-set_depot, all_seen-set_worker}
use Rattle.iova_depot.proofs.Steps.{shifted, magazine_small, LessInDepot, less-depot, MoreInDepot, more-depot}

some_of : (lists : List (List ℕ)) → lists ≢ [] → 0 < length lists
some_of [] more = absurd (more refl)
some_of (los ∷ rest) more = omega arith

entries_of-front : (lists : List (List ℕ)) → lists ≢ [] → entries_of lists ≡ length (last_or [] lists) + entries_of (front lists)
entries_of-front lists more =
    let some = some_of lists more in
    let n : length lists - 1 + 1 ≡ length lists = omega arith in
    let all : take (length lists) lists ≡ lists = take_all (length lists) lists (omega arith) in
    let last = rw (n, all) at (sum_by_more length lists (length lists - 1) [] (omega arith)) in
    omega arith

-- the last magazine leaves
pub of_pop : (profile : Capacities) (ws : List WorkerCache) (ds : List Stored) (d n o len : ℕ) (p q : Stored) (magazine : Magazine) → AreCachesKept profile ws ds d n
    → o < 6 → p ≡ slice_index_or ds o p → q ≡ record p { lists = front p.lists } → IsDepot q.profile q.lists
    → p.lists ≢ [] → magazine ≡ record { profile = p.profile; entries = last_or [] p.lists } → len ≡ length magazine.entries → IsMagazine magazine
    → LessInDepot profile ws ds d n o q (len * 2 ^ o % 18446744073709551616)
of_pop profile ws ds d n o len p q magazine s lt was is sound more value len_is whole =
    let small = magazine_small magazine whole in
    let last : len ≡ length (last_or [] p.lists) = len_is ∙ ap (λ (m : Magazine). length m.entries) value in
    let left : entries_of q.lists ≡ entries_of (front p.lists) = ap (λ (q : Stored). entries_of q.lists) is in
    let all = entries_of-front p.lists more in
    less-depot profile ws ds d n o p q len _ s lt was (ap (λ (q : Stored). q.profile) is) sound (shifted len o (omega arith) lt) (omega arith)

-- a magazine comes last
pub of_push : (profile : Capacities) (ws : List WorkerCache) (ds : List Stored) (d n n' o len : ℕ) (p q : Stored) (magazine : Magazine) → AreCachesKept profile ws ds d n
    → o < 6 → p ≡ slice_index_or ds o p → q ≡ record p { lists = p.lists ++ magazine.entries ∷ [] } → IsDepot q.profile q.lists
    → len ≡ length magazine.entries → IsMagazine magazine → n' ≤ n → n' ≤ length ws * 6 + o → MoreInDepot profile ws ds d n' o q (len * 2 ^ o % 18446744073709551616)
of_push profile ws ds d n n' o len p q magazine s lt was is sound len_is whole le below =
    let small = magazine_small magazine whole in
    let now : entries_of q.lists ≡ entries_of p.lists + length magazine.entries = ap (λ (q : Stored). entries_of q.lists) is ∙ sum_by_push length p.lists magazine.entries in
    more-depot profile ws ds d n n' o p q len _ s lt was (ap (λ (q : Stored). q.profile) is) sound (shifted len o (omega arith) lt) (omega arith) (omega arith) le below

-- before it is there, its frames can be added to the count
pub count_fits : (profile : Capacities) (ws : List WorkerCache) (ds : List Stored) (d n o len : ℕ) (magazine : Magazine) → AreCachesKept profile ws ds d n
    → o < 6 → len ≡ length magazine.entries → IsMagazine magazine → d + len * 2 ^ o % 18446744073709551616 < 18446744073709551616
count_fits profile ws ds d n o len magazine s lt len_is whole =
    let small = magazine_small magazine whole in
    let frames = shifted len o (omega arith) lt in
    let few : len ≤ 128 = omega arith in
    let some : 2 ^ o * len ≤ 32 * 128 = mul-le-mul (pow_of_order o lt) few in
    let most = depots_bound profile (length ws) (caches_of ws ds) s.is_profile s.caches in
    let bound : d ≤ 786432 = rw (← s.depot) at most in
    omega arith

-- One entry leaves.

within : (xs : List ℕ) (i x : ℕ) → slice_get xs i ≡ Some x → i < length xs
within [] i x some = absurd cc
within (y ∷ ys) zero x some = omega arith
within (y ∷ ys) (suc i) x some = let lt = within ys i x some in omega arith

without_one : (lists : List (List ℕ)) (i : ℕ) (left : List ℕ) → i < length lists → length (slice_index_or lists i []) ≡ 1 + length left → entries_of lists ≡ 1 + entries_of (without_list lists i left)
without_one lists i [] lt one = let all = sum_by-remove length lists i [] lt in omega arith
without_one lists i (x ∷ xs) lt one = let all = sum_by-set length lists i (x ∷ xs) [] lt in omega arith

entries_of-takes : (lo : ℕ) (old new : List (List ℕ)) → TakesOutOfDepot lo old new → entries_of old ≡ 1 + entries_of new
entries_of-takes lo old new t =
    let list = slice_index_or old t.place [] in
    let inside : t.place + 1 ≤ length old = t.inside in
    let lt = within list t.takes.place lo t.takes.here in
    let removed = length-remove list t.takes.place lt in
    let left : length t.left ≡ length (remove list t.takes.place) = ap length t.takes.others in
    rw t.others (without_one old t.place t.left (omega arith) (omega arith))

pub of_take : (profile : Capacities) (ws : List WorkerCache) (ds : List Stored) (d n o lo : ℕ) (p q : Stored) → AreCachesKept profile ws ds d n
    → o < 6 → p ≡ slice_index_or ds o p → q.profile ≡ p.profile → IsDepot q.profile q.lists → TakesOutOfDepot lo p.lists q.lists
    → LessInDepot profile ws ds d n o q (1 * 2 ^ o % 18446744073709551616)
of_take profile ws ds d n o lo p q s lt was keeps sound takes =
    less-depot profile ws ds d n o p q 1 _ s lt was keeps sound (shifted 1 o (omega arith) lt) (entries_of-takes lo p.lists q.lists takes)

-- it was one of the shelf's
pub takes_from_depot : (profile : Capacities) (ws : List WorkerCache) (ds : List Stored) (d n o lo : ℕ) (p q : Stored) → AreCachesKept profile ws ds d n
    → o < 6 → p ≡ slice_index_or ds o p → TakesOutOfDepot lo p.lists q.lists → TakesEntry o lo (caches_of ws ds) (caches_of ws (slice_set ds o q))
takes_from_depot profile ws ds d n o lo p q s lt was takes =
    let all : Caches = caches_of ws ds in
    let cs = slice_index_or all.workers 0 [] in
    let here = cache_at all 0 o in
    let left : Shelf = record { loaded = here.loaded; previous = here.previous; depot = q.lists } in
    let same_orders : slice_set cs o here ≡ cs = set-get_or cs o no_magazines in
    let same_workers : slice_set all.workers 0 (slice_set cs o here) ≡ all.workers = rw same_orders (set-get_or all.workers 0 []) in
    record {
      worker = 0;
      shelf = left;
      takes = inr (inr (refl, refl, rw (depot_at-seen profile ws ds d n o p s lt was) takes));
      others = seen-set_depot ws ds o q
          ∙ ap (λ (workers : List (List Cache)). let after : Caches = record { workers = workers; depots = slice_set all.depots o q.lists } in after) (sym same_workers);
    }

-- a worker's empty magazines and the last one of the depot, as all is seen when that is loaded
pub all_seen-reload : (profile : Capacities) (ws : List WorkerCache) (ds : List Stored) (d n w o : ℕ) (p q : Stored) (u v : WorkerCache) (magazine : Magazine) → AreCachesKept profile ws ds d n
    → w < length ws → o < 6 → p ≡ slice_index_or ds o p → q ≡ record p { lists = front p.lists } → magazine ≡ record { profile = p.profile; entries = last_or [] p.lists }
    → u ≡ slice_index_or ws w u → v ≡ with_cache u o (record { loaded = magazine.entries; previous = [] })
    → all_seen profile (slice_set ws w v) (slice_set ds o q)
    ≡ record { profile = profile; workers = length ws; caches = with_shelf (caches_of ws ds) w o (record { loaded = last_or [] (slice_index_or (caches_of ws ds).depots o []); previous = []; depot = front (slice_index_or (caches_of ws ds).depots o []) }) }
all_seen-reload profile ws ds d n w o p q u v magazine s lt o_lt was is value was_worker is_worker =
    let lists = slice_index_or (caches_of ws ds).depots o [] in
    let at : lists ≡ p.lists = depot_at-seen profile ws ds d n o p s o_lt was in
    let left : q.lists ≡ front lists = ap (λ (q : Stored). q.lists) is ∙ ap front (sym at) in
    let entries : magazine.entries ≡ last_or [] lists = ap (λ (m : Magazine). m.entries) value ∙ ap (λ (ls : List (List ℕ)). last_or [] ls) (sym at) in
    let all : Caches = caches_of ws ds in
    let loaded : List ℕ → Cache = λ los. record { loaded = los; previous = [] } in
    let now : List ℕ → List (List (List ℕ)) → Cached = λ los depots. record { profile = profile; workers = length ws; caches = record { workers = (with_worker_cache all w o (loaded los)).workers; depots = depots } } in
    all_seen-set_worker (λ (c : Cache). loaded magazine.entries) profile ws (slice_set ds o q) w o u v lt was_worker is_worker
    ∙ (ap (λ (depots : List (List (List ℕ))). now magazine.entries depots) (ap (λ (c : Caches). c.depots) (seen-set_depot ws ds o q) ∙ ap (λ (ls : List (List ℕ)). slice_set all.depots o ls) left)
    ∙ ap (λ (los : List ℕ). now los (slice_set all.depots o (front lists))) entries)
