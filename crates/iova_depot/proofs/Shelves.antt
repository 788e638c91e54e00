-- One worker's magazines and a depot, changed one after the other, are a shelf changed at once.
use Rattle.std.proofs.Common.{ℕ, ◌≡◌, ◌≢◌, ◌^◌, ◌<◌, ◌≤◌, inl, Bool, true, false, List, [], ◌∷◌, ◌++◌, length, Option, Some, None, refl, sym, ap, ◌∙◌, arith, cond}
use Rattle.std.specs.Prelude.{slice_index_or, slice_set, nat_lt, IfSome, IfNone}
use Rattle.std.specs.Bool.{OnTrue}
use Rattle.std.proofs.lemmas.Bool.{OnTrue_at}
use Rattle.std.proofs.lemmas.Bool.Decides.{nat_tests}
use Rattle.std.proofs.lemmas.List.{set-get_or, set-set, get_or-set_same, length-set}
use Rattle.std.proofs.lemmas.List.Elements.{All-get_or, All-from_recursion}
use Rattle.iova_range.specs.Bounds.{Capacities}
use Rattle.iova_model.specs.Caches.{Cache, Caches, Shelf, cache_at, shelf_at, with_shelf, pop_entry, fitting, get, put, last_or, front}
use Rattle.iova_model.specs.Valid.{AreWorkerCaches}
use Rattle.iova_mag.specs.declared.worker.Got.{Got}
use Rattle.iova_mag.specs.declared.worker.Got.TheVariants.{Hit, Miss, Empty}
use Rattle.iova_mag.specs.Magazines.{Magazine}
use Rattle.iova_mag.specs.Workers.{shelf_of, pair_of, got_from, AreEmpty, AreFull, HasRoom}
use Rattle.iova_depot.specs.Cached.{Cached, IsCached, with_worker_cache, with_depot}
use Rattle.iova_depot.proofs.Counts.{sizes_of}
use Rattle.iova_depot.proofs.Changes.{at_same}

-- a shelf with another depot
abbrev pub with_lists : Shelf → List (List ℕ) → Shelf
with_lists s depot = record { loaded = s.loaded; previous = s.previous; depot = depot }

popped-lists : (loaded previous : List ℕ) (depot : List (List ℕ)) (o : Option ℕ) → (pop_entry (record { loaded = loaded; previous = previous; depot = depot }) o).1
    ≡ with_lists (pop_entry (record { loaded = loaded; previous = previous; depot = [] }) o).1 depot
popped-lists loaded previous depot None = refl
popped-lists loaded previous depot (Some i) = refl

-- A get that finds an entry in the two leaves the depot alone.

get-own : (loaded previous : List ℕ) (depot : List (List ℕ)) (limit size : ℕ) → got_from (record { loaded = loaded; previous = previous }) limit size ≢ Empty
    → (get (record { loaded = loaded; previous = previous; depot = depot }) limit size).1 ≡ with_lists (get (record { loaded = loaded; previous = previous; depot = [] }) limit size).1 depot
get-own (x ∷ xs) previous depot limit size some = popped-lists (x ∷ xs) previous depot (fitting (x ∷ xs) limit size)
get-own [] (y ∷ ys) depot limit size some = popped-lists (y ∷ ys) [] depot (fitting (y ∷ ys) limit size)
get-own [] [] depot limit size some = absurd (some refl)

same_depot : (c : Caches) (w o : ℕ) (cache : Cache) → with_shelf c w o (with_lists (shelf_of cache) (slice_index_or c.depots o [])) ≡ with_worker_cache c w o cache
same_depot c w o cache = ap (λ (depots : List (List (List ℕ))). let after : Caches = record { workers = (with_worker_cache c w o cache).workers; depots = depots } in after) (set-get_or c.depots o [])

pub with_shelf-get : (c : Caches) (w o limit size : ℕ) → got_from (cache_at c w o) limit size ≢ Empty → with_shelf c w o (get (shelf_at c w o) limit size).1 ≡ with_worker_cache c w o (pair_of (get (shelf_of (cache_at c w o)) limit size).1)
with_shelf-get c w o limit size some =
    ap (λ (s : Shelf). with_shelf c w o s) (get-own (cache_at c w o).loaded (cache_at c w o).previous (slice_index_or c.depots o []) limit size some)
    ∙ same_depot c w o (pair_of (get (shelf_of (cache_at c w o)) limit size).1)

pub hit_is_not_empty : (g : Got) (lo : ℕ) → g ≡ Hit lo → g ≢ Empty
hit_is_not_empty g lo is none = let both : Hit lo ≡ Empty = sym is ∙ none in cc

pub miss_is_not_empty : (g : Got) → g ≡ Miss → g ≢ Empty
miss_is_not_empty g is none = let both : Miss ≡ Empty = sym is ∙ none in cc

-- as `get` says it
pub got_own : (old new : Cached) (w o limit : ℕ) (g : Got) → g ≡ got_from (cache_at old.caches w o) limit (2 ^ o) → g ≢ Empty
    → new ≡ record old { caches = with_worker_cache old.caches w o (pair_of (get (shelf_of (cache_at old.caches w o)) limit (2 ^ o)).1) }
    → new ≡ record old { caches = with_shelf old.caches w o (get (shelf_at old.caches w o) limit (2 ^ o)).1 }
got_own old new w o limit g value some is = rw (with_shelf-get old.caches w o limit (2 ^ o) (λ none. some (value ∙ none))) is

-- A get that loads the depot's last magazine first.

pub record AreInside (c : Caches) (w o : ℕ) : Type 0 where
  pub in_workers : w < length c.workers
  pub in_orders : o < length (slice_index_or c.workers w [])

-- the places of sound caches, and of those that became sound
pub inside_sound : (c : Cached) (w o : ℕ) → IsCached c → w < c.workers → o < 6 → AreInside c.caches w o
inside_sound c w o s w_lt o_lt =
    let n : length c.caches.workers ≡ c.workers = s.caches.each_worker in
    let in_workers : w < length c.caches.workers = omega arith in
    let six = (All-get_or (AreWorkerCaches c.profile) c.caches.workers w [] in_workers (All-from_recursion (AreWorkerCaches c.profile) c.caches.workers s.caches.magazines)).orders in
    record { in_workers = in_workers; in_orders = rw six o_lt }

pub inside_before : (c : Caches) (w o : ℕ) (cache : Cache) → AreInside (with_worker_cache c w o cache) w o → AreInside c w o
inside_before c w o cache s =
    let cs = slice_set (slice_index_or c.workers w []) o cache in
    let n = length-set c.workers w cs in
    let in_workers : w < length c.workers = (let a = s.in_workers in omega arith) in
    let at = get_or-set_same c.workers w cs [] in_workers in
    let k = length-set (slice_index_or c.workers w []) o cache in
    let b : o < length cs = rw at at s.in_orders in
    record { in_workers = in_workers; in_orders = omega arith }

with_worker_cache-twice : (c : Caches) (w o : ℕ) (a b : Cache) → w < length c.workers → with_worker_cache (with_worker_cache c w o a) w o b ≡ with_worker_cache c w o b
with_worker_cache-twice c w o a b lt =
    let cs = slice_index_or c.workers w [] in
    let xs = slice_set cs o a in
    let inner : slice_set (slice_index_or (slice_set c.workers w xs) w []) o b ≡ slice_set cs o b = rw (get_or-set_same c.workers w xs [] lt) (set-set cs o a b) in
    ap (λ (workers : List (List Cache)). let after : Caches = record { workers = workers; depots = c.depots } in after)
    (ap (λ (ys : List Cache). slice_set (slice_set c.workers w xs) w ys) inner ∙ set-set c.workers w xs (slice_set cs o b))

loaded_get : (loaded : List ℕ) (depot : List (List ℕ)) (limit size : ℕ)
    → with_lists (get (record { loaded = loaded; previous = []; depot = [] }) limit size).1 depot ≡ (pop_entry (record { loaded = loaded; previous = []; depot = depot }) (fitting loaded limit size)).1
loaded_get [] depot limit size = refl
loaded_get (x ∷ xs) depot limit size = sym (popped-lists (x ∷ xs) [] depot (fitting (x ∷ xs) limit size))

empty_get : (loaded previous : List ℕ) (depot : List (List ℕ)) (limit size : ℕ) → loaded ≡ [] → previous ≡ []
    → (pop_entry (record { loaded = last_or [] depot; previous = []; depot = front depot }) (fitting (last_or [] depot) limit size)).1 ≡ (get (record { loaded = loaded; previous = previous; depot = depot }) limit size).1
empty_get [] [] depot limit size e f = refl
empty_get (x ∷ xs) previous depot limit size e f = absurd cc
empty_get [] (y ∷ ys) depot limit size e f = absurd cc

with_shelf-reload : (c : Caches) (w o limit size : ℕ) → AreInside c w o → AreEmpty (cache_at c w o)
    → let depot = slice_index_or c.depots o [] in let loaded : Shelf = record { loaded = last_or [] depot; previous = []; depot = front depot } in let mid = with_shelf c w o loaded in
    with_worker_cache mid w o (pair_of (get (shelf_of (cache_at mid w o)) limit size).1) ≡ with_shelf c w o (get (shelf_at c w o) limit size).1
with_shelf-reload c w o limit size s none =
    let depot = slice_index_or c.depots o [] in
    let first : Cache = record { loaded = last_or [] depot; previous = [] } in
    let mid = with_depot (with_worker_cache c w o first) o (front depot) in
    let at : cache_at mid w o ≡ first = at_same c w o first s.in_workers s.in_orders in
    let got_from : Cache = pair_of (get (shelf_of first) limit size).1 in
    let whole : with_lists (shelf_of got_from) (front depot) ≡ (get (shelf_at c w o) limit size).1 =
    loaded_get (last_or [] depot) (front depot) limit size ∙ empty_get (cache_at c w o).loaded (cache_at c w o).previous depot limit size none.0 none.1 in
    ap (λ (cache : Cache). with_worker_cache mid w o (pair_of (get (shelf_of cache) limit size).1)) at
    ∙ (ap (λ (c' : Caches). with_depot c' o (front depot)) (with_worker_cache-twice c w o first got_from s.in_workers)
    ∙ ap (λ (s : Shelf). with_shelf c w o s) whole)

-- as `reload_and_get` says it
pub got_reloaded : (old mid new : Cached) (w o limit : ℕ) → IsCached mid → w < old.workers → o < 6 → AreEmpty (cache_at old.caches w o)
    → mid ≡ record old { caches = with_shelf old.caches w o (record { loaded = last_or [] (slice_index_or old.caches.depots o []); previous = []; depot = front (slice_index_or old.caches.depots o []) }) }
    → new ≡ record mid { caches = with_worker_cache mid.caches w o (pair_of (get (shelf_of (cache_at mid.caches w o)) limit (2 ^ o)).1) }
    → new ≡ record old { caches = with_shelf old.caches w o (get (shelf_at old.caches w o) limit (2 ^ o)).1 }
got_reloaded old mid new w o limit s w_lt o_lt none is_mid is_new =
    let depot = slice_index_or old.caches.depots o [] in
    let first : Cache = record { loaded = last_or [] depot; previous = [] } in
    let now : Cached = record old { caches = with_depot (with_worker_cache old.caches w o first) o (front depot) } in
    let sound : IsCached now = rw is_mid at s in
    let inside = inside_sound now w o sound w_lt o_lt in
    let before = inside_before old.caches w o first (record { in_workers = inside.in_workers; in_orders = inside.in_orders }) in
    is_new ∙ (ap (λ (m : Cached). let after : Cached = record m { caches = with_worker_cache m.caches w o (pair_of (get (shelf_of (cache_at m.caches w o)) limit (2 ^ o)).1) } in after) is_mid
    ∙ ap (λ (c : Caches). let after : Cached = record old { caches = c } in after) (with_shelf-reload old.caches w o limit (2 ^ o) before none))

-- A put where both are full.

abbrev pub emptied : Cache → Cache
emptied c = record { loaded = []; previous = c.previous }

put_empty : (p : Capacities) (c : Cache) (lo : ℕ) → 127 ≤ p.mag → pair_of (put p (shelf_of (emptied c)) lo) ≡ record { loaded = lo ∷ []; previous = c.previous }
put_empty p c lo some = let room : nat_lt 0 p.mag ≡ true = grind (arith, nat_tests) in rw room refl

put-full : (p : Capacities) (s : Shelf) (lo : ℕ) (b : Bool) → length s.loaded ≡ p.mag → length s.previous ≡ p.mag → nat_lt (length s.depot) p.depot ≡ b
    → put p s lo ≡ record { loaded = lo ∷ []; previous = s.previous; depot = cond b (s.depot ++ s.loaded ∷ []) s.depot }
put-full p s lo b full full' is =
    let first : nat_lt (length s.loaded) p.mag ≡ false = grind (arith, nat_tests) in
    let second : nat_lt (length s.previous) p.mag ≡ false = grind (arith, nat_tests) in
    cases b is first second
  where
    cases : (b : Bool) → nat_lt (length s.depot) p.depot ≡ b → nat_lt (length s.loaded) p.mag ≡ false → nat_lt (length s.previous) p.mag ≡ false
        → put p s lo ≡ record { loaded = lo ∷ []; previous = s.previous; depot = cond b (s.depot ++ s.loaded ∷ []) s.depot }
    cases true is first second = rw (first, second, is) refl
    cases false is first second = rw (first, second, is) refl

with_shelf-put : (p : Capacities) (c : Caches) (w o lo : ℕ) (depots : List (List (List ℕ))) (b : Bool) → 127 ≤ p.mag → AreInside c w o → AreFull p (cache_at c w o)
    → nat_lt (length (slice_index_or c.depots o [])) p.depot ≡ b
    → depots ≡ slice_set c.depots o (cond b (slice_index_or c.depots o [] ++ (cache_at c w o).loaded ∷ []) (slice_index_or c.depots o []))
    → let mid : Caches = record { workers = (with_worker_cache c w o (emptied (cache_at c w o))).workers; depots = depots } in
    with_worker_cache mid w o (pair_of (put p (shelf_of (cache_at mid w o)) lo)) ≡ with_shelf c w o (put p (shelf_at c w o) lo)
with_shelf-put p c w o lo depots b some s full room are =
    let here = cache_at c w o in
    let last : Cache = record { loaded = lo ∷ []; previous = here.previous } in
    let mid : Caches = record { workers = (with_worker_cache c w o (emptied here)).workers; depots = depots } in
    let at : cache_at mid w o ≡ emptied here = at_same c w o (emptied here) s.in_workers s.in_orders in
    let whole = put-full p (shelf_at c w o) lo b full.0 full.1 room in
    ap (λ (cache : Cache). with_worker_cache mid w o (pair_of (put p (shelf_of cache) lo))) at
    ∙ (ap (λ (cache : Cache). with_worker_cache mid w o cache) (put_empty p here lo some)
    ∙ (ap (λ (c' : Caches). let after : Caches = record { workers = c'.workers; depots = depots } in after) (with_worker_cache-twice c w o (emptied here) last s.in_workers)
    ∙ (ap (λ (ds : List (List (List ℕ))). let after : Caches = record { workers = (with_worker_cache c w o last).workers; depots = ds } in after) are
    ∙ ap (λ (s : Shelf). with_shelf c w o s) (sym whole))))

-- as `put_full` says it: the magazine is renewed, and stored or sent
put_stored : (old m1 m2 m3 : Cached) (w o lo : ℕ) (depot : List (List ℕ)) (b done : Bool) → IsCached m1 → w < old.workers → o < 6 → AreFull old.profile (cache_at old.caches w o)
    → m1 ≡ record old { caches = with_worker_cache old.caches w o (emptied (cache_at old.caches w o)) }
    → nat_lt (length (slice_index_or old.caches.depots o [])) old.profile.depot ≡ b
    → depot ≡ cond b (slice_index_or old.caches.depots o [] ++ (cache_at old.caches w o).loaded ∷ []) (slice_index_or old.caches.depots o [])
    → m2 ≡ record m1 { caches = with_depot m1.caches o depot }
    → (HasRoom m2.profile (cache_at m2.caches w o) → done ≡ true)
    → OnTrue done (m3 ≡ record m2 { caches = with_worker_cache m2.caches w o (pair_of (put m2.profile (shelf_of (cache_at m2.caches w o)) lo)) })
    → m3 ≡ record old { caches = with_shelf old.caches w o (put old.profile (shelf_at old.caches w o) lo) }
put_stored old m1 m2 m3 w o lo depot b done s w_lt o_lt full is1 room depot_is is2 has_room is3 =
    let c = old.caches in
    let here = cache_at c w o in
    let now1 : Cached = record old { caches = with_worker_cache c w o (emptied here) } in
    let now2 : Cached = record old { caches = with_depot (with_worker_cache c w o (emptied here)) o depot } in
    let sound : IsCached now1 = rw is1 at s in
    let some : 127 ≤ old.profile.mag = (sizes_of old.profile sound.profile).some in
    let inside = inside_before c w o (emptied here) (inside_sound now1 w o sound w_lt o_lt) in
    let all2 : m2 ≡ now2 = is2 ∙ ap (λ (m : Cached). let after : Cached = record m { caches = with_depot m.caches o depot } in after) is1 in
    let empty : cache_at now2.caches w o ≡ emptied here = at_same c w o (emptied here) inside.in_workers inside.in_orders in
    let none : length (cache_at now2.caches w o).loaded ≡ 0 = ap (λ (cache : Cache). length cache.loaded) empty in
    let less : length (cache_at now2.caches w o).loaded < now2.profile.mag = omega arith in
    let free : HasRoom m2.profile (cache_at m2.caches w o) = rw all2 (inl less) in
    OnTrue_at (has_room free) is3 ∙ (ap (λ (m : Cached). let after : Cached = record m { caches = with_worker_cache m.caches w o (pair_of (put m.profile (shelf_of (cache_at m.caches w o)) lo)) } in after) all2
    ∙ ap (λ (c' : Caches). let after : Cached = record old { caches = c' } in after)
    (with_shelf-put old.profile c w o lo (slice_set c.depots o depot) b some inside full room (ap (λ (d : List (List ℕ)). slice_set c.depots o d) depot_is)))

unchanged : (m : Cached) (o : ℕ) → m ≡ record m { caches = with_depot m.caches o (slice_index_or m.caches.depots o []) }
unchanged m o = ap (λ (ds : List (List (List ℕ))). let after : Cached = record m { caches = record { workers = m.caches.workers; depots = ds } } in after) (sym (set-get_or m.caches.depots o []))

pub put_both_full : (old m1 m2 m3 : Cached) (w o lo : ℕ) (sent : Option Magazine) (magazine : Magazine) (done : Bool) → IsCached m1 → w < old.workers → o < 6 → AreFull old.profile (cache_at old.caches w o)
    → m1 ≡ record old { caches = with_worker_cache old.caches w o (emptied (cache_at old.caches w o)) }
    → magazine.entries ≡ (cache_at old.caches w o).loaded
    → IfSome sent (λ m. (m ≡ magazine) × (m2 ≡ m1) × (length (slice_index_or m1.caches.depots o []) ≡ m1.profile.depot))
    → IfNone sent (length (slice_index_or m1.caches.depots o []) < m1.profile.depot)
    → IfNone sent (m2 ≡ record m1 { caches = with_depot m1.caches o (slice_index_or m1.caches.depots o [] ++ magazine.entries ∷ []) })
    → (HasRoom m2.profile (cache_at m2.caches w o) → done ≡ true)
    → OnTrue done (m3 ≡ record m2 { caches = with_worker_cache m2.caches w o (pair_of (put m2.profile (shelf_of (cache_at m2.caches w o)) lo)) })
    → m3 ≡ record old { caches = with_shelf old.caches w o (put old.profile (shelf_at old.caches w o) lo) }
put_both_full old m1 m2 m3 w o lo None magazine done s w_lt o_lt full is1 entries sent room stored has_room is3 =
    let depot = slice_index_or old.caches.depots o [] in
    let same : slice_index_or m1.caches.depots o [] ≡ depot = ap (λ (m : Cached). slice_index_or m.caches.depots o []) is1 in
    let profile : m1.profile.depot ≡ old.profile.depot = ap (λ (m : Cached). m.profile.depot) is1 in
    let less : length depot < old.profile.depot = rw (same, profile) at room in
    let b : nat_lt (length depot) old.profile.depot ≡ true = grind (arith, nat_tests) in
    put_stored old m1 m2 m3 w o lo (depot ++ (cache_at old.caches w o).loaded ∷ []) true done s w_lt o_lt full is1 b refl (rw (same, entries) at stored) has_room is3
put_both_full old m1 m2 m3 w o lo (Some m) magazine done s w_lt o_lt full is1 entries sent room stored has_room is3 =
    let depot = slice_index_or old.caches.depots o [] in
    let same : slice_index_or m1.caches.depots o [] ≡ depot = ap (λ (m : Cached). slice_index_or m.caches.depots o []) is1 in
    let profile : m1.profile.depot ≡ old.profile.depot = ap (λ (m : Cached). m.profile.depot) is1 in
    let all : length depot ≡ old.profile.depot = rw (same, profile) at sent.2 in
    let b : nat_lt (length depot) old.profile.depot ≡ false = grind (arith, nat_tests) in
    let m1' : m1 ≡ record m1 { caches = with_depot m1.caches o depot } = rw same at (unchanged m1 o) in
    put_stored old m1 m2 m3 w o lo depot false done s w_lt o_lt full is1 b refl (sent.1 ∙ m1') has_room is3
