-- The slots below the first that may be filled are empty, and stay so when an entry is taken out.
use Rattle.std.proofs.Common.{ℕ, zero, suc, ◌≡◌, ◌+◌, ◌*◌, ◌<◌, ◌≤◌, ◌⊎◌, inl, inr, List, [], ◌∷◌, length, Some, refl, sym, ap, subst, ◌∙◌, arith}
use Rattle.std.specs.Prelude.{map, slice_get, slice_index_or, slice_set}
use Rattle.std.proofs.Math.Seq.{map-set_same}
use Rattle.std.proofs.lemmas.Bool.{cases_lt}
use Rattle.std.proofs.lemmas.List.Elements.{All-get_or, All-from_recursion}
use Rattle.iova_range.specs.Bounds.{Capacities}
use Rattle.iova_model.specs.Caches.{Cache, Caches, Shelf, no_magazines, cache_at, shelf_at, with_shelf, TakesOffShelf, TakesEntry, without_entries}
use Rattle.iova_model.specs.Valid.{AreWorkerCaches, AreCaches}
use Rattle.iova_mag.specs.Workers.{WorkerCache, AreEmpty, pair_of}
use Rattle.iova_depot.specs.Stored.{Stored}
use Rattle.iova_depot.specs.Cached.{Cached}
use Rattle.iova_depot.specs.Inside.{AreEmptyBelow, caches_of, AreCachesKept}
use Rattle.iova_depot.proofs.Changes.{all_seen}

-- an element of a list after a write is what was written, or as it was
at_either : {A : Type 0} (xs : List A) (i j : ℕ) (a d : A) → ((slice_index_or (slice_set xs i a) j d ≡ a) × (j ≡ i)) ⊎ (slice_index_or (slice_set xs i a) j d ≡ slice_index_or xs j d)
at_either [] i j a d = inr refl
at_either (x ∷ xs) zero zero a d = inl (refl, refl)
at_either (x ∷ xs) zero (suc j) a d = inr refl
at_either (x ∷ xs) (suc i) zero a d = inr refl
at_either (x ∷ xs) (suc i) (suc j) a d = step (at_either xs i j a d)
  where
    step : ((slice_index_or (slice_set xs i a) j d ≡ a) × (j ≡ i)) ⊎ (slice_index_or (slice_set xs i a) j d ≡ slice_index_or xs j d)
        → ((slice_index_or (slice_set xs i a) j d ≡ a) × (suc j ≡ suc i)) ⊎ (slice_index_or (slice_set xs i a) j d ≡ slice_index_or xs j d)
    step (inl (is, at)) = inl (is, ap suc at)
    step (inr is) = inr is

-- a shelf is either the one that was set or another
cache_either : (c : Caches) (w o v i : ℕ) (s : Shelf) → ((cache_at (with_shelf c w o s) v i ≡ pair_of s) × (v ≡ w) × (i ≡ o)) ⊎ (cache_at (with_shelf c w o s) v i ≡ cache_at c v i)
cache_either c w o v i s = outer (at_either c.workers w v (slice_set cs o (pair_of s)) [])
  where
    cs : List Cache
    cs = slice_index_or c.workers w []

    inner : slice_index_or (slice_set c.workers w (slice_set (slice_index_or c.workers w []) o (pair_of s))) v [] ≡ slice_set (slice_index_or c.workers w []) o (pair_of s) → v ≡ w
        → ((slice_index_or (slice_set (slice_index_or c.workers w []) o (pair_of s)) i no_magazines ≡ pair_of s) × (i ≡ o)) ⊎ (slice_index_or (slice_set (slice_index_or c.workers w []) o (pair_of s)) i no_magazines ≡ slice_index_or (slice_index_or c.workers w []) i no_magazines)
        → ((cache_at (with_shelf c w o s) v i ≡ pair_of s) × (v ≡ w) × (i ≡ o)) ⊎ (cache_at (with_shelf c w o s) v i ≡ cache_at c v i)
    inner here at (inl (is, e)) = inl (ap (λ (xs : List Cache). slice_index_or xs i no_magazines) here ∙ is, at, e)
    inner here at (inr same) = inr (ap (λ (xs : List Cache). slice_index_or xs i no_magazines) here ∙ (same ∙ ap (λ (w : ℕ). cache_at c w i) (sym at)))

    outer : ((slice_index_or (slice_set c.workers w (slice_set (slice_index_or c.workers w []) o (pair_of s))) v [] ≡ slice_set (slice_index_or c.workers w []) o (pair_of s)) × (v ≡ w))
        ⊎ (slice_index_or (slice_set c.workers w (slice_set (slice_index_or c.workers w []) o (pair_of s))) v [] ≡ slice_index_or c.workers v [])
        → ((cache_at (with_shelf c w o s) v i ≡ pair_of s) × (v ≡ w) × (i ≡ o)) ⊎ (cache_at (with_shelf c w o s) v i ≡ cache_at c v i)
    outer (inl (here, at)) = inner here at (at_either (slice_index_or c.workers w []) o i (pair_of s) no_magazines)
    outer (inr same) = inr (ap (λ (xs : List Cache). slice_index_or xs i no_magazines) same)

none_in_empty : (los : List ℕ) (place lo : ℕ) → los ≡ [] → slice_get los place ≡ Some lo → ⊥
none_in_empty [] place lo e some = absurd cc
none_in_empty (x ∷ xs) place lo e some = absurd cc

empty_pair : (lo : ℕ) (s t : Shelf) → TakesOffShelf lo s t → AreEmpty (pair_of s) → AreEmpty (pair_of t)
empty_pair lo s t (inl (takes, previous, depot)) none = absurd (none_in_empty s.loaded takes.place lo none.0 takes.here)
empty_pair lo s t (inr (inl (loaded, takes, depot))) none = absurd (none_in_empty s.previous takes.place lo none.1 takes.here)
empty_pair lo s t (inr (inr (loaded, previous, takes))) none = (loaded ∙ none.0, previous ∙ none.1)

empty_depot : (lo : ℕ) (s t : Shelf) → TakesOffShelf lo s t → s.depot ≡ [] → t.depot ≡ []
empty_depot lo s t (inl (takes, previous, depot)) none = depot ∙ none
empty_depot lo s t (inr (inl (loaded, takes, depot))) none = depot ∙ none
empty_depot lo s t (inr (inr (loaded, previous, takes))) none = let lists : length s.depot ≡ 0 = ap length none in let inside : takes.place + 1 ≤ length s.depot = takes.inside in absurd (omega arith)

-- what is taken out leaves the empty ones empty
pub empty-takes : (n workers o lo : ℕ) (old new : Caches) → AreEmptyBelow n workers old → TakesEntry o lo old new → AreEmptyBelow n workers new
empty-takes n workers o lo old new s t = rw t.others (record {
  magazines = λ v i v_lt i_lt below. magazine v i v_lt i_lt below (cache_either old t.worker o v i t.shelf);
  depots = λ i lt below. depot i lt below (at_either old.depots o i t.shelf.depot []);
})
  where
    magazine : (v i : ℕ) → v < workers → i < 6 → v * 6 + i < n
        → ((cache_at (with_shelf old t.worker o t.shelf) v i ≡ pair_of t.shelf) × (v ≡ t.worker) × (i ≡ o)) ⊎ (cache_at (with_shelf old t.worker o t.shelf) v i ≡ cache_at old v i)
        → AreEmpty (cache_at (with_shelf old t.worker o t.shelf) v i)
    magazine v i v_lt i_lt below (inl (is, v_is, i_is)) =
        rw is (empty_pair lo (shelf_at old t.worker o) t.shelf t.takes (rw (v_is, i_is) at (s.magazines v i v_lt i_lt below)))
    magazine v i v_lt i_lt below (inr same) = rw same (s.magazines v i v_lt i_lt below)

    depot : (i : ℕ) → i < 6 → workers * 6 + i < n
        → ((slice_index_or (slice_set old.depots o t.shelf.depot) i [] ≡ t.shelf.depot) × (i ≡ o)) ⊎ (slice_index_or (slice_set old.depots o t.shelf.depot) i [] ≡ slice_index_or old.depots i [])
        → slice_index_or (slice_set old.depots o t.shelf.depot) i [] ≡ []
    depot i lt below (inl (is, i_is)) = is ∙ empty_depot lo (shelf_at old t.worker o) t.shelf t.takes (rw i_is at (s.depots i lt below))
    depot i lt below (inr same) = same ∙ s.depots i lt below

-- and leaves the same when all the others are taken out too
pub emptied-takes : (o lo : ℕ) (old new : Caches) → TakesEntry o lo old new → without_entries new ≡ without_entries old
emptied-takes o lo old new t =
    let cs = slice_index_or old.workers t.worker [] in
    let none : Cache → Cache = λ c. no_magazines in
    let no_lists : List (List ℕ) → List (List ℕ) = λ d. [] in
    let orders : map none (slice_set cs o (pair_of t.shelf)) ≡ map none cs = map-set_same none cs o (pair_of t.shelf) no_magazines refl in
    let workers : map (map none) (slice_set old.workers t.worker (slice_set cs o (pair_of t.shelf))) ≡ map (map none) old.workers =
    map-set_same (map none) old.workers t.worker (slice_set cs o (pair_of t.shelf)) [] orders in
    let depots : map no_lists (slice_set old.depots o t.shelf.depot) ≡ map no_lists old.depots = map-set_same no_lists old.depots o t.shelf.depot [] refl in
    ap without_entries t.others ∙ rw (workers, depots) refl

-- one more slot
pub empty-more : (slot workers : ℕ) (c : Caches) → AreEmptyBelow slot workers c → ((w o : ℕ) → w < workers → o < 6 → w * 6 + o ≡ slot → AreEmpty (cache_at c w o))
    → ((o : ℕ) → o < 6 → workers * 6 + o ≡ slot → slice_index_or c.depots o [] ≡ []) → AreEmptyBelow (slot + 1) workers c
empty-more slot workers c s magazines_empty depot_empty = record {
  magazines = λ w o w_lt o_lt below. at_worker w o w_lt o_lt below (cases_lt (w * 6 + o) slot);
  depots = λ o o_lt below. at_depot o o_lt below (cases_lt (workers * 6 + o) slot);
}
  where
    at_worker : (w o : ℕ) → w < workers → o < 6 → w * 6 + o < slot + 1 → (w * 6 + o < slot) ⊎ (slot ≤ w * 6 + o) → AreEmpty (cache_at c w o)
    at_worker w o w_lt o_lt below (inl lt) = s.magazines w o w_lt o_lt lt
    at_worker w o w_lt o_lt below (inr le) = magazines_empty w o w_lt o_lt (omega arith)

    at_depot : (o : ℕ) → o < 6 → workers * 6 + o < slot + 1 → (workers * 6 + o < slot) ⊎ (slot ≤ workers * 6 + o) → slice_index_or c.depots o [] ≡ []
    at_depot o o_lt below (inl lt) = s.depots o o_lt lt
    at_depot o o_lt below (inr le) = depot_empty o o_lt (omega arith)

-- where all are, nothing is cached
map_same : {A : Type 0} (f : A → A) (xs : List A) (d : A) → ((k : ℕ) → k < length xs → f (slice_index_or xs k d) ≡ slice_index_or xs k d) → map f xs ≡ xs
map_same f [] d same = refl
map_same f (x ∷ xs) d same = rw (same 0 (omega arith), map_same f xs d (λ k lt. same (suc k) (omega arith))) refl

are_none : (c : Cache) → AreEmpty c → no_magazines ≡ c
are_none c none = ap (λ (los : List ℕ). let d : Cache = record { loaded = los; previous = [] } in d) (sym none.0) ∙ ap (λ (los : List ℕ). let d : Cache = record { loaded = c.loaded; previous = los } in d) (sym none.1)

pub all_empty : (profile : Capacities) (slot workers : ℕ) (c : Caches) → AreCaches profile workers c → (workers + 1) * 6 ≤ slot → AreEmptyBelow slot workers c → without_entries c ≡ c
all_empty profile slot workers c sound le s =
    let n : length c.workers ≡ workers = sound.each_worker in
    let k : length c.depots ≡ 6 = sound.orders in
    let all_workers : map (λ (cs : List Cache). map (λ (cache : Cache). no_magazines) cs) c.workers ≡ c.workers = map_same _ c.workers [] (λ w lt. worker w lt n) in
    let all_depots : map (λ (d : List (List ℕ)). let none : List (List ℕ) = [] in none) c.depots ≡ c.depots = map_same _ c.depots [] (λ o lt. sym (s.depots o (omega arith) (omega arith))) in
    rw (all_workers, all_depots) refl
  where
    worker : (w : ℕ) → w < length c.workers → length c.workers ≡ workers → map (λ (cache : Cache). no_magazines) (slice_index_or c.workers w []) ≡ slice_index_or c.workers w []
    worker w lt n =
        let six = (All-get_or (AreWorkerCaches profile) c.workers w [] lt (All-from_recursion (AreWorkerCaches profile) c.workers sound.magazines)).orders in
        map_same _ (slice_index_or c.workers w []) no_magazines (λ o o_lt. are_none (cache_at c w o) (s.magazines w o (omega arith) (omega arith) (omega arith)))

-- another first slot
pub with_first : (profile : Capacities) (ws : List WorkerCache) (ds : List Stored) (d n n' : ℕ) → AreCachesKept profile ws ds d n → AreEmptyBelow n' (length ws) (caches_of ws ds) → AreCachesKept profile ws ds d n'
with_first profile ws ds d n n' s empty = record {
  is_profile = s.is_profile;
  some_worker = s.some_worker;
  few_workers = s.few_workers;
  same_in_workers = s.same_in_workers;
  same_in_depots = s.same_in_depots;
  caches = s.caches;
  depot = s.depot;
  empty = empty;
}

-- what the search for an entry knows of them, where it takes one
pub first_kept : (profile : Capacities) (ws : List WorkerCache) (ds : List Stored) (n o lo : ℕ) (old new : Cached) → all_seen profile ws ds ≡ new → new ≡ record old { caches = new.caches }
    → AreEmptyBelow n old.workers old.caches → TakesEntry o lo old.caches new.caches → AreEmptyBelow n (length ws) (caches_of ws ds)
first_kept profile ws ds n o lo old new seen_is same s takes =
    let after = empty-takes n old.workers o lo old.caches new.caches s takes in
    let now : AreEmptyBelow n new.workers new.caches = subst (λ (w : ℕ). AreEmptyBelow n w new.caches) (sym (ap (λ (c : Cached). c.workers) same)) after in
    subst (λ (c : Cached). AreEmptyBelow n c.workers c.caches) (sym seen_is) now

-- and where there is none
pub nothing_left : (profile : Capacities) (ws : List WorkerCache) (ds : List Stored) (d n slot : ℕ) (old now : Cached) → AreCachesKept profile ws ds d n → all_seen profile ws ds ≡ old → now ≡ old
    → AreEmptyBelow slot now.workers now.caches → (length ws + 1) * 6 ≤ slot → without_entries old.caches ≡ old.caches
nothing_left profile ws ds d n slot old now s seen_is same empty le =
    let before : AreEmptyBelow slot (length ws) (caches_of ws ds) = subst (λ (c : Cached). AreEmptyBelow slot c.workers c.caches) (same ∙ sym seen_is) empty in
    rw (← seen_is) (all_empty profile slot (length ws) (caches_of ws ds) s.caches le before)
