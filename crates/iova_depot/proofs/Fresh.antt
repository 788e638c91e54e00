-- Caches with nothing in them are sound.
use Rattle.std.proofs.Common.{ℕ, zero, suc, ◌≡◌, ◌≤◌, List, [], ◌∷◌, refl, ap, arith}
use Rattle.std.specs.Prelude.{map, replicate}
use Rattle.std.proofs.lemmas.List.{length-map, length-replicate}
use Rattle.std.proofs.lemmas.List.Elements.{All-replicate, recursion_from_All}
use Rattle.iova_range.specs.Bounds.{Capacities, IsProfile}
use Rattle.iova_model.specs.Caches.{Cache, no_magazines}
use Rattle.iova_model.specs.Valid.{IsCache, AreWorkerCaches, IsDepot}
use Rattle.iova_mag.specs.Workers.{WorkerCache, new_worker}
use Rattle.iova_depot.specs.Stored.{Stored}
use Rattle.iova_depot.specs.Cached.{Cached, new_cached}
use Rattle.iova_depot.specs.Inside.{AreCachesKept}
use Rattle.iova_depot.proofs.Changes.{all_seen, caches_in}

abbrev pub new_depot : Capacities → Stored
new_depot profile = record { profile = profile; lists = [] }

map-replicate : {A B : Type 0} (f : A → B) (n : ℕ) (x : A) → map f (replicate n x) ≡ replicate n (f x)
map-replicate f zero x = refl
map-replicate f (suc n) x = ap (λ xs. f x ∷ xs) (map-replicate f n x)

-- how they are seen
seen_new : (profile : Capacities) (n : ℕ) → map caches_in (replicate n (new_worker profile)) ≡ replicate n (replicate 6 no_magazines)
seen_new profile n = map-replicate caches_in n (new_worker profile)

pub all_seen-new : (profile : Capacities) (n : ℕ) (ws : List WorkerCache) (ds : List Stored) → ws ≡ replicate n (new_worker profile) → ds ≡ replicate 6 (new_depot profile) → all_seen profile ws ds ≡ new_cached profile n
all_seen-new profile n ws ds is_ws is_ds =
    rw (is_ws, is_ds, length-replicate n (new_worker profile))
    (ap (λ (all : List (List Cache)). let c : Cached = record { profile = profile; workers = n; caches = record { workers = all; depots = replicate 6 [] } } in c) (seen_new profile n))

six_caches : (p : Capacities) → AreWorkerCaches p (replicate 6 no_magazines)
six_caches p = record {
  orders = refl;
  each = recursion_from_All (IsCache p) (replicate 6 no_magazines) (All-replicate (IsCache p) 6 no_magazines (record { loaded = omega arith; previous = omega arith }));
}

empty_depot : (p : Capacities) → IsDepot p []
empty_depot p = record { room = omega arith; each = tt }

fresh_lists : (profile : Capacities) (n : ℕ) → IsProfile profile → 1 ≤ n → n ≤ 16 → AreCachesKept profile (replicate n (new_worker profile)) (replicate 6 (new_depot profile)) 0 0
fresh_lists profile n is_profile some few =
    let len = length-replicate n (new_worker profile) in
    record {
      is_profile = is_profile;
      some_worker = rw len some;
      few_workers = rw len few;
      same_in_workers = All-replicate (λ (w : WorkerCache). w.profile ≡ profile) n (new_worker profile) refl;
      same_in_depots = All-replicate (λ (d : Stored). d.profile ≡ profile) 6 (new_depot profile) refl;
      caches = record {
        each_worker = length-map (replicate n (new_worker profile)) caches_in;
        magazines = rw (seen_new profile n) (recursion_from_All (AreWorkerCaches profile) (replicate n (replicate 6 no_magazines)) (All-replicate (AreWorkerCaches profile) n (replicate 6 no_magazines) (six_caches profile)));
        orders = refl;
        depots = recursion_from_All (IsDepot profile) (replicate 6 []) (All-replicate (IsDepot profile) 6 [] (empty_depot profile));
      };
      depot = refl;
      empty = record { magazines = λ w o w_lt o_lt below. absurd (omega arith); depots = λ o o_lt below. absurd (omega arith) };
    }

pub fresh : (profile : Capacities) (n : ℕ) (ws : List WorkerCache) (ds : List Stored) → IsProfile profile → 1 ≤ n → n ≤ 16 → ws ≡ replicate n (new_worker profile) → ds ≡ replicate 6 (new_depot profile) → AreCachesKept profile ws ds 0 0
fresh profile n ws ds is_profile some few is_ws is_ds = rw (is_ws, is_ds) (fresh_lists profile n is_profile some few)
