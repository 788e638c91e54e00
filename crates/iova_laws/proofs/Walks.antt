-- The walk of a request touches the caches alone, and empties them where it finds nothing.
use Rattle.std.proofs.Common.{ℕ, ◌≡◌, Bool, true, false, ◌&&◌, List, [], map, Option, Some, None, refl, sym, ap, ◌∙◌}
use Rattle.iova_range.specs.declared.limits.TheConstants.{SAC_LIMIT}
use Rattle.std.specs.Prelude.{nat_lt, slice_index_or, slice_set}
use Rattle.std.proofs.Math.Seq.{map-set_same}
use Rattle.std.proofs.lemmas.Bool.{cond_both}
use Rattle.iova_range.specs.Sizes.{order_of}
use Rattle.iova_model.specs.declared.step.Point.{Point}
use Rattle.iova_model.specs.declared.step.Point.TheVariants as point
use Rattle.iova_model.specs.Caches.{Cache, Caches, Shelf, no_magazines, shelf_at, with_shelf, get, without_entries}
use Rattle.iova_model.specs.State.{State}
use Rattle.iova_model.specs.Next

-- whatever a shelf is, the emptied caches are the same
emptied-with_shelf : (c : Caches) (w o : ℕ) (s : Shelf) → without_entries (with_shelf c w o s) ≡ without_entries c
emptied-with_shelf c w o s =
    let none : Cache → Cache = λ x. no_magazines in
    let row = slice_index_or c.workers w [] in
    let same_row = map-set_same none row o (record { loaded = s.loaded; previous = s.previous }) no_magazines refl in
    let workers = map-set_same (map none) c.workers w (slice_set row o (record { loaded = s.loaded; previous = s.previous })) [] same_row in
    let no_lists : List (List ℕ) → List (List ℕ) = λ d. [] in
    let depots = map-set_same no_lists c.depots o s.depot [] refl in
    let with_workers : List (List Cache) → Caches = λ x. record { workers = x; depots = map no_lists (slice_set c.depots o s.depot) } in
    let with_depots : List (List (List ℕ)) → Caches = λ x. record { workers = map (map none) c.workers; depots = x } in
    ap with_workers workers ∙ ap with_depots depots

-- All but the caches is as it was, and they are emptied alike.
record IsRecached (s t : State) : Type 0 where
  is : t ≡ Next.with_caches s t.caches
  emptied : without_entries t.caches ≡ without_entries s.caches

-- what a try that found nothing leaves of the caches
abbrev pub LeftBy : Bool → Caches → Caches → Type 0
LeftBy true old new = new ≡ without_entries old
LeftBy false old new = without_entries new ≡ without_entries old

-- what a try leaves
pub record IsWalked (s : State) (emptying : Bool) (t : Next.Tried) : Type 0 where
  pub is : t.state ≡ Next.with_caches s t.state.caches
  pub nowhere : t.found ≡ Next.Nowhere → LeftBy emptying s.caches t.state.caches

-- a state is itself
recached_self : (s : State) → IsRecached s s
recached_self s = record { is = refl; emptied = refl }

-- the tree is asked again, with all caches emptied
again_walked : (s t : State) (place : Option ℕ) (no_memory : Bool) → t ≡ Next.with_caches s (without_entries s.caches) → IsWalked s true (Next.from_tree t place no_memory)
again_walked s t None no_memory e = record { is = e ∙ ap (λ x. Next.with_caches s x.caches) (sym e); nowhere = λ n. ap (λ x. x.caches) e }
again_walked s t (Some lo) no_memory e = record { is = e ∙ ap (λ x. Next.with_caches s x.caches) (sym e); nowhere = λ n. ap (λ x. x.caches) e }

-- the tree is asked, and perhaps again
tree_walked : (s t : State) (size limit : ℕ) (place : Option ℕ) (emptying no_memory no_memory_last : Bool) → IsRecached s t
    → (let x = Next.from_tree t place no_memory in IsWalked s emptying (Next.or_emptied x.found x.state size limit emptying no_memory_last))
tree_walked s t size limit None true no_memory no_memory_last h =
    let u = Next.with_caches t (without_entries t.caches) in
    let same : u ≡ Next.with_caches s (without_entries s.caches) = ap (λ x. Next.with_caches x (without_entries t.caches)) h.is ∙ ap (λ c. Next.with_caches s c) h.emptied in
    again_walked s u (Next.best_place u size limit) no_memory_last same
tree_walked s t size limit None false no_memory no_memory_last h = record { is = h.is; nowhere = λ n. h.emptied }
tree_walked s t size limit (Some lo) emptying true no_memory_last h = record { is = h.is; nowhere = λ n. absurd cc }
tree_walked s t size limit (Some lo) emptying false no_memory_last h = record { is = h.is; nowhere = λ n. absurd cc }

-- where nothing came from the cache
or_tree_walked : (s t : State) (cached : Option ℕ) (size limit : ℕ) (emptying : Bool) (here m : Point) → IsRecached s t → IsWalked s emptying (Next.or_tree cached t size limit emptying here m)
or_tree_walked s t (Some lo) size limit emptying here m h = record { is = h.is; nowhere = λ n. absurd cc }
or_tree_walked s t None size limit emptying here m h = tree_walked s t size limit (Next.best_place t size limit) emptying (Next.is_at here m) (Next.is_at point.Last m) h

-- the cache is asked
cache_recached : (s : State) (w size limit : ℕ) (order : Option ℕ) → IsRecached s (Next.from_cache s w size limit order).1
cache_recached s w size limit None = recached_self s
cache_recached s w size limit (Some o) = record { is = refl; emptied = emptied-with_shelf s.caches w o (get (shelf_at s.caches w o) limit size).1 }

-- one try
try_walked : (s : State) (w size limit : ℕ) (emptying : Bool) (here m : Point) → IsWalked s emptying (Next.try s w size limit emptying here m)
try_walked s w size limit emptying here m =
    let cached = Next.from_cache s w size limit (order_of size) in
    or_tree_walked s cached.1 cached.0 size limit emptying here m (cache_recached s w size limit (order_of size))

-- a second, where the first found nothing
second_walked : (s : State) (found : Next.Found) (t : State) (w size limit : ℕ) (m : Point) → IsWalked s false (record { found = found; state = t }) → IsWalked s true (Next.or_second found t w size limit m)
second_walked s Next.Nowhere t w size limit m h =
    let x = try_walked t w size limit true point.Second m in
    let same : without_entries t.caches ≡ without_entries s.caches = h.nowhere refl in
    record {
      is = x.is ∙ ap (λ u. Next.with_caches u (Next.try t w size limit true point.Second m).state.caches) h.is;
      nowhere = λ n. x.nowhere n ∙ same;
    }
second_walked s (Next.At lo) t w size limit m h = record { is = h.is; nowhere = λ n. absurd cc }
second_walked s Next.OutOfMemory t w size limit m h = record { is = h.is; nowhere = λ n. absurd cc }

-- all of it
pub walk_walked : (s : State) (w : ℕ) (sac : Bool) (size limit : ℕ) (m : Point) → IsWalked s true (Next.walk s w sac size limit m)
walk_walked s w sac size limit m =
    let t = Next.try s w size SAC_LIMIT false point.First m in
    let second = Next.or_second t.found t.state w size limit m in
    cond_both (sac && nat_lt SAC_LIMIT limit) second (Next.try s w size limit true point.Second m) (λ x. IsWalked s true x)
    (λ e. second_walked s t.found t.state w size limit m (try_walked s w size SAC_LIMIT false point.First m))
    (λ e. try_walked s w size limit true point.Second m)
