-- The entry that a take takes out is all that leaves: the cached ranges weigh less by that one, whatever ranges weigh.
use Rattle.std.proofs.Common.{ℕ, zero, suc, ◌≡◌, ◌+◌, ◌^◌, ◌<◌, ◌≤◌, inl, inr, List, [], ◌∷◌, length, Some, refl, sym, ap, subst, ◌∙◌, arith, map}
use Rattle.std.specs.Prelude.{slice_get, slice_index_or, slice_set, sum_by}
use Rattle.std.proofs.lemmas.List.{set-get_or}
use Rattle.std.proofs.lemmas.List.Sums.{sum_by-cons, sum_by-remove, sum_by-set}
use Rattle.std.proofs.lemmas.Option.{get_or_from_slice_get, slice_get_within}
use Rattle.iova_range.specs.Frames.{Frames}
use Rattle.iova_range.specs.Bounds.{Capacities}
use Rattle.iova_model.specs.declared.place.Place.{Place}
use Rattle.iova_model.specs.declared.place.Place.TheVariants as place
use Rattle.iova_model.specs.Caches.{Cache, Caches, Shelf, no_magazines, cache_at, shelf_at, with_shelf, of_order, without_list, TakesOut, TakesOutOfDepot, TakesOffShelf, TakesEntry}
use Rattle.iova_model.specs.State.{Holder, at_place, cache_holders, magazine_holders, list_holders, depot_holders, cached_holders}
use Rattle.iova_model.specs.Effects.{frames_of}
use Rattle.iova_mag.specs.Workers.{WorkerCache, pair_of}
use Rattle.iova_depot.specs.Stored.{Stored}
use Rattle.iova_depot.specs.Cached.{Cached, LosesOnly}
use Rattle.iova_depot.specs.Inside.{caches_of}
use Rattle.iova_depot.proofs.Changes.{all_seen}
use Rattle.iova_depot.proofs.Counts.{weight_of, weight_of-append, weight_of-set, frames_in, pair_holders, by_orders, by_workers, by_depots}

-- an index at which a list has what it has nowhere by default
inside_by : {A : Type 0} (xs : List A) (i : ℕ) (d : A) (P : A → Type 0) → (P d → ⊥) → P (slice_index_or xs i d) → i < length xs
inside_by [] i d P never here = absurd (never here)
inside_by (x ∷ xs) zero d P never here = omega arith
inside_by (x ∷ xs) (suc i) d P never here = let lt = inside_by xs i d P never here in omega arith

none_in : (i lo : ℕ) → slice_get [] i ≡ Some lo → ⊥
none_in i lo some = absurd cc

-- what the range of an entry of this order weighs
abbrev pub of_entry : (Frames → ℕ) → ℕ → ℕ → ℕ
of_entry weigh o lo = weigh (record { lo = lo; len = 2 ^ o })

-- what the entries of a list weigh
abbrev pub of_list : (Frames → ℕ) → ℕ → List ℕ → ℕ
of_list weigh o los = sum_by (of_entry weigh o) los

weight_of-at_place : (weigh : Frames → ℕ) (p : Place) (o : ℕ) (los : List ℕ) → weight_of weigh (at_place p (of_order o los)) ≡ of_list weigh o los
weight_of-at_place weigh p o [] = refl
weight_of-at_place weigh p o (lo ∷ los) =
    let first : Holder = record { range = record { lo = lo; len = 2 ^ o }; place = p } in
    let more = sum_by-cons (λ (h : Holder). weigh h.range) first (at_place p (of_order o los)) in
    let as_list = sum_by-cons (of_entry weigh o) lo los in
    omega (arith, weight_of-at_place weigh p o los)

weight_of-pair : (weigh : Frames → ℕ) (w o : ℕ) (c : Cache) → weight_of weigh (pair_holders w o c) ≡ of_list weigh o c.loaded + of_list weigh o c.previous
weight_of-pair weigh w o c =
    let p = place.Magazine w in
    let both = weight_of-append weigh (at_place p (of_order o c.loaded)) (at_place p (of_order o c.previous)) in
    omega (arith, weight_of-at_place weigh p o c.loaded, weight_of-at_place weigh p o c.previous)

weight_of-lists : (weigh : Frames → ℕ) (o : ℕ) (lists : List (List ℕ)) → weight_of weigh (list_holders o lists) ≡ sum_by (of_list weigh o) lists
weight_of-lists weigh o [] = refl
weight_of-lists weigh o (los ∷ rest) =
    let both = weight_of-append weigh (at_place place.Depot (of_order o los)) (list_holders o rest) in
    let as_lists = sum_by-cons (of_list weigh o) los rest in
    omega (arith, weight_of-at_place weigh place.Depot o los, weight_of-lists weigh o rest)

-- an entry leaves a list
takes_out : (f : ℕ → ℕ) (lo : ℕ) (old new : List ℕ) → TakesOut lo old new → sum_by f new + f lo ≡ sum_by f old
takes_out f lo old new t =
    let lt = slice_get_within old t.place lo t.here in
    let here : slice_index_or old t.place lo ≡ lo = get_or_from_slice_get old t.place lo lo t.here in
    rw t.others (rw here at (sum_by-remove f old t.place lo lt))

-- or one of several lists
without : (weight : List ℕ → ℕ) (lists : List (List ℕ)) (i : ℕ) (left : List ℕ) (one : ℕ) → weight [] ≡ 0 → i < length lists → weight left + one ≡ weight (slice_index_or lists i [])
    → sum_by weight (without_list lists i left) + one ≡ sum_by weight lists
without weight lists i [] one none lt is = let all = sum_by-remove weight lists i [] lt in omega arith
without weight lists i (x ∷ xs) one none lt is = let all = sum_by-set weight lists i (x ∷ xs) [] lt in omega arith

takes_out_of_depot : (weigh : Frames → ℕ) (o lo : ℕ) (old new : List (List ℕ)) → TakesOutOfDepot lo old new
    → weight_of weigh (list_holders o new) + of_entry weigh o lo ≡ weight_of weigh (list_holders o old)
takes_out_of_depot weigh o lo old new t =
    let inside : t.place + 1 ≤ length old = t.inside in
    let one = takes_out (of_entry weigh o) lo (slice_index_or old t.place []) t.left t.takes in
    let all = without (of_list weigh o) old t.place t.left (of_entry weigh o lo) refl (omega arith) one in
    rw (weight_of-lists weigh o new, weight_of-lists weigh o old, t.others) all

-- The magazines of one worker and order lose an entry.

join : (m m' p q e a b : ℕ) → m' + p ≡ m + q → q + a ≡ p + b → b + e ≡ a → m' + e ≡ m
join m m' p q e a b outer inner less = omega arith

off_magazines : (weigh : Frames → ℕ) (c : Caches) (w o lo : ℕ) (left : Cache) → w < length c.workers → o < length (slice_index_or c.workers w [])
    → of_list weigh o left.loaded + of_list weigh o left.previous + of_entry weigh o lo ≡ of_list weigh o (cache_at c w o).loaded + of_list weigh o (cache_at c w o).previous
    → weight_of weigh (magazine_holders 0 (slice_set c.workers w (slice_set (slice_index_or c.workers w []) o left))) + of_entry weigh o lo ≡ weight_of weigh (magazine_holders 0 c.workers)
off_magazines weigh c w o lo left in_workers in_orders less =
    let cs = slice_index_or c.workers w [] in
    let ds = slice_set cs o left in
    let zero_first : 0 + o ≡ o = omega arith in
    let outer = weight_of-set weigh (λ w cs. cache_holders w 0 cs) magazine_holders by_workers 0 w c.workers [] cs ds in_workers refl in
    let inner = rw (zero_first, weight_of-pair weigh (0 + w) o (cache_at c w o), weight_of-pair weigh (0 + w) o left) at
    (weight_of-set weigh (pair_holders (0 + w)) (cache_holders (0 + w)) (by_orders (0 + w)) 0 o cs no_magazines (cache_at c w o) left in_orders refl) in
    join (weight_of weigh (magazine_holders 0 c.workers)) (weight_of weigh (magazine_holders 0 (slice_set c.workers w ds))) (weight_of weigh (cache_holders (0 + w) 0 cs)) (weight_of weigh (cache_holders (0 + w) 0 ds))
    (of_entry weigh o lo) _ _ outer inner less

-- One depot does.
off_depot : (weigh : Frames → ℕ) (depots : List (List (List ℕ))) (o lo : ℕ) (left : List (List ℕ)) → o < length depots
    → weight_of weigh (list_holders o left) + of_entry weigh o lo ≡ weight_of weigh (list_holders o (slice_index_or depots o []))
    → weight_of weigh (depot_holders 0 (slice_set depots o left)) + of_entry weigh o lo ≡ weight_of weigh (depot_holders 0 depots)
off_depot weigh depots o lo left in_orders less =
    let zero_first : 0 + o ≡ o = omega arith in
    let all = rw zero_first at (weight_of-set weigh list_holders depot_holders by_depots 0 o depots [] (slice_index_or depots o []) left in_orders refl) in
    omega arith

-- A shelf does, and what is cached with it.

weight_of-cached : (weigh : Frames → ℕ) (c : Caches) → weight_of weigh (cached_holders c) ≡ weight_of weigh (magazine_holders 0 c.workers) + weight_of weigh (depot_holders 0 c.depots)
weight_of-cached weigh c = weight_of-append weigh (magazine_holders 0 c.workers) (depot_holders 0 c.depots)

same_depots : (c : Caches) (o : ℕ) (depot : List (List ℕ)) → depot ≡ slice_index_or c.depots o [] → slice_set c.depots o depot ≡ c.depots
same_depots c o depot is = ap (λ d. slice_set c.depots o d) is ∙ set-get_or c.depots o []

same_workers : (c : Caches) (w o : ℕ) (cache : Cache) → cache ≡ cache_at c w o → slice_set c.workers w (slice_set (slice_index_or c.workers w []) o cache) ≡ c.workers
same_workers c w o cache is =
    ap (λ (x : Cache). slice_set c.workers w (slice_set (slice_index_or c.workers w []) o x)) is
    ∙ (ap (λ (cs : List Cache). slice_set c.workers w cs) (set-get_or (slice_index_or c.workers w []) o no_magazines) ∙ set-get_or c.workers w [])

same_pair : (c : Caches) (w o : ℕ) (s : Shelf) → s.loaded ≡ (cache_at c w o).loaded → s.previous ≡ (cache_at c w o).previous → pair_of s ≡ cache_at c w o
same_pair c w o s loaded previous =
    ap (λ los. let x : Cache = record { loaded = los; previous = s.previous } in x) loaded
    ∙ ap (λ los. let x : Cache = record { loaded = (cache_at c w o).loaded; previous = los } in x) previous

off_shelf : (weigh : Frames → ℕ) (c : Caches) (w o lo : ℕ) (s : Shelf) → TakesOffShelf lo (shelf_at c w o) s
    → weight_of weigh (cached_holders (with_shelf c w o s)) + of_entry weigh o lo ≡ weight_of weigh (cached_holders c)
off_shelf weigh c w o lo s (inl (takes, previous, depot)) =
    let HasEntry : Cache → Type 0 = λ x. slice_get x.loaded takes.place ≡ Some lo in
    let never = none_in takes.place lo in
    let in_workers = inside_by c.workers w [] (λ cs. HasEntry (slice_index_or cs o no_magazines)) never takes.here in
    let in_orders = inside_by (slice_index_or c.workers w []) o no_magazines HasEntry never takes.here in
    let one = takes_out (of_entry weigh o) lo (cache_at c w o).loaded s.loaded takes in
    let kept = ap (of_list weigh o) previous in
    let magazines = off_magazines weigh c w o lo (pair_of s) in_workers in_orders (omega arith) in
    rw (weight_of-cached weigh (with_shelf c w o s), weight_of-cached weigh c, same_depots c o s.depot depot) (omega arith)
off_shelf weigh c w o lo s (inr (inl (loaded, takes, depot))) =
    let HasEntry : Cache → Type 0 = λ x. slice_get x.previous takes.place ≡ Some lo in
    let never = none_in takes.place lo in
    let in_workers = inside_by c.workers w [] (λ cs. HasEntry (slice_index_or cs o no_magazines)) never takes.here in
    let in_orders = inside_by (slice_index_or c.workers w []) o no_magazines HasEntry never takes.here in
    let one = takes_out (of_entry weigh o) lo (cache_at c w o).previous s.previous takes in
    let kept = ap (of_list weigh o) loaded in
    let magazines = off_magazines weigh c w o lo (pair_of s) in_workers in_orders (omega arith) in
    rw (weight_of-cached weigh (with_shelf c w o s), weight_of-cached weigh c, same_depots c o s.depot depot) (omega arith)
off_shelf weigh c w o lo s (inr (inr (loaded, previous, takes))) =
    let HasPlace : List (List ℕ) → Type 0 = λ lists. takes.place + 1 ≤ length lists in
    let in_orders = inside_by c.depots o [] HasPlace (λ inside. absurd (omega arith)) takes.inside in
    let depots = off_depot weigh c.depots o lo s.depot in_orders (takes_out_of_depot weigh o lo (slice_index_or c.depots o []) s.depot takes) in
    rw (weight_of-cached weigh (with_shelf c w o s), weight_of-cached weigh c, same_workers c w o (pair_of s) (same_pair c w o s loaded previous)) (omega arith)

-- What leaves the caches, in the words of a take.

off_caches : (weigh : Frames → ℕ) (o lo : ℕ) (old new : Caches) → TakesEntry o lo old new → weight_of weigh (cached_holders new) + of_entry weigh o lo ≡ weight_of weigh (cached_holders old)
off_caches weigh o lo old new t = rw t.others (off_shelf weigh old t.worker o lo t.shelf t.takes)

ranges_weigh : (weigh : Frames → ℕ) (hs : List Holder) → sum_by weigh (map (λ (h : Holder). h.range) hs) ≡ weight_of weigh hs
ranges_weigh weigh [] = refl
ranges_weigh weigh (h ∷ hs) =
    let more = sum_by-cons weigh h.range (map (λ (h : Holder). h.range) hs) in
    let as_holders = sum_by-cons (λ (h : Holder). weigh h.range) h hs in
    omega (arith, ranges_weigh weigh hs)

pub loses_only : (o lo : ℕ) (old new : Caches) → TakesEntry o lo old new → LosesOnly (record { lo = lo; len = 2 ^ o }) old new
loses_only o lo old new t weigh =
    rw (ranges_weigh weigh (cached_holders new), ranges_weigh weigh (cached_holders old)) (off_caches weigh o lo old new t)

pub loses_frames : (o lo : ℕ) (old new : Caches) → TakesEntry o lo old new → frames_of (cached_holders new) + 2 ^ o ≡ frames_of (cached_holders old)
loses_frames o lo old new t = off_caches frames_in o lo old new t

-- what was taken out of the caches as they were before the search for it
pub takes_seen : (profile : Capacities) (ws : List WorkerCache) (ds : List Stored) (o lo : ℕ) (old here new : Cached) → all_seen profile ws ds ≡ new → here ≡ old
    → TakesEntry o lo here.caches new.caches → TakesEntry o lo old.caches (caches_of ws ds)
takes_seen profile ws ds o lo old here new seen_is same takes =
    subst (λ (c : Cached). TakesEntry o lo old.caches c.caches) (sym seen_is) (subst (λ (c : Cached). TakesEntry o lo c.caches new.caches) same takes)
