-- The result of a request's walk: a cached range, a free one, or nothing, and what is left of the caches.
use Rattle.std.proofs.Common.{ℕ, ◌≡◌, ◌+◌, ◌-◌, ◌^◌, ◌<◌, ◌≤◌, ◌&&◌, ◌⊎◌, inl, inr, Bool, true, false, Option, Some, None, length, refl, ap, arith}
use Rattle.iova_range.specs.declared.limits.TheConstants.{SAC_LIMIT}
use Rattle.std.specs.Prelude.{nat_lt, nat_le, slice_index}
use Rattle.std.proofs.lemmas.Bool.{cond_both, and_parts, leb-true, ltb-true}
use Rattle.iova_model.specs.declared.step.Point.{Point}
use Rattle.iova_model.specs.declared.step.Point.TheVariants as point
use Rattle.iova_range.specs.Frames.{Frames}
use Rattle.iova_range.specs.Sizes.{order_of}
use Rattle.iova_model.specs.Fit.{fits}
use Rattle.iova_model.specs.Caches.{Caches, Shelf, shelf_at, with_shelf, reload, fitting, pop_entry, get, without_entries}
use Rattle.iova_model.specs.State.{State, held_ranges}
use Rattle.iova_model.specs.Valid.{AreCaches}
use Rattle.iova_model.specs.Next.{Found, At, Nowhere, OutOfMemory, Tried, with_caches, is_at, best_place, from_cache, from_tree, or_emptied, or_tree, try, or_second, walk}
use Rattle.iova_model.proofs.Placing.{greatest_some}
use Rattle.iova_laws.proofs.Weight as weight
use Rattle.iova_laws.proofs.WeightCaches.{cached_with, Pops, get_pops, cached-emptied}
use Rattle.iova_laws.proofs.ValidCaches.{order_is, IsShelf, has_shelf, shelf_valid, with_shelf_valid, get_valid, emptied_valid}

-- as much is cached, by each weight
abbrev pub Same : Caches → Caches → Type 0
Same c d = (weigh : Frames → ℕ) → weight.cached weigh d ≡ weight.cached weigh c

-- the range has left the caches
abbrev pub Left : Frames → Caches → Caches → Type 0
Left r c d = (weigh : Frames → ℕ) → weight.cached weigh d + weigh r ≡ weight.cached weigh c

-- nothing is cached
abbrev pub NoneCached : Caches → Type 0
NoneCached d = (weigh : Frames → ℕ) → weight.cached weigh d ≡ 0

-- the caches have what they had, or they may be emptied and are
abbrev pub MayEmpty : Bool → Caches → Caches → Type 0
MayEmpty true c d = Same c d ⊎ NoneCached d
MayEmpty false c d = Same c d

-- the range was cached, and its last frame isn't above the limit
pub record WasCached (s : State) (c : Caches) (size limit lo : ℕ) : Type 0 where
  pub left : Left (record { lo = lo; len = size }) s.caches c
  pub within : lo + size ≤ limit + 1

-- the place fits among all that somebody has with these caches, under this limit or a lower one
pub record IsFree (s : State) (c : Caches) (size limit lo : ℕ) : Type 0 where
  pub used : ℕ
  pub within : used ≤ limit
  pub fits : fits s.bounds (held_ranges (with_caches s c)) size used lo ≡ true

-- where nothing is found: if the caches may be emptied, nothing is cached and no place fits, and else they have what they had
abbrev pub Missed : State → Bool → ℕ → ℕ → Caches → Type 0
Missed s true size limit c = NoneCached c × (best_place (with_caches s c) size limit ≡ None)
Missed s false size limit c = Same s.caches c

-- what is found, and the caches that are left
abbrev pub WalkOutcome : State → Bool → ℕ → ℕ → Found → Caches → Type 0
WalkOutcome s emptying size limit (At lo) c = WasCached s c size limit lo ⊎ (MayEmpty emptying s.caches c × IsFree s c size limit lo)
WalkOutcome s emptying size limit Nowhere c = Missed s emptying size limit c
WalkOutcome s emptying size limit OutOfMemory c = MayEmpty emptying s.caches c

-- caches that have what they had will do either way
may_stay : (emptying : Bool) (c d : Caches) → Same c d → MayEmpty emptying c d
may_stay true c d same = inl same
may_stay false c d same = same

-- the caches have the shape of the state's
abbrev pub AreOwn : State → Caches → Type 0
AreOwn s c = AreCaches s.bounds.profile s.workers c

-- what holds of each outcome
abbrev pub OnEach : State → ℕ → ℕ → Bool → (Tried → Type 0) → Type 0
OnEach s size limit emptying P =
    (found : Found) (c : Caches) → AreOwn s c → WalkOutcome s emptying size limit found c → P (record { found = found; state = with_caches s c })

-- what a get gives isn't above the limit
got_within : (s : Shelf) (limit size lo : ℕ) → (get s limit size).0 ≡ Some lo → lo + size ≤ limit + 1
got_within s limit size lo is = popped_within (reload s) (fitting (reload s).loaded limit size) refl is
  where
    popped_within : (t : Shelf) (x : Option ℕ) → fitting t.loaded limit size ≡ x → (pop_entry t x).0 ≡ Some lo → lo + size ≤ limit + 1
    popped_within t None found is = absurd cc
    popped_within t (Some i) found is =
        let g = greatest_some (λ k. nat_le (slice_index t.loaded k + size - 1) limit) (length t.loaded) i found in
        let same : slice_index t.loaded i ≡ lo = cc (is) in
        omega (arith, leb-true (slice_index t.loaded i + size - 1) limit g.passes)

module _ (s : State) (w size : ℕ) (below : w < s.workers) where
  module _ (limit : ℕ) (P : Tried → Type 0) (each : OnEach s size limit true P) where
    -- the tree alone, with nothing cached
    tree_cases : (c : Caches) → AreOwn s c → NoneCached c → (x : Option ℕ) → best_place (with_caches s c) size limit ≡ x → (no_memory : Bool) → P (from_tree (with_caches s c) x no_memory)
    tree_cases c own none None is no_memory = each Nowhere c own (none, is)
    tree_cases c own none (Some lo) is true = each OutOfMemory c own (inr none)
    tree_cases c own none (Some lo) is false =
        let fit = greatest_some (fits s.bounds (held_ranges (with_caches s c)) size limit) _ lo is in
        each (At lo) c own (inr (inr none, record { used = limit; within = omega arith; fits = fit.passes }))

  -- what holds of each outcome holds of a try
  try_cases : (c : Caches) (limit : ℕ) (emptying : Bool) (here m : Point) (P : Tried → Type 0) → AreOwn s c → Same s.caches c → OnEach s size limit emptying P → P (try (with_caches s c) w size limit emptying here m)
  try_cases c limit emptying here m P own same each = cache_cases (order_of size) refl
    where
      -- nothing fits: once more with all caches emptied, where that may be
      last_cases : (no_memory : Bool) → (emptying : Bool) → OnEach s size limit emptying P → (c : Caches) → AreOwn s c → Same s.caches c → P (or_emptied Nowhere (with_caches s c) size limit emptying no_memory)
      last_cases no_memory true each c own same =
          let c' = without_entries c in
          tree_cases limit P each c' (emptied_valid s.bounds.profile s.workers c own) (λ weigh. cached-emptied weigh c) (best_place (with_caches s c') size limit) refl no_memory
      last_cases no_memory false each c own same = each Nowhere c own same

      -- the greatest place that fits, or none
      best_cases : (c : Caches) → AreOwn s c → Same s.caches c → (x : Option ℕ) → best_place (with_caches s c) size limit ≡ x → (no_memory last : Bool) → P (or_emptied (from_tree (with_caches s c) x no_memory).found (from_tree (with_caches s c) x no_memory).state size limit emptying last)
      best_cases c own same None is no_memory last = last_cases last emptying each c own same
      best_cases c own same (Some lo) is true last = each OutOfMemory c own (may_stay emptying s.caches c same)
      best_cases c own same (Some lo) is false last =
          let fit = greatest_some (fits s.bounds (held_ranges (with_caches s c)) size limit) _ lo is in
          each (At lo) c own (inr (may_stay emptying s.caches c same, record { used = limit; within = omega arith; fits = fit.passes }))

      -- the caches have nothing that fits
      miss_cases : (c : Caches) → AreOwn s c → Same s.caches c → P (or_tree None (with_caches s c) size limit emptying here m)
      miss_cases c own same =
          best_cases c own same (best_place (with_caches s c) size limit) refl (is_at here m) (is_at point.Last m)

      -- the shelf gave a range, or nothing
      got_cases : (o : ℕ) → order_of size ≡ Some o → (x : Option ℕ) (t : Shelf) → IsShelf s.bounds.profile t → ((weigh : Frames → ℕ) → Pops weigh o (shelf_at c w o) x t) → ((lo : ℕ) → x ≡ Some lo → lo + size ≤ limit + 1) → P (or_tree x (with_caches s (with_shelf c w o t)) size limit emptying here m)
      got_cases o is None t shelf pops within =
          let order = order_is size o is in
          let has = has_shelf s.bounds.profile s.workers c w o own below order.few in
          miss_cases (with_shelf c w o t) (with_shelf_valid s.bounds.profile s.workers c w o t own below order.few shelf) (λ weigh. omega (arith, pops weigh, cached_with weigh s.bounds.profile c w o t has, same weigh))
      got_cases o is (Some lo) t shelf pops within =
          let order = order_is size o is in
          let has = has_shelf s.bounds.profile s.workers c w o own below order.few in
          each (At lo) (with_shelf c w o t) (with_shelf_valid s.bounds.profile s.workers c w o t own below order.few shelf) (inl (record {
            left = λ weigh.
                let len : weigh (record { lo = lo; len = 2 ^ o }) ≡ weigh (record { lo = lo; len = size }) = ap (λ n. weigh (record { lo = lo; len = n })) order.power in
                omega (arith, pops weigh, cached_with weigh s.bounds.profile c w o t has, same weigh, len);
            within = within lo refl;
          }))

      -- the size has an order, or it isn't cached
      cache_cases : (x : Option ℕ) → order_of size ≡ x → P (let cached = from_cache (with_caches s c) w size limit x in or_tree cached.0 cached.1 size limit emptying here m)
      cache_cases None is = miss_cases c own same
      cache_cases (Some o) is =
          let order = order_is size o is in
          let sh = shelf_at c w o in
          got_cases o is (get sh limit size).0 (get sh limit size).1 (get_valid s.bounds.profile sh limit size (shelf_valid s.bounds.profile s.workers c w o own below order.few)) (λ weigh. get_pops weigh o sh limit size) (got_within sh limit size)

  -- what holds of each outcome holds of the walk
  pub walk_cases : (sac : Bool) (limit : ℕ) (m : Point) (P : Tried → Type 0) → AreOwn s s.caches → OnEach s size limit true P → P (walk s w sac size limit m)
  walk_cases sac limit m P own each =
      let t = try s w size SAC_LIMIT false point.First m in
      cond_both (sac && nat_lt SAC_LIMIT limit) (or_second t.found t.state w size limit m) (try s w size limit true point.Second m) P
      (λ e. try_cases s.caches SAC_LIMIT false point.First m (λ x. P (or_second x.found x.state w size limit m)) own (λ weigh. refl) (second_cases (ltb-true SAC_LIMIT limit (and_parts sac _ e).1)))
      (λ e. try_cases s.caches limit true point.Second m P own (λ weigh. refl) each)
    where
      second_cases : SAC_LIMIT < limit → OnEach s size SAC_LIMIT false (λ x. P (or_second x.found x.state w size limit m))
      second_cases lower (At lo) c own' (inl was) = each (At lo) c own' (inl (record { left = was.left; within = omega (arith, was.within) }))
      second_cases lower (At lo) c own' (inr free) =
          each (At lo) c own' (inr (inl free.0, record { used = free.1.used; within = omega (arith, free.1.within); fits = free.1.fits }))
      second_cases lower Nowhere c own' same = try_cases c limit true point.Second m P own' same each
      second_cases lower OutOfMemory c own' same = each OutOfMemory c own' (inl same)
