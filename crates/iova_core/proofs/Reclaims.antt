-- What a tree has, and how ranges move between it, the caches and others.
use Rattle.std.proofs.Common.{ℕ, zero, suc, ◌≡◌, ◌+◌, ◌^◌, ◌<◌, ◌≤◌, ◌==◌, Bool, true, false, cond, List, [], ◌∷◌, length, take, Some, refl, ap, ◌∙◌, subst, arith, find, sum_by, inl, inr}
use Rattle.std.specs.Prelude.{IsSome, slice_index_or, ◌-◌}
use Rattle.std.proofs.lemmas.Bool.Decides.{nat_tests}
use Rattle.iova_range.specs.Frames.{Frames}
use Rattle.iova_range.specs.Sizes.{order_of}
use Rattle.iova_range.specs.Bounds.{Capacities, IsProfile}
use Rattle.iova_model.specs.Caches.{Caches, of_order, put_range, freed_by_put}
use Rattle.iova_model.specs.Effects.{cached_ranges}
use Rattle.iova_depot.specs.Cached.{Cached, IsCached}
use Rattle.iova_model.specs.Clients.{begins_at, remove_at}
use Rattle.iova_tree.specs.Space.{Space, IsSpace, RiseApart}
use Rattle.iova_core.specs.Reclaim.{HasAll, Frees, IsBacked, Exchanges}
use Rattle.iova_laws.proofs.Weights as weight
use Rattle.iova_laws.proofs.Weights.{cached-put_all, cached_weigh}
use Rattle.iova_laws.proofs.Kept.{magazine_takes}

-- one where two ranges are the same
abbrev pub same_as : Frames → Frames → ℕ
same_as r x = cond (x.lo == r.lo) (cond (x.len == r.len) 1 0) 0

-- A range that is among some that rise apart begins no lower than the first may.
same_from : (from until : ℕ) (r : Frames) (xs : List Frames) → RiseApart from xs until → 1 ≤ weight.ranges (same_as r) xs → from ≤ r.lo
same_from from until r [] rise some = absurd (omega arith)
same_from from until r (x ∷ xs) rise some = step (λ rest. same_from (x.lo + x.len) until r xs rise.2 rest) (x.lo == r.lo) refl
  where
    step : (1 ≤ weight.ranges (same_as r) xs → x.lo + x.len ≤ r.lo) → (b : Bool) → (x.lo == r.lo) ≡ b → from ≤ r.lo
    step more true is = let same : x.lo ≡ r.lo = grind (arith, nat_tests) in omega (arith, rise.0)
    step more false is =
        let rest : 1 ≤ weight.ranges (same_as r) xs = let h = rw is at some in omega (arith, h) in
        let later = more rest in omega (arith, rise.0)

-- and is the one that is found there
find_same : (from until : ℕ) (r : Frames) (xs : List Frames) → RiseApart from xs until → 1 ≤ weight.ranges (same_as r) xs → find (begins_at r.lo) xs ≡ Some r
find_same from until r [] rise some = absurd (omega arith)
find_same from until r (x ∷ xs) rise some = step (λ rest. find_same (x.lo + x.len) until r xs rise.2 rest) (x.lo == r.lo) (x.len == r.len) refl refl
  where
    step : (1 ≤ weight.ranges (same_as r) xs → find (begins_at r.lo) xs ≡ Some r) → (a b : Bool) → (x.lo == r.lo) ≡ a → (x.len == r.len) ≡ b → find (begins_at r.lo) (x ∷ xs) ≡ Some r
    step more true true is also =
        let lo : x.lo ≡ r.lo = grind (arith, nat_tests) in
        let len : x.len ≡ r.len = grind (arith, nat_tests) in
        let at : ℕ → ℕ → Frames = λ a b. record { lo = a; len = b } in
        let same : x ≡ r = ap (λ a. at a x.len) lo ∙ ap (λ b. at r.lo b) len in
        rw is (ap Some same)
    step more true false is also =
        let lo : x.lo ≡ r.lo = grind (arith, nat_tests) in
        let rest : 1 ≤ weight.ranges (same_as r) xs = let h = rw (is, also) at some in omega (arith, h) in
        absurd (let later = same_from (x.lo + x.len) until r xs rise.2 rest in omega (arith, rise.1))
    step more false b is also =
        let rest : 1 ≤ weight.ranges (same_as r) xs = let h = rw is at some in omega (arith, h) in
        rw is (more rest)

same_itself : (r : Frames) → same_as r r ≡ 1
same_itself r =
    let lo : (r.lo == r.lo) ≡ true = grind (arith, nat_tests) in
    let len : (r.len == r.len) ≡ true = grind (arith, nat_tests) in
    rw (lo, len) refl

-- a range that the tree has is found at its first frame
pub has_found : (tree : Space) (r : Frames) → IsSpace tree → HasAll tree (r ∷ []) → find (begins_at r.lo) tree.inserted ≡ Some r
has_found tree r space has =
    find_same tree.bounds.start (tree.bounds.last + 1) r tree.inserted space.inserted (omega (arith, has (same_as r), weight.ranges_are (same_as r) (r ∷ []), weight.ranges_are (same_as r) tree.inserted, same_itself r))

pub has_some : (tree : Space) (r : Frames) → IsSpace tree → HasAll tree (r ∷ []) → IsSome (find (begins_at r.lo) tree.inserted)
has_some tree r space has = rw (has_found tree r space has) refl

-- which is removed
pub frees_one : (old new : Space) (r : Frames) → IsSpace old → IsSpace new → HasAll old (r ∷ []) → new ≡ record old { inserted = remove_at r.lo old.inserted } → Frees old new (r ∷ [])
frees_one old new r space space' has is = record {
  space = space';
  bounds = ap (λ (t : Space). t.bounds) is;
  windows = ap (λ (t : Space). t.windows) is;
  balance = λ weigh.
      let e : sum_by weigh new.inserted ≡ sum_by weigh (remove_at r.lo old.inserted) = ap (λ (t : Space). sum_by weigh t.inserted) is in
      omega (arith, e, weight.ranges_are weigh (remove_at r.lo old.inserted), weight.ranges_are weigh (r ∷ []), weight.ranges_are weigh old.inserted, weight.ranges-remove weigh r.lo r old.inserted (has_found old r space has));
}

-- nothing is freed
pub frees_none : (tree : Space) → IsSpace tree → Frees tree tree []
frees_none tree space = record { space = space; bounds = refl; windows = refl; balance = λ weigh. omega (arith, weight.ranges_are weigh []) }

-- The first of some entries.

firsts_take : (weigh : Frames → ℕ) (o i : ℕ) (los : List ℕ) → i < length los → weight.firsts weigh o (take i los) + weigh (record { lo = slice_index_or los i 0; len = 2 ^ o }) ≡ weight.firsts weigh o (take (suc i) los)
firsts_take weigh o i [] lt = absurd (omega arith)
firsts_take weigh o zero (lo ∷ los) lt = omega arith
firsts_take weigh o (suc i) (lo ∷ los) lt = omega (arith, firsts_take weigh o i los (omega arith))

firsts_within : (weigh : Frames → ℕ) (o i : ℕ) (los : List ℕ) → weight.firsts weigh o (take i los) ≤ weight.firsts weigh o los
firsts_within weigh o zero los = omega arith
firsts_within weigh o (suc i) [] = omega arith
firsts_within weigh o (suc i) (lo ∷ los) = omega (arith, firsts_within weigh o i los)

order_weighs : (weigh : Frames → ℕ) (o : ℕ) (los : List ℕ) → sum_by weigh (of_order o los) ≡ weight.firsts weigh o los
order_weighs weigh o los = weight.ranges_are weigh (of_order o los) ∙ weight.ranges-of_order weigh o los

-- the tree has the next one
pub has_next : (old mid : Space) (o i : ℕ) (los : List ℕ) → i < length los → HasAll old (of_order o los) → Frees old mid (of_order o (take i los)) → HasAll mid (record { lo = slice_index_or los i 0; len = 2 ^ o } ∷ [])
has_next old mid o i los lt has freed weigh =
    let r : Frames = record { lo = slice_index_or los i 0; len = 2 ^ o } in
    omega (arith, has weigh, freed.balance weigh, order_weighs weigh o los, order_weighs weigh o (take i los), firsts_take weigh o i los lt, firsts_within weigh o (suc i) los, weight.ranges_are weigh (r ∷ []))

-- and where it is freed, so are one more
pub frees_next : (old mid new : Space) (o i : ℕ) (los : List ℕ) → i < length los → Frees old mid (of_order o (take i los)) → Frees mid new (record { lo = slice_index_or los i 0; len = 2 ^ o } ∷ []) → Frees old new (of_order o (take (i + 1) los))
frees_next old mid new o i los lt a b = record {
  space = b.space;
  bounds = b.bounds ∙ a.bounds;
  windows = b.windows ∙ a.windows;
  balance = λ weigh.
      let r : Frames = record { lo = slice_index_or los i 0; len = 2 ^ o } in
      let more : take (i + 1) los ≡ take (suc i) los = ap (λ n. take n los) (let e : i + 1 ≡ suc i = omega arith in e) in
      let firsts : weight.firsts weigh o (take (i + 1) los) ≡ weight.firsts weigh o (take (suc i) los) = ap (weight.firsts weigh o) more in
      omega (arith, a.balance weigh, b.balance weigh, order_weighs weigh o (take i los), order_weighs weigh o (take (i + 1) los), firsts, firsts_take weigh o i los lt, weight.ranges_are weigh (r ∷ []));
}

-- Puts.

-- what a put adds, and what becomes free
put_weighs : (weigh : Frames → ℕ) (c : Cached) (w : ℕ) (r : Frames) (freed : List Frames) → IsCached c → w < c.workers → freed ≡ freed_by_put c.profile c.caches w r (order_of r.len)
    → weight.cached weigh (put_range c.profile c.caches w r (order_of r.len)) + weight.ranges weigh freed ≡ weight.cached weigh c.caches + weigh r
put_weighs weigh c w r freed cached lt is =
    let out = freed_by_put c.profile c.caches w r (order_of r.len) in
    omega (arith, ap (weight.ranges weigh) is, weight.ranges-append weigh out [], cached-put_all weigh c.profile c.workers c.caches w (r ∷ []) (magazine_takes c.profile cached.profile) cached.caches lt)

pub cached_sum : (weigh : Frames → ℕ) (c : Caches) → sum_by weigh (cached_ranges c) ≡ weight.cached weigh c
cached_sum weigh c = weight.ranges_are weigh (cached_ranges c) ∙ cached_weigh weigh c

-- the tree has what a put sends out
pub has_sent : (tree : Space) (c : Cached) (w : ℕ) (r : Frames) (freed : List Frames) → IsBacked tree c (r ∷ []) → w < c.workers → freed ≡ freed_by_put c.profile c.caches w r (order_of r.len) → HasAll tree freed
has_sent tree c w r freed backed lt is weigh =
    omega (arith, backed.has weigh, put_weighs weigh c w r freed backed.cached lt is, cached_sum weigh c.caches, weight.ranges_are weigh (r ∷ []), weight.ranges_are weigh freed)

pub exchanges_put : (tree tree' : Space) (c c' : Cached) (w : ℕ) (r : Frames) (freed : List Frames) → IsBacked tree c (r ∷ []) → w < c.workers → freed ≡ freed_by_put c.profile c.caches w r (order_of r.len)
    → c' ≡ record c { caches = put_range c.profile c.caches w r (order_of r.len) } → IsCached c' → Frees tree tree' freed → Exchanges tree tree' c c' [] (r ∷ [])
exchanges_put tree tree' c c' w r freed backed lt is now cached freeing = record {
  space = freeing.space;
  cached = cached;
  bounds = freeing.bounds;
  windows = freeing.windows;
  profile = ap (λ (x : Cached). x.profile) now;
  workers = ap (λ (x : Cached). x.workers) now;
  balance = λ weigh.
      let new = put_range c.profile c.caches w r (order_of r.len) in
      let e : sum_by weigh (cached_ranges c'.caches) ≡ sum_by weigh (cached_ranges new) = ap (λ (x : Cached). sum_by weigh (cached_ranges x.caches)) now in
      omega (arith, freeing.balance weigh, put_weighs weigh c w r freed backed.cached lt is, e, cached_sum weigh c.caches, cached_sum weigh new, weight.ranges_are weigh (r ∷ []), weight.ranges_are weigh freed, weight.ranges_are weigh []);
}

-- Ranges of the tree lie low.

pub profile_low : (p : Capacities) → IsProfile p → p.top ≤ 2 ^ 40 - 1
profile_low p (inl e) = let top : p.top ≡ 2 ^ 36 - 1 = ap (λ (x : Capacities). x.top) e in omega arith
profile_low p (inr e) = let top : p.top ≡ 2 ^ 40 - 1 = ap (λ (x : Capacities). x.top) e.1 in omega arith

-- what is found lies within
pub record Within (from until : ℕ) (r : Frames) : Type 0 where
  pub start : from ≤ r.lo
  pub some : 1 ≤ r.len
  pub end : r.lo + r.len ≤ until

rise_end : (from until : ℕ) (xs : List Frames) → RiseApart from xs until → from ≤ until
rise_end from until [] rise = rise
rise_end from until (x ∷ xs) rise = let later = rise_end (x.lo + x.len) until xs rise.2 in omega (arith, rise.0)

found_within : (from until lo : ℕ) (xs : List Frames) (r : Frames) → RiseApart from xs until → find (begins_at lo) xs ≡ Some r → Within from until r
found_within from until lo [] r rise found = absurd cc
found_within from until lo (x ∷ xs) r rise found =
    step (λ h. let w = found_within (x.lo + x.len) until lo xs r rise.2 h in record { start = omega (arith, rise.0, w.start); some = w.some; end = w.end }) (x.lo == lo) refl
  where
    step : (find (begins_at lo) xs ≡ Some r → Within from until r) → (b : Bool) → (x.lo == lo) ≡ b → Within from until r
    step more true is =
        let h : Some x ≡ Some r = rw is at found in
        let same : x ≡ r = cc (h) in
        subst (Within from until) same (record { start = rise.0; some = rise.1; end = rise_end (x.lo + x.len) until xs rise.2 })
    step more false is = more (rw is at found)

-- a range of the tree lies inside the bounds, and low
pub has_inside : (tree : Space) (r : Frames) → IsSpace tree → HasAll tree (r ∷ []) → Within tree.bounds.start (tree.bounds.last + 1) r
has_inside tree r space has = found_within tree.bounds.start (tree.bounds.last + 1) r.lo tree.inserted r space.inserted (has_found tree r space has)

pub has_low : (tree : Space) (r : Frames) → IsSpace tree → HasAll tree (r ∷ []) → r.lo + r.len ≤ 2 ^ 40
has_low tree r space has =
    let inside = has_inside tree r space has in
    omega (arith, inside.end, space.bounds.bounds.below_top, profile_low tree.bounds.profile space.bounds.profile)

-- What the others have, the tree has.

pub backed_has : (tree : Space) (c : Cached) (rs : List Frames) → IsBacked tree c rs → HasAll tree rs
backed_has tree c rs backed weigh = omega (arith, backed.has weigh)

pub backed_first : (tree : Space) (c : Cached) (r : Frames) (rs : List Frames) → IsBacked tree c (r ∷ rs) → IsBacked tree c (r ∷ [])
backed_first tree c r rs backed = record {
  space = backed.space;
  cached = backed.cached;
  has = λ weigh. omega (arith, backed.has weigh, weight.ranges_are weigh (r ∷ rs), weight.ranges_are weigh rs, weight.ranges_are weigh (r ∷ []));
}
