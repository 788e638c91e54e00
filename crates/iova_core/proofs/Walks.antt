-- The walk of a request: one try or two.
use Rattle.std.proofs.Common.{ℕ, ◌≡◌, ◌≢◌, inl, inr, Bool, true, false, ◌&&◌, [], Option, Some, None, refl, sym, ap, ◌∙◌, arith}
use Rattle.iova_range.specs.declared.limits.TheConstants.{SAC_LIMIT}
use Rattle.std.specs.Prelude.{nat_lt}
use Rattle.iova_model.specs.declared.step.Point.{Point}
use Rattle.iova_model.specs.declared.step.Point.TheVariants as point
use Rattle.iova_model.specs.Caches.{Caches, without_entries}
use Rattle.iova_model.specs.State.{State}
use Rattle.iova_model.specs.Next as next
use Rattle.iova_range.specs.Sizes.{order_of}
use Rattle.iova_tree.specs.Space.{Space}
use Rattle.iova_depot.specs.Cached.{Cached}
use Rattle.iova_core.specs.declared.walk.Walked.{Walked}
use Rattle.iova_core.specs.declared.walk.Walked.TheVariants as found
use Rattle.iova_core.specs.Reclaim.{Exchanges}
use Rattle.iova_core.specs.Walk.{ArePartsOf, Comes, point_of, IsPointFrom}
use Rattle.iova_core.proofs.Reclaims.{cached_sum}
use Rattle.iova_core.proofs.Tries.{as_nowhere, stands_with}
use Rattle.iova_laws.proofs.Weights as weight

-- A try changes caches alone.

cache_keeps : (s : State) (w size limit : ℕ) (o : Option ℕ) → (next.from_cache s w size limit o).1 ≡ next.with_caches s (next.from_cache s w size limit o).1.caches
cache_keeps s w size limit None = refl
cache_keeps s w size limit (Some o) = refl

tree_keeps : (s : State) (o : Option ℕ) (no_memory : Bool) → (next.from_tree s o no_memory).state ≡ next.with_caches s (next.from_tree s o no_memory).state.caches
tree_keeps s None no_memory = refl
tree_keeps s (Some lo) no_memory = refl

emptied_keeps : (x : next.Found) (s : State) (size limit : ℕ) (emptying no_memory : Bool) → (next.or_emptied x s size limit emptying no_memory).state ≡ next.with_caches s (next.or_emptied x s size limit emptying no_memory).state.caches
emptied_keeps next.Nowhere s size limit true no_memory =
    let bare = next.with_caches s (without_entries s.caches) in
    tree_keeps bare (next.best_place bare size limit) no_memory
emptied_keeps next.Nowhere s size limit false no_memory = refl
emptied_keeps (next.At lo) s size limit emptying no_memory = refl
emptied_keeps next.OutOfMemory s size limit emptying no_memory = refl

tree_same : (s : State) (o : Option ℕ) (no_memory : Bool) → (next.from_tree s o no_memory).state ≡ s
tree_same s None no_memory = refl
tree_same s (Some lo) no_memory = refl

or_tree_keeps : (got : Option ℕ) (s : State) (size limit : ℕ) (emptying : Bool) (here m : Point) → (next.or_tree got s size limit emptying here m).state ≡ next.with_caches s (next.or_tree got s size limit emptying here m).state.caches
or_tree_keeps (Some lo) s size limit emptying here m = refl
or_tree_keeps None s size limit emptying here m =
    let t = next.from_tree s (next.best_place s size limit) (next.is_at here m) in
    let e = emptied_keeps t.found t.state size limit emptying (next.is_at point.Last m) in
    e ∙ ap (λ x. next.with_caches x (next.or_emptied t.found t.state size limit emptying (next.is_at point.Last m)).state.caches) (tree_same s (next.best_place s size limit) (next.is_at here m))

pub try_keeps : (s : State) (w size limit : ℕ) (emptying : Bool) (here m : Point) → (next.try s w size limit emptying here m).state ≡ next.with_caches s (next.try s w size limit emptying here m).state.caches
try_keeps s w size limit emptying here m =
    let c = next.from_cache s w size limit (order_of size) in
    let e = or_tree_keeps c.0 c.1 size limit emptying here m in
    e ∙ ap (λ x. next.with_caches x (next.or_tree c.0 c.1 size limit emptying here m).state.caches) (cache_keeps s w size limit (order_of size))

-- A try that empties nothing asks for memory once.

emptied_never : (x : next.Found) (s : State) (size limit : ℕ) (a b : Bool) → next.or_emptied x s size limit false a ≡ next.or_emptied x s size limit false b
emptied_never next.Nowhere s size limit a b = refl
emptied_never (next.At lo) s size limit a b = refl
emptied_never next.OutOfMemory s size limit a b = refl

or_tree_point : (got : Option ℕ) (s : State) (size limit : ℕ) (here m n : Point) → next.is_at here m ≡ next.is_at here n → next.or_tree got s size limit false here m ≡ next.or_tree got s size limit false here n
or_tree_point (Some lo) s size limit here m n same = refl
or_tree_point None s size limit here m n same =
    let o = next.best_place s size limit in
    let t = next.from_tree s o (next.is_at here n) in
    ap (λ b. next.or_emptied (next.from_tree s o b).found (next.from_tree s o b).state size limit false (next.is_at point.Last m)) same
    ∙ emptied_never t.found t.state size limit (next.is_at point.Last m) (next.is_at point.Last n)

-- The second try comes where the first found nothing.

second_not : (x : next.Found) (s : State) (w size limit : ℕ) (m : Point) → (x ≡ next.Nowhere → ⊥) → next.or_second x s w size limit m ≡ record { found = x; state = s }
second_not next.Nowhere s w size limit m h = absurd (h refl)
second_not (next.At lo) s w size limit m h = refl
second_not next.OutOfMemory s w size limit m h = refl

never_first : (m : Point) → IsPointFrom point.Second m → next.is_at point.First m ≡ next.is_at point.First point.Never
never_first m (inl e) = rw e refl
never_first m (inr (inl e)) = rw e refl
never_first m (inr (inr e)) = rw e refl

pub not_ledger : (here m : Point) → here ≢ point.Ledger → IsPointFrom here m → m ≢ point.Ledger
not_ledger here m other (inl e) = λ x. absurd (let h : point.Never ≡ point.Ledger = sym e ∙ x in cc)
not_ledger here m other (inr (inl e)) = λ x. other (sym e ∙ x)
not_ledger here m other (inr (inr e)) = λ x. absurd (let h : point.Last ≡ point.Ledger = sym e ∙ x in cc)

-- What stands after an exchange that gave nothing.
pub stands_exchanged : (tree tree' : Space) (c c' : Cached) (s : State) → ArePartsOf tree c.caches s → Exchanges tree tree' c c' [] [] → ArePartsOf tree' c'.caches (next.with_caches s c'.caches)
stands_exchanged tree tree' c c' s stands ex =
    stands_with tree tree' c.caches c'.caches s stands ex.bounds ex.windows (λ weigh. omega (arith, ex.balance weigh, cached_sum weigh c.caches, cached_sum weigh c'.caches, weight.ranges_are weigh []))

module _ (s : State) (w : ℕ) (sac : Bool) (size limit : ℕ) where
  -- one try
  pub comes_plain : (f : Walked) (left : Caches) → (sac && nat_lt SAC_LIMIT limit) ≡ false → Comes (next.try s w size limit true point.Second (point_of f)) f left → Comes (next.walk s w sac size limit (point_of f)) f left
  comes_plain f left plain h = rw plain h

  -- the first of two gave an answer
  pub comes_first : (f : Walked) (left : Caches) → (sac && nat_lt SAC_LIMIT limit) ≡ true → (f ≡ found.Nowhere → ⊥) → Comes (next.try s w size SAC_LIMIT false point.First (point_of f)) f left → Comes (next.walk s w sac size limit (point_of f)) f left
  comes_first f left low answered h =
      let t = next.try s w size SAC_LIMIT false point.First (point_of f) in
      let e = second_not t.found t.state w size limit (point_of f) (λ x. answered (as_nowhere f (sym h.found ∙ x))) in
      rw low (record { found = ap (λ (x : next.Tried). x.found) e ∙ h.found; left = ap (λ (x : next.Tried). x.state.caches) e ∙ h.left })

  -- it gave none
  pub comes_second : (f : Walked) (mid left : Caches) → (sac && nat_lt SAC_LIMIT limit) ≡ true → IsPointFrom point.Second (point_of f) → Comes (next.try s w size SAC_LIMIT false point.First point.Never) found.Nowhere mid
      → Comes (next.try (next.with_caches s mid) w size limit true point.Second (point_of f)) f left → Comes (next.walk s w sac size limit (point_of f)) f left
  comes_second f mid left low own first h =
      let m = point_of f in
      let g = next.from_cache s w size SAC_LIMIT (order_of size) in
      let t = next.try s w size SAC_LIMIT false point.First m in
      let u = next.try s w size SAC_LIMIT false point.First point.Never in
      let same : t ≡ u = or_tree_point g.0 g.1 size SAC_LIMIT point.First m point.Never (never_first m own) in
      let state : u.state ≡ next.with_caches s mid = try_keeps s w size SAC_LIMIT false point.First point.Never ∙ ap (λ x. next.with_caches s x) first.left in
      let e : next.or_second t.found t.state w size limit m ≡ next.try (next.with_caches s mid) w size limit true point.Second m =
      ap (λ (x : next.Tried). next.or_second x.found x.state w size limit m) same
      ∙ (ap (λ x. next.or_second x u.state w size limit m) first.found ∙ ap (λ x. next.try x w size limit true point.Second m) state) in
      rw low (record { found = ap (λ (x : next.Tried). x.found) e ∙ h.found; left = ap (λ (x : next.Tried). x.state.caches) e ∙ h.left })
