-- A growth that is refused is answered so, or the step is as it would be with memory.
use Rattle.std.proofs.Common.{ℕ, ◌≡◌, ◌⊎◌, ◌+◌, inl, inr, Bool, true, false, ◌&&◌, List, [], ◌∷◌, ◌++◌, take, Option, Some, None, refl, ap, subst, cond}
use Rattle.iova_range.specs.declared.limits.TheConstants.{SAC_LIMIT}
use Rattle.std.specs.Prelude.{nat_lt}
use Rattle.iova_range.specs.declared.refusal.Refusal.{Refusal}
use Rattle.iova_range.specs.declared.refusal.Refusal.TheVariants as refusal
use Rattle.iova_range.specs.Sizes.{need, order_of}
use Rattle.iova_model.specs.declared.step.Step.TheVariants as step
use Rattle.iova_model.specs.declared.step.Reply.TheVariants as reply
use Rattle.iova_model.specs.declared.step.Point.{Point}
use Rattle.iova_model.specs.declared.step.Point.TheVariants as point
use Rattle.iova_model.specs.Caches.{without_entries}
use Rattle.iova_model.specs.Clients.{Client, client_of}
use Rattle.iova_model.specs.State.{State}
use Rattle.iova_model.specs.Next.{Next, refuse_step, unless, Found, At, Nowhere, OutOfMemory, Tried, is_at, with_caches, from_cache, best_place, from_tree, or_emptied, or_tree, try, or_second, walk, give_from, ledger_tests, alloc_to, alloc_tests, from_to, reserve_tests, reserve_window, open_tests, with_new_client}
use Rattle.iova_model.specs.Laws.{PointsOnlyRefuse}

-- one choice between things that are alike
cond_alike : {A : Type 0} (R : A → A → Type 0) (b : Bool) (x x' y y' : A) → R x x' → R y y' → R (cond b x y) (cond b x' y')
cond_alike R true x x' y y' first second = first
cond_alike R false x x' y y' first second = second

-- A walk in which a growth is refused, beside the same walk in which none is.

-- the first of two tries ends for want of memory, or they are the same
abbrev IsAlike : Tried → Tried → Type 0
IsAlike t t' = (t.found ≡ OutOfMemory) ⊎ (t ≡ t')

-- the tree's growth may be refused
tree_alike : (s : State) (place : Option ℕ) (no_memory : Bool) → IsAlike (from_tree s place no_memory) (from_tree s place false)
tree_alike s None no_memory = inr refl
tree_alike s (Some lo) true = inl refl
tree_alike s (Some lo) false = inr refl

-- and once more with emptied caches
emptied_alike : (t t' : Tried) (size limit : ℕ) (emptying no_memory : Bool) → IsAlike t t' → IsAlike (or_emptied t.found t.state size limit emptying no_memory) (or_emptied t'.found t'.state size limit emptying false)
emptied_alike t t' size limit emptying no_memory (inl out) = inl (rw out refl)
emptied_alike t t' size limit emptying no_memory (inr same) =
    let P : Tried → Type 0 = λ x. IsAlike (or_emptied t.found t.state size limit emptying no_memory) (or_emptied x.found x.state size limit emptying false) in
    subst P same (alike t.found t.state emptying)
  where
    alike : (found : Found) (s : State) (e : Bool) → IsAlike (or_emptied found s size limit e no_memory) (or_emptied found s size limit e false)
    alike Nowhere s true = let u = with_caches s (without_entries s.caches) in tree_alike u (best_place u size limit) no_memory
    alike Nowhere s false = inr refl
    alike (At lo) s e = inr refl
    alike OutOfMemory s e = inr refl

-- what isn't cached is the tree's
or_tree_alike : (cached : Option ℕ) (s : State) (size limit : ℕ) (emptying : Bool) (here m : Point) → is_at here point.Never ≡ false
    → IsAlike (or_tree cached s size limit emptying here m) (or_tree cached s size limit emptying here point.Never)
or_tree_alike (Some lo) s size limit emptying here m other = inr refl
or_tree_alike None s size limit emptying here m other =
    let place = best_place s size limit in
    let t = from_tree s place (is_at here m) in
    let t' = from_tree s place false in
    rw other (emptied_alike t t' size limit emptying (is_at point.Last m) (tree_alike s place (is_at here m)))

-- one try
try_alike : (s : State) (w size limit : ℕ) (emptying : Bool) (here m : Point) → is_at here point.Never ≡ false
    → IsAlike (try s w size limit emptying here m) (try s w size limit emptying here point.Never)
try_alike s w size limit emptying here m other =
    let cached = from_cache s w size limit (order_of size) in or_tree_alike cached.0 cached.1 size limit emptying here m other

-- the second, where the first found nothing
second_alike : (t t' : Tried) (w size limit : ℕ) (m : Point) → IsAlike t t' → IsAlike (or_second t.found t.state w size limit m) (or_second t'.found t'.state w size limit point.Never)
second_alike t t' w size limit m (inl out) = inl (rw out refl)
second_alike t t' w size limit m (inr same) =
    let P : Tried → Type 0 = λ x. IsAlike (or_second t.found t.state w size limit m) (or_second x.found x.state w size limit point.Never) in
    subst P same (alike t.found t.state)
  where
    alike : (found : Found) (s : State) → IsAlike (or_second found s w size limit m) (or_second found s w size limit point.Never)
    alike Nowhere s = try_alike s w size limit true point.Second m refl
    alike (At lo) s = inr refl
    alike OutOfMemory s = inr refl

-- all of it
walk_alike : (s : State) (w : ℕ) (sac : Bool) (size limit : ℕ) (m : Point) → IsAlike (walk s w sac size limit m) (walk s w sac size limit point.Never)
walk_alike s w sac size limit m =
    let first = λ (p : Point). try s w size SAC_LIMIT false point.First p in
    let then = λ (p : Point). or_second (first p).found (first p).state w size limit p in
    let only = λ (p : Point). try s w size limit true point.Second p in
    cond_alike IsAlike (sac && nat_lt SAC_LIMIT limit) (then m) (then point.Never) (only m) (only point.Never)
    (second_alike (first m) (first point.Never) w size limit m (try_alike s w size SAC_LIMIT false point.First m refl))
    (try_alike s w size limit true point.Second m refl)

-- A step in which one is refused, beside the same step in which none is.

-- the first of two outcomes is that memory was wanting, or they are the same
abbrev OnlyRefuses : Next → Next → Type 0
OnlyRefuses n n' = (n.reply ≡ reply.Refused refusal.NoMemory) ⊎ (n ≡ n')

-- tests before two outcomes that are alike
unless_alike : (s : State) (tests : List (Bool × Refusal)) (n n' : Next) → OnlyRefuses n n' → OnlyRefuses (unless tests s n) (unless tests s n')
unless_alike s [] n n' alike = alike
unless_alike s ((b, r) ∷ tests) n n' alike =
    cond_alike OnlyRefuses b (refuse_step r s) (refuse_step r s) (unless tests s n) (unless tests s n') (inr refl) (unless_alike s tests n n' alike)

-- and a last test for memory in the first
unless_memory : (s : State) (tests : List (Bool × Refusal)) (no_memory : Bool) (n n' : Next) → OnlyRefuses n n' → OnlyRefuses (unless (tests ++ (no_memory, refusal.NoMemory) ∷ []) s n) (unless tests s n')
unless_memory s [] true n n' alike = inl refl
unless_memory s [] false n n' alike = alike
unless_memory s ((b, r) ∷ tests) no_memory n n' alike =
    let rest = unless (tests ++ (no_memory, refusal.NoMemory) ∷ []) s n in
    cond_alike OnlyRefuses b (refuse_step r s) (refuse_step r s) rest (unless tests s n') (inr refl) (unless_memory s tests no_memory n n' alike)

-- the result of a walk is answered
given_alike : (t t' : Tried) (id size : ℕ) → IsAlike t t' → OnlyRefuses (give_from t id size) (give_from t' id size)
given_alike t t' id size (inl out) = inl (rw out refl)
given_alike t t' id size (inr same) = inr (ap (λ x. give_from x id size) same)

-- the ledger's growth may be refused before it
alloc_to_alike : (client : Option Client) (s : State) (w id size limit : ℕ) (m : Point) → OnlyRefuses (alloc_to client s w id size limit m) (alloc_to client s w id size limit point.Never)
alloc_to_alike None s w id size limit m = inr refl
alloc_to_alike (Some c) s w id size limit m =
    let walked = λ (p : Point). walk s w c.sac size limit p in
    unless_memory s (take 2 (ledger_tests c m)) (is_at point.Ledger m) (give_from (walked m) id size) (give_from (walked point.Never) id size)
    (given_alike (walked m) (walked point.Never) id size (walk_alike s w c.sac size limit m))

-- the steps that take memory have their point after all other tests, and the others have none
pub points_only_refuse : PointsOnlyRefuse
points_only_refuse s (step.Reserve lo hi) m =
    let n = reserve_window s (from_to lo hi) in unless_memory s (take 3 (reserve_tests s lo hi m)) (is_at point.Once m) n n (inr refl)
points_only_refuse s (step.Open w sac) m =
    let n : Next = record { reply = reply.Opened (s.serial + 1); state = with_new_client s w sac } in
    unless_memory s (take 3 (open_tests s w m)) (is_at point.Once m) n n (inr refl)
points_only_refuse s (step.Alloc w id frames limit) m =
    let client = client_of w id s.clients in
    let taken = λ (p : Point). alloc_to client s w id (need frames) limit p in
    unless_alike s (alloc_tests s w frames) (taken m) (taken point.Never) (alloc_to_alike client s w id (need frames) limit m)
points_only_refuse s st m = inr refl
