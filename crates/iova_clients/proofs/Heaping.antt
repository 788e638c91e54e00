-- The first so many of some cells, as a heap.
use Rattle.std.proofs.Common.{◌≡◌, inl, inr, ℕ, zero, suc, ◌+◌, ◌-◌, ◌/◌, ◌<◌, ◌≤◌, List, [], ◌++◌, length, take, drop, refl, subst, sym, ap, arith, ◌∙◌}
use Rattle.std.proofs.lemmas.Bool.{cases_eq}
use Rattle.std.proofs.lemmas.List.{append-nil, drop_at, drop_all, take_all, get_or-take, get_or_append_left, length-take-le, length-append, length-drop, take_at}
use Rattle.std.specs.List.Sorted.{IsPermutation}
use Rattle.iova_range.specs.Frames.{Frames}
use Rattle.iova_clients.specs.Chains.{range_at}
use Rattle.iova_clients.specs.Heaps.{IsBelow, IsHeapFrom}
use Rattle.iova_clients.specs.Orders.{ordered, BeginApart}
use Rattle.iova_clients.proofs.Linking.{by_either}
use Rattle.iova_clients.proofs.Sifting.{below_over}
use Rattle.iova_clients.proofs.Ordering.{permuted, ordered_same, apart_same}

-- what is written back through a whole slice
pub written_back : {X : Type 0} (n : ℕ) (xs ys : List X) → length ys ≡ n → take n (ys ++ drop (length ys) xs) ≡ ys
written_back n xs ys long = take_at ys (drop (length ys) xs) n long

pub record IsReordered (n : ℕ) (cells new : List Frames) : Type 0 where
  pub long : length new ≡ length cells
  pub apart : BeginApart (range_at new) n
  pub same : ordered new n ≡ ordered cells n

-- the first so many in another order, and the rest as they were
pub reordered : (cells zs : List Frames) (n : ℕ) → n ≤ length cells → BeginApart (range_at cells) n → IsPermutation (take n cells) zs → length zs ≡ n
    → IsReordered n cells (zs ++ drop n cells)
reordered cells zs n within apart perm long =
    let front : length (take n cells) ≡ n = length-take-le n cells within in
    let there : (k : ℕ) → k < n → range_at (take n cells) k ≡ range_at cells k = λ k lt. get_or-take n cells k (record { lo = 0; len = 0 }) lt in
    let here : (k : ℕ) → k < n → range_at (zs ++ drop n cells) k ≡ range_at zs k = λ k lt. get_or_append_left zs (drop n cells) (record { lo = 0; len = 0 }) k (omega (arith, lt, long)) in
    let before : BeginApart (range_at (take n cells)) (length (take n cells)) = subst (λ m. BeginApart (range_at (take n cells)) m) (sym front) (apart_same (range_at cells) (range_at (take n cells)) n there apart) in
    let p = permuted (take n cells) zs before perm in
    record {
      long = length-append zs (drop n cells) ∙ omega (arith, long, length-drop n cells, within);
      apart = apart_same (range_at zs) (range_at (zs ++ drop n cells)) n here (subst (λ m. BeginApart (range_at zs) m) long p.apart);
      same = ordered_same (range_at zs) (range_at (zs ++ drop n cells)) n here
          ∙ (ap (λ m. ordered zs m) (sym long) ∙ p.same ∙ ap (λ m. ordered (take n cells) m) front)
          ∙ ordered_same (range_at cells) (range_at (take n cells)) n there;
    }

-- a heap goes by the first so many alone
pub heap_same : (xs ys : List Frames) (from n : ℕ) → ((k : ℕ) → k < n → range_at ys k ≡ range_at xs k) → IsHeapFrom from n xs → IsHeapFrom from n ys
heap_same xs ys from n same h over place ge below lt =
    let up = below_over over place below in
    rw (same over (omega (arith, up, lt)), same place lt) (h over place ge below lt)

pub heap_front : (zs rest : List Frames) (from n : ℕ) → length zs ≡ n → IsHeapFrom from (length zs) zs → IsHeapFrom from n (zs ++ rest)
heap_front zs rest from n long h =
    heap_same zs (zs ++ rest) from n (λ k lt. get_or_append_left zs rest (record { lo = 0; len = 0 }) k (omega (arith, lt, long))) (subst (λ m. IsHeapFrom from m zs) long h)

pub heap_taken : (cells : List Frames) (from n : ℕ) → n ≤ length cells → IsHeapFrom from n cells → IsHeapFrom from (length (take n cells)) (take n cells)
heap_taken cells from n within h =
    let front : length (take n cells) ≡ n = length-take-le n cells within in
    subst (λ m. IsHeapFrom from m (take n cells)) (sym front)
    (heap_same cells (take n cells) from n (λ k lt. get_or-take n cells k (record { lo = 0; len = 0 }) lt) h)

pub heap_fewer : (cells : List Frames) (from n m : ℕ) → n ≤ m → IsHeapFrom from m cells → IsHeapFrom from n cells
heap_fewer cells from n m le h over place ge below lt = h over place ge below (omega (arith, le, lt))

-- the first is the lowest
pub heap_lowest : (cells : List Frames) (n : ℕ) → IsHeapFrom 0 n cells → (k : ℕ) → k < n → (range_at cells 0).lo ≤ (range_at cells k).lo
heap_lowest cells n h k lt = go (k + 1) k (omega arith) lt
  where
    go : (fuel k : ℕ) → k < fuel → k < n → (range_at cells 0).lo ≤ (range_at cells k).lo
    go zero k less in_heap = absurd (omega (arith, less))
    go (suc fuel) k less in_heap = by_either (cases_eq k 0) (λ is. rw is (omega arith))
        (λ ne. let over = (k - 1) / 2 in
        let below : IsBelow over k = by_either (cases_eq k (over + over + 1)) (λ is. inl is) (λ not. inr (omega (arith, not, ne))) in
        let up = below_over over k below in
        let more = go fuel over (omega (arith, up, less)) (omega (arith, up, in_heap)) in
        let step : (range_at cells over).lo ≤ (range_at cells k).lo = h over k (omega arith) below in_heap in
        omega (arith, more, step))

-- what stands behind a list, brought into another order
pub appended : (all list front zs : List Frames) (from len : ℕ) → length list ≡ from → all ≡ list ++ front → length zs ≡ length front → length all ≡ len
    → take len (take from all ++ (zs ++ drop (length zs) (drop from all)) ++ drop (length (take from all ++ (zs ++ drop (length zs) (drop from all)))) all) ≡ list ++ zs
appended all list front zs from len start is same long =
    let before : take from all ≡ list = ap (take from) is ∙ take_at list front from start in
    let behind : drop from all ≡ front = ap (drop from) is ∙ drop_at list front from start in
    let none : drop (length zs) (drop from all) ≡ [] = ap (drop (length zs)) behind ∙ drop_all (length zs) front (omega (arith, same)) in
    let inner : take from all ++ (zs ++ drop (length zs) (drop from all)) ≡ list ++ zs = rw (before, none, append-nil) refl in
    let whole : length (list ++ zs) ≡ len = length-append list zs ∙ (omega (arith, same) ∙ (sym (length-append list front) ∙ (ap length (sym is) ∙ long))) in
    rw inner (take_at (list ++ zs) (drop (length (list ++ zs)) all) len whole)

-- what is read of a slice behind a list
pub slice_behind : (all list front : List Frames) (from len : ℕ) → length list ≡ from → all ≡ list ++ front → length all ≡ len → take (len - from) (drop from all) ≡ front
slice_behind all list front from len start is long =
    let sum : length all ≡ length list + length front = ap length is ∙ length-append list front in
    let m : len - from ≡ length front = omega (arith, sum, long, start) in
    rw (m, is, drop_at list front from start) (take_all (length front) front (omega arith))
