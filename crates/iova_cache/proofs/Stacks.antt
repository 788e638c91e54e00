-- The magazines, as a range comes and goes.
use Rattle.std.proofs.Common.{◌≡◌, ◌+◌, ◌^◌, ◌<◌, ◌≤◌, ℕ, zero, suc, List, [], ◌∷◌, ◌++◌, length, get_or, set, replicate, subst, refl, sym, ap, ◌∙◌, arith, length-append}
use Rattle.std.specs.List.{AllByRecursion}
use Rattle.std.proofs.lemmas.List.{get_or_default, length-set}
use Rattle.std.specs.Prelude.{Result, Ok, Err, OnErr, ◌≢◌}
use Rattle.iova_cache.specs.declared.cache.Unmet.{Unmet}
use Rattle.iova_cache.specs.declared.cache.Unmet.TheVariants.{NoOrder, NoMemory, Miss, Empty}
use Rattle.iova_range.specs.Frames.{Frames}
use Rattle.iova_cache.specs.Magazines.{magazine_of, with_magazine, IsNewest, IsTaken, IsPut, Fits, Misses, AreSized, AreMagazines}

-- a range has so many frames
abbrev pub HasFrames : ℕ → Frames → Type 0
HasFrames n r = r.len ≡ n

sized_front : (n : ℕ) (xs : List Frames) (r : Frames) → AllByRecursion (HasFrames n) (xs ++ r ∷ []) → AllByRecursion (HasFrames n) xs
sized_front n [] r all = tt
sized_front n (x ∷ xs) r all = (all.0, sized_front n xs r all.1)

sized_last : (n : ℕ) (xs : List Frames) (r : Frames) → AllByRecursion (HasFrames n) (xs ++ r ∷ []) → r.len ≡ n
sized_last n [] r all = all.0
sized_last n (x ∷ xs) r all = sized_last n xs r all.1

sized_more : (n : ℕ) (xs : List Frames) (r : Frames) → AllByRecursion (HasFrames n) xs → r.len ≡ n → AllByRecursion (HasFrames n) (xs ++ r ∷ [])
sized_more n [] r all is = (is, tt)
sized_more n (x ∷ xs) r all is = (all.0, sized_more n xs r all.1 is)

sized_at : (o k : ℕ) (ms : List (List Frames)) (d : List Frames) → k < length ms → AreSized o ms → AllByRecursion (HasFrames (2 ^ (o + k))) (get_or ms k d)
sized_at o k [] d lt s = absurd (omega arith)
sized_at o zero (m ∷ ms) d lt s = let e : o + 0 ≡ o = omega arith in rw e s.0
sized_at o (suc k) (m ∷ ms) d lt s = let e : o + suc k ≡ (o + 1) + k = omega arith in rw e (sized_at (o + 1) k ms d (omega arith) s.1)

sized_set : (o k : ℕ) (ms : List (List Frames)) (m : List Frames) → AreSized o ms → AllByRecursion (HasFrames (2 ^ (o + k))) m → AreSized o (set ms k m)
sized_set o k [] m s all = tt
sized_set o zero (x ∷ ms) m s all = let e : o + 0 ≡ o = omega arith in (rw e at all, s.1)
sized_set o (suc k) (x ∷ ms) m s all = let e : o + suc k ≡ (o + 1) + k = omega arith in (s.0, sized_set (o + 1) k ms m s.1 (rw e at all))

magazine_at : (ms : List (List Frames)) (order : ℕ) (m : List Frames) → AreMagazines ms → order < 6 → m ≡ get_or ms order m → AllByRecursion (HasFrames (2 ^ order)) m
magazine_at ms order m a lt is =
    let e : 0 + order ≡ order = omega arith in
    rw is (subst (λ (n : ℕ). AllByRecursion (HasFrames (2 ^ n)) (get_or ms order m)) e (sized_at 0 order ms m (omega (arith, a.orders)) a.sized))

magazines_with : (ms : List (List Frames)) (order : ℕ) (m : List Frames) → AreMagazines ms → AllByRecursion (HasFrames (2 ^ order)) m → AreMagazines (set ms order m)
magazines_with ms order m a all = record {
  orders = length-set ms order m ∙ a.orders;
  sized = let e : order ≡ 0 + order = omega arith in sized_set 0 order ms m a.sized (subst (λ (n : ℕ). AllByRecursion (HasFrames (2 ^ n)) m) e all);
}

pub seen_at : (ms : List (List Frames)) (order : ℕ) (m : List Frames) → AreMagazines ms → order < 6 → m ≡ get_or ms order m → magazine_of ms order ≡ m
seen_at ms order m a lt is = get_or_default ms order [] m (omega (arith, a.orders)) ∙ sym is

-- Its newest range leaves a magazine.

pub magazines_taken : (ms : List (List Frames)) (order : ℕ) (m m' : List Frames) (r : Frames) → AreMagazines ms → order < 6 → m ≡ get_or ms order m → IsNewest r m
    → ((rest : List Frames) → (r : Frames) → m ≡ rest ++ r ∷ [] → m' ≡ rest) → AreMagazines (set ms order m')
magazines_taken ms order m m' r a lt is n left =
    let all = magazine_at ms order m a lt is in
    let now : m' ≡ n.rest = left n.rest r n.is in
    magazines_with ms order m' a (rw now (sized_front (2 ^ order) n.rest r (rw n.is at all)))

pub is_taken : (ms : List (List Frames)) (order : ℕ) (m m' : List Frames) (r : Frames) → AreMagazines ms → order < 6 → m ≡ get_or ms order m → IsNewest r m
    → ((rest : List Frames) → (r : Frames) → m ≡ rest ++ r ∷ [] → m' ≡ rest) → IsTaken ms (set ms order m') order r
is_taken ms order m m' r a lt is n left =
    let all = magazine_at ms order m a lt is in
    record {
      rest = n.rest;
      newest = seen_at ms order m a lt is ∙ n.is;
      left = ap (λ m. with_magazine ms order m) (left n.rest r n.is);
      size = sized_last (2 ^ order) n.rest r (rw n.is at all);
    }

-- A range comes into it.

pub magazines_put : (ms : List (List Frames)) (order : ℕ) (m m' : List Frames) (r : Frames) → AreMagazines ms → order < 6 → m ≡ get_or ms order m → m' ≡ m ++ r ∷ [] → r.len ≡ 2 ^ order → AreMagazines (set ms order m')
magazines_put ms order m m' r a lt is now size =
    magazines_with ms order m' a (rw now (sized_more (2 ^ order) m r (magazine_at ms order m a lt is) size))

pub is_put : (ms : List (List Frames)) (order : ℕ) (m m' : List Frames) (r : Frames) → AreMagazines ms → order < 6 → m ≡ get_or ms order m → m' ≡ m ++ r ∷ [] → IsPut ms (set ms order m') order r
is_put ms order m m' r a lt is now = ap (λ m. with_magazine ms order m) (now ∙ ap (λ m. m ++ r ∷ []) (sym (seen_at ms order m a lt is)))

-- New ones.
pub new_sized : (o n : ℕ) → AreSized o (replicate n [])
new_sized o zero = tt
new_sized o (suc n) = (tt, new_sized (o + 1) n)

-- Where the newest range fits, none is refused.

last_same : (xs ys : List Frames) (x y : Frames) → xs ++ x ∷ [] ≡ ys ++ y ∷ [] → x ≡ y
last_same [] [] x y is = cc
last_same [] (z ∷ ys) x y is = absurd (let long = ap length is in let more = length-append ys (y ∷ []) in omega (arith, long, more))
last_same (z ∷ xs) [] x y is = absurd (let long = ap length is in let more = length-append xs (x ∷ []) in omega (arith, long, more))
last_same (z ∷ xs) (u ∷ ys) x y is = last_same xs ys x y (let tail : xs ++ x ∷ [] ≡ ys ++ y ∷ [] = cc in tail)

pub same_newest : (m : List Frames) (x y : Frames) → IsNewest x m → IsNewest y m → x ≡ y
same_newest m x y a b = last_same a.rest b.rest x y (sym a.is ∙ b.is)

pub some_newest : (m : List Frames) (x : Frames) → IsNewest x m → m ≡ [] → ⊥
some_newest m x a none = let long = ap length (sym none ∙ a.is) in let more = length-append a.rest (x ∷ []) in omega (arith, long, more)

pub never_refused : (P : Type 0) (res : Result Frames Unmet) (ms now : List (List Frames)) (order last : ℕ) → Fits ms order last → now ≡ ms → (res ≢ Err NoOrder) × (res ≢ Err NoMemory)
    → (res ≡ Err Miss → Misses now order last) → (res ≡ Err Empty → magazine_of now order ≡ []) → OnErr res P
never_refused P (Ok r) ms now order last f same kind miss empty = tt
never_refused P (Err NoOrder) ms now order last f same kind miss empty = absurd (kind.0 refl)
never_refused P (Err NoMemory) ms now order last f same kind miss empty = absurd (kind.1 refl)
never_refused P (Err Miss) ms now order last f same kind miss empty =
    let m = rw same at miss refl in
    let both : f.range ≡ m.range = same_newest (magazine_of ms order) f.range m.range f.newest m.newest in
    let below = rw both at f.below in
    absurd (omega (arith, below, m.above))
never_refused P (Err Empty) ms now order last f same kind miss empty =
    let none = rw same at empty refl in absurd (some_newest (magazine_of ms order) f.range f.newest none)

pub newest_of : (m : List Frames) → 1 ≤ length m → (r : Frames) × IsNewest r m
newest_of [] some = absurd (omega arith)
newest_of (x ∷ []) some = (x, record { rest = []; is = refl })
newest_of (x ∷ (y ∷ ys)) some = let n = newest_of (y ∷ ys) (omega arith) in (n.0, record { rest = x ∷ n.1.rest; is = ap (λ l. x ∷ l) n.1.is })

pub not_none : (m : List Frames) (r : Frames) → IsNewest r m → 1 ≤ length m
not_none m r n = let long = ap length n.is in let more = length-append n.rest (r ∷ []) in omega (arith, long, more)

pub newest_size : (ms : List (List Frames)) (order : ℕ) (m : List Frames) (r : Frames) → AreMagazines ms → order < 6 → m ≡ get_or ms order m → IsNewest r m → r.len ≡ 2 ^ order
newest_size ms order m r a lt is n = sized_last (2 ^ order) n.rest r (rw n.is at (magazine_at ms order m a lt is))
