-- The entries of each hand in a longer history, and whose entries a history has.
use Rattle.std.proofs.Common.{◌≡◌, ℕ, ◌<◌, ◌≤◌, length, slice_get, Some, ◌==◌, true, false, List, [], ◌∷◌, ◌++◌, refl, ap, if◌then◌else◌, Bool, ◌∙◌, tests, arith, append-nil}
use Rattle.std.proofs.lemmas.Option.{slice_get_within}
use Rattle.iova_annals.specs.Histories.{marks, of_hand, entries_of, AreMarked}

same : (i : ℕ) → (i == i) ≡ true
same i = grind (arith, tests)

less_than : (i k : ℕ) → k < i → (k == i) ≡ false
less_than i k lt = grind (arith, tests)

module _ {E : Type 0} where
  pub of_marks : (i : ℕ) (more : List E) → of_hand i (marks i more) ≡ more
  of_marks i [] = refl
  of_marks i (x ∷ xs) = rw (same i) (ap (λ (ys : List E). x ∷ ys) (of_marks i xs))

  pub of_others : (k i : ℕ) (more : List E) → (i == k) ≡ false → of_hand k (marks i more) ≡ []
  of_others k i [] ne = refl
  of_others k i (x ∷ xs) ne = rw ne (of_others k i xs ne)

  put_append : (b : Bool) (x : E) (xs ys : List E) → (if b then x ∷ (xs ++ ys) else (xs ++ ys)) ≡ (if b then x ∷ xs else xs) ++ ys
  put_append true x xs ys = refl
  put_append false x xs ys = refl

  pub of_append : (k : ℕ) (log more : List (ℕ × E)) → of_hand k (log ++ more) ≡ of_hand k log ++ of_hand k more
  of_append k [] more = refl
  of_append k (e ∷ es) more = ap (λ (zs : List E). if e.0 == k then e.1 ∷ zs else zs) (of_append k es more) ∙ put_append (e.0 == k) e.1 (of_hand k es) (of_hand k more)

  pub of_own : (i : ℕ) (log : List (ℕ × E)) (more : List E) → of_hand i (log ++ marks i more) ≡ of_hand i log ++ more
  of_own i log more = cc (of_append i log (marks i more), of_marks i more)

  pub of_other : (k i : ℕ) (log : List (ℕ × E)) (more : List E) → (i == k) ≡ false → of_hand k (log ++ marks i more) ≡ of_hand k log
  of_other k i log more ne = cc (of_append k log (marks i more), of_others k i more ne, append-nil (of_hand k log))

  pub entries_append : (xs ys : List (ℕ × E)) → entries_of (xs ++ ys) ≡ entries_of xs ++ entries_of ys
  entries_append [] ys = refl
  entries_append (x ∷ xs) ys = ap (λ (zs : List E). x.1 ∷ zs) (entries_append xs ys)

  pub marked_append : (n i : ℕ) (log : List (ℕ × E)) (more : List E) → i < n → AreMarked n log → AreMarked n (log ++ marks i more)
  marked_append n i [] [] lt all = tt
  marked_append n i [] (x ∷ xs) lt all = (lt, marked_append n i [] xs lt tt)
  marked_append n i (e ∷ es) more lt all = (all.0, marked_append n i es more lt all.1)

  pub marked_more : (hands : List ℕ) (i d : ℕ) (log : List (ℕ × E)) (x : E) → slice_get hands i ≡ Some d → AreMarked (length hands) log → AreMarked (length hands) (log ++ (i, x) ∷ [])
  marked_more hands i d log x at all = marked_append (length hands) i log (x ∷ []) (slice_get_within hands i d at) all

  pub none_beyond : (n i : ℕ) (log : List (ℕ × E)) → AreMarked n log → n ≤ i → of_hand i log ≡ []
  none_beyond n i [] all le = refl
  none_beyond n i (e ∷ es) all le = rw (less_than i e.0 (let lt = all.0 in omega arith)) (none_beyond n i es all.1 le)
