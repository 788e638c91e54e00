-- What holds of each element of a list still holds after a change to it.
use Rattle.std.proofs.Common.{ℕ, zero, suc, ◌≡◌, ◌<◌, Bool, true, false, Some, List, [], ◌∷◌, ◌++◌, length, take, map, replicate, find, refl, subst, arith}
use Rattle.std.specs.Prelude.{slice_index_or, slice_set}
use Rattle.std.specs.List.{AllByRecursion}

module _ {X : Type 0} (P : X → Type 0) where
  -- of the element at a place
  pub all-at : (xs : List X) (i : ℕ) (d : X) → i < length xs → AllByRecursion P xs → P (slice_index_or xs i d)
  all-at [] i d lt all = absurd (omega arith)
  all-at (x ∷ xs) zero d lt all = all.0
  all-at (x ∷ xs) (suc i) d lt all = all-at xs i d (omega arith) all.1

  -- with another element at a place
  pub all-set : (xs : List X) (i : ℕ) (new : X) → P new → AllByRecursion P xs → AllByRecursion P (slice_set xs i new)
  all-set [] i new here all = tt
  all-set (x ∷ xs) zero new here all = (here, all.1)
  all-set (x ∷ xs) (suc i) new here all = (all.0, all-set xs i new here all.1)

  -- with one more at the end
  pub all-push : (xs : List X) (new : X) → P new → AllByRecursion P xs → AllByRecursion P (xs ++ new ∷ [])
  all-push [] new here all = (here, tt)
  all-push (x ∷ xs) new here all = (all.0, all-push xs new here all.1)

  -- of the first n
  pub all-take : (n : ℕ) (xs : List X) → AllByRecursion P xs → AllByRecursion P (take n xs)
  all-take zero xs all = tt
  all-take (suc n) [] all = tt
  all-take (suc n) (x ∷ xs) all = (all.0, all-take n xs all.1)

  -- of n copies
  pub all-replicate : (n : ℕ) (x : X) → P x → AllByRecursion P (replicate n x)
  all-replicate zero x here = tt
  all-replicate (suc n) x here = (here, all-replicate n x here)

  -- of what a function gives
  pub all-map : {Y : Type 0} (f : Y → X) (ys : List Y) → ((y : Y) → P (f y)) → AllByRecursion P (map f ys)
  all-map f [] each = tt
  all-map f (y ∷ ys) each = (each y, all-map f ys each)

  -- something weaker of each
  pub all-weaker : (Q : X → Type 0) (xs : List X) → ((x : X) → P x → Q x) → AllByRecursion P xs → AllByRecursion Q xs
  all-weaker Q [] weaker all = tt
  all-weaker Q (x ∷ xs) weaker all = (weaker x all.0, all-weaker Q xs weaker all.1)

  -- what holds of all holds of the one that is found
  pub all_found : (test : X → Bool) (xs : List X) (x : X) → find test xs ≡ Some x → AllByRecursion P xs → P x
  all_found test [] x found all = absurd cc
  all_found test (y ∷ ys) x found all = found_step (λ e. all_found test ys x e all.1) (test y) refl
    where
      found_step : (find test ys ≡ Some x → P x) → (b : Bool) → test y ≡ b → P x
      found_step more true is =
          let found' = rw is at found in
          let same : y ≡ x = cc (found') in
          subst P same all.0
      found_step more false is = more (rw is at found)
