-- Ranges that rise by first frames still rise after a change.
use Rattle.std.proofs.Common.{ℕ, ◌≡◌, ◌+◌, ◌≤◌, Bool, true, false, cond, List, [], ◌∷◌, length, refl, ap, subst, arith, filter}
use Rattle.std.specs.Prelude.{nat_lt}
use Rattle.std.specs.List.{AllByRecursion}
use Rattle.std.proofs.lemmas.Bool.Decides.{nat_tests}
use Rattle.std.proofs.lemmas.Bool.{ltb-true, ltb-false, eqb-true}
use Rattle.iova_range.specs.Frames.{Frames, covers}
use Rattle.iova_range.specs.Bounds.{Extent}
use Rattle.iova_model.specs.Clients.{insert_rising, begins_at, remove_at}
use Rattle.iova_model.specs.Valid.{is_inside, Rises}
use Rattle.iova_laws.proofs.Weight as weight
use Rattle.iova_laws.proofs.PlaceOnce.{has, lacks, none_lacks}

-- one where the range begins there
abbrev pub begins : ℕ → Frames → ℕ
begins lo r = cond (begins_at lo r) 1 0

-- a range inside has the frame that it begins with
has_first : (b : Extent) (r : Frames) → is_inside b r ≡ true → has r.lo r ≡ 1
has_first b r inside = let here : covers r.lo r ≡ true = grind (arith, nat_tests) in ap (λ x. cond x 1 0) here

-- a range inside that begins at a frame has that frame
begins_le : (b : Extent) (lo : ℕ) (r : Frames) → begins lo r ≤ has lo r + lacks (is_inside b) r
begins_le b lo r = begins_step (begins_at lo r) refl (is_inside b r) refl
  where
    begins_step : (x : Bool) → begins_at lo r ≡ x → (y : Bool) → is_inside b r ≡ y → begins lo r ≤ has lo r + lacks (is_inside b) r
    begins_step false x y e = rw x (omega arith)
    begins_step true x false e =
        let one : lacks (is_inside b) r ≡ 1 = ap (λ c. cond c 0 1) e in
        rw x (omega (arith, one))
    begins_step true x true e =
        let same : r.lo ≡ lo = eqb-true _ _ x in
        let one : has lo r ≡ 1 = subst (λ k. has k r ≡ 1) same (has_first b r e) in
        rw x (omega (arith, one))

-- where none of the ranges has the frame, and all are inside, none begins there
none_begins : (b : Extent) (lo : ℕ) (rs : List Frames) → weight.ranges (has lo) rs ≡ 0 → weight.ranges (lacks (is_inside b)) rs ≡ 0 → weight.ranges (begins lo) rs ≡ 0
none_begins b lo [] x y = refl
none_begins b lo (r ∷ rs) x y = omega (arith, begins_le b lo r, none_begins b lo rs (omega arith) (omega arith))

-- first frames from one on are from a smaller one on
rises_from : (low high : ℕ) (rs : List Frames) → low ≤ high → Rises high rs → Rises low rs
rises_from low high [] le h = tt
rises_from low high (r ∷ rs) le h = (omega (arith, h.0), h.1)

-- a range goes between the others, where it begins where none of them does
pub rises-insert : (low : ℕ) (r : Frames) (rs : List Frames) → low ≤ r.lo → weight.ranges (begins r.lo) rs ≡ 0 → Rises low rs → Rises low (insert_rising r rs)
rises-insert low r [] le none h = (le, tt)
rises-insert low r (x ∷ xs) le none h =
    insert_step (λ above. rises-insert (x.lo + 1) r xs above (omega arith) h.1) (nat_lt r.lo x.lo) refl (begins_at r.lo x) refl
  where
    insert_step : (x.lo + 1 ≤ r.lo → Rises (x.lo + 1) (insert_rising r xs)) → (b : Bool) → nat_lt r.lo x.lo ≡ b → (c : Bool) → begins_at r.lo x ≡ c → Rises low (insert_rising r (x ∷ xs))
    insert_step more true is c e = let lt = ltb-true _ _ is in rw is (le, (omega arith, h.1))
    insert_step more false is true e =
        let one : begins r.lo x ≡ 1 = ap (λ t. cond t 1 0) e in absurd (omega arith)
    insert_step more false is false e =
        let ge = ltb-false _ _ is in
        let other : x.lo + 1 ≤ r.lo = grind (arith, nat_tests) in
        rw is (h.0, more other)

-- a range leaves
pub rises-remove : (low lo : ℕ) (rs : List Frames) → Rises low rs → Rises low (remove_at lo rs)
rises-remove low lo [] h = tt
rises-remove low lo (x ∷ xs) h = remove_step (rises-remove (x.lo + 1) lo xs h.1) (begins_at lo x) refl
  where
    remove_step : Rises (x.lo + 1) (remove_at lo xs) → (b : Bool) → begins_at lo x ≡ b → Rises low (remove_at lo (x ∷ xs))
    remove_step more true is = rw is (rises_from low (x.lo + 1) xs (omega (arith, h.0)) h.1)
    remove_step more false is = rw is (h.0, more)

-- some of them leave
pub rises-filter : (low : ℕ) (test : Frames → Bool) (rs : List Frames) → Rises low rs → Rises low (filter test rs)
rises-filter low test [] h = tt
rises-filter low test (x ∷ xs) h = filter_step (rises-filter (x.lo + 1) test xs h.1) (test x) refl
  where
    filter_step : Rises (x.lo + 1) (filter test xs) → (b : Bool) → test x ≡ b → Rises low (filter test (x ∷ xs))
    filter_step more true is = rw is (h.0, more)
    filter_step more false is =
        rw is (rises_from low (x.lo + 1) (filter test xs) (omega (arith, h.0)) more)

-- Lists with one range more or one less, by length and by element.

-- one more
pub length-insert : (r : Frames) (rs : List Frames) → length (insert_rising r rs) ≡ length rs + 1
length-insert r [] = refl
length-insert r (x ∷ xs) = insert_step (length-insert r xs) (nat_lt r.lo x.lo) refl
  where
    insert_step : length (insert_rising r xs) ≡ length xs + 1 → (b : Bool) → nat_lt r.lo x.lo ≡ b → length (insert_rising r (x ∷ xs)) ≡ length (x ∷ xs) + 1
    insert_step more true is = rw is (omega arith)
    insert_step more false is = rw is (omega arith)

-- no more
pub length_remove_le : (lo : ℕ) (rs : List Frames) → length (remove_at lo rs) ≤ length rs
length_remove_le lo [] = omega arith
length_remove_le lo (x ∷ xs) = remove_step (length_remove_le lo xs) (begins_at lo x) refl
  where
    remove_step : length (remove_at lo xs) ≤ length xs → (b : Bool) → begins_at lo x ≡ b → length (remove_at lo (x ∷ xs)) ≤ length (x ∷ xs)
    remove_step more true is = rw is (omega arith)
    remove_step more false is = rw is (omega arith)

module _ (P : Frames → Type 0) where
  -- what holds of all and of a new one
  pub all-insert : (r : Frames) (rs : List Frames) → P r → AllByRecursion P rs → AllByRecursion P (insert_rising r rs)
  all-insert r [] here all = (here, tt)
  all-insert r (x ∷ xs) here all = insert_step (all-insert r xs here all.1) (nat_lt r.lo x.lo) refl
    where
      insert_step : AllByRecursion P (insert_rising r xs) → (b : Bool) → nat_lt r.lo x.lo ≡ b → AllByRecursion P (insert_rising r (x ∷ xs))
      insert_step more true is = rw is (here, all)
      insert_step more false is = rw is (all.0, more)

  -- what holds of all holds of the others
  pub all-remove : (lo : ℕ) (rs : List Frames) → AllByRecursion P rs → AllByRecursion P (remove_at lo rs)
  all-remove lo [] all = tt
  all-remove lo (x ∷ xs) all = remove_step (all-remove lo xs all.1) (begins_at lo x) refl
    where
      remove_step : AllByRecursion P (remove_at lo xs) → (b : Bool) → begins_at lo x ≡ b → AllByRecursion P (remove_at lo (x ∷ xs))
      remove_step more true is = rw is all.1
      remove_step more false is = rw is (all.0, more)

-- a range that was put among others, where no frame is in two of them, begins where none of the others does
pub inserted_apart : (b : Extent) (r : Frames) (rs : List Frames) → weight.ranges (has r.lo) (insert_rising r rs) ≤ 1 → weight.ranges (lacks (is_inside b)) (insert_rising r rs) ≡ 0 → weight.ranges (begins r.lo) rs ≡ 0
inserted_apart b r rs once inside =
    let outside = lacks (is_inside b) in
    let all = weight.ranges-insert outside r rs in
    let one = has_first b r (none_lacks (is_inside b) r (omega arith)) in
    none_begins b r.lo rs (omega (arith, weight.ranges-insert (has r.lo) r rs)) (omega arith)
