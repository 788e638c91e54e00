-- Bounds of the links from a place on.
use Rattle.std.proofs.Common.{ℕ, zero, suc, ◌≡◌, ◌+◌, ◌-◌, ◌<◌, ◌≤◌, ◌⊎◌, inl, inr, max, List, [], ◌∷◌, ◌++◌, length, drop, slice_index_or, refl, sym, ap, ◌∙◌, arith}
use Rattle.std.proofs.Math.Seq.{drop-cons}
use Rattle.iova_range.specs.declared.limits.TheConstants.{MAX_FRAMES}
use Rattle.iova_tree.specs.declared.branch.Link.{Link}
use Rattle.iova_tree.specs.declared.search.Hint.{Hint}
use Rattle.iova_tree.proofs.Places.{drop_front}
use Rattle.iova_tree.specs.Branches.{AreAllBelow, AreAtMost, AreHinted, KeepBounds}

pub drop_zero : {A : Type 0} (l : List A) → drop 0 l ≡ l
drop_zero [] = refl
drop_zero (x ∷ l) = refl

pub drop_none : {A : Type 0} (n : ℕ) → drop {A = A} n [] ≡ []
drop_none zero = refl
drop_none (suc n) = refl

pub drop_add : {A : Type 0} (k n : ℕ) (l : List A) → drop (k + n) l ≡ drop n (drop k l)
drop_add zero n l =
    let j : 0 + n ≡ n = omega arith in
    rw (j, drop_zero l) refl
drop_add (suc k) n [] = drop_none (suc k + n) ∙ sym (drop_none n)
drop_add (suc k) n (x ∷ l) =
    let j : suc k + n ≡ suc (k + n) = omega arith in
    rw j (drop_add k n l)

pub drop_past : {A : Type 0} (k : ℕ) (m b : List A) → length m ≡ k → drop (k + 1) (m ++ b) ≡ drop 1 b
drop_past k m b is = drop_add k 1 (m ++ b) ∙ ap (drop 1) (drop_front k m b is)

pub drop_two : {A : Type 0} (k : ℕ) (l : List A) → drop 1 (drop (k + 1) l) ≡ drop (k + 2) l
drop_two k l =
    let j : (k + 1) + 1 ≡ k + 2 = omega arith in
    sym (drop_add (k + 1) 1 l) ∙ rw j refl

-- what is behind a place is behind each later one
pub drop_later : {A : Type 0} (k n : ℕ) (a b : List A) → k ≤ n → drop k a ≡ drop k b → drop n a ≡ drop n b
drop_later k n a b le same =
    let j : n ≡ k + (n - k) = omega arith in
    rw j (drop_add k (n - k) a ∙ ap (drop (n - k)) same ∙ sym (drop_add k (n - k) b))

module _ {N : Type 0} where
  pub at_most_behind : (room n : ℕ) (l : List (Link N)) → AreAtMost room l → AreAtMost room (drop n l)
  at_most_behind room zero [] most = tt
  at_most_behind room zero (k ∷ l) most = most
  at_most_behind room (suc n) [] most = tt
  at_most_behind room (suc n) (k ∷ l) most = at_most_behind room n l most.1

  pub at_most_later : (room m n : ℕ) (l : List (Link N)) → m ≤ n → AreAtMost room (drop m l) → AreAtMost room (drop n l)
  at_most_later room zero n [] le most = at_most_behind room n [] tt
  at_most_later room zero n (k ∷ l) le most = at_most_behind room n (k ∷ l) most
  at_most_later room (suc m) zero l le most = absurd (omega arith)
  at_most_later room (suc m) (suc n) [] le most = tt
  at_most_later room (suc m) (suc n) (k ∷ l) le most = at_most_later room m n l (omega arith) most

  -- a greater bound is a bound
  pub at_most_more : (a b : ℕ) (l : List (Link N)) → a ≤ b → AreAtMost a l → AreAtMost b l
  at_most_more a b [] le most = tt
  at_most_more a b (k ∷ l) le most = (omega (arith, most.0), at_most_more a b l le most.1)

  pub all_below : (a size : ℕ) (l : List (Link N)) → a < size → AreAtMost a l → AreAllBelow size l
  all_below a size [] lt most = tt
  all_below a size (k ∷ l) lt most = (omega (arith, most.0), all_below a size l lt most.1)

  -- one link more
  pub at_most_step : (above at : ℕ) (l : List (Link N)) (d : Link N) → at < length l → AreAtMost above (drop (at + 1) l) → AreAtMost (max above (slice_index_or l at d).room) (drop at l)
  at_most_step above at l d lt most =
      let j : at + 1 ≡ suc at = omega arith in
      let rest = at_most_more above (max above (slice_index_or l at d).room) (drop (suc at) l) (omega arith) (rw j at most) in
      rw (drop-cons l at d lt) (omega arith, rest)

  pub none_behind : (n : ℕ) (l : List (Link N)) (room : ℕ) → n ≡ length l → AreAtMost room (drop n l)
  none_behind zero [] room is = tt
  none_behind zero (k ∷ l) room is = absurd (omega arith)
  none_behind (suc n) [] room is = tt
  none_behind (suc n) (k ∷ l) room is = none_behind n l room (omega arith)

  -- where a search begins
  pub start_hinted : (hint start : Hint) (l : List (Link N)) (size : ℕ) → size ≤ MAX_FRAMES → AreHinted hint l → start.above < size
      → (start ≡ hint) ⊎ ((start.at + 1 ≡ length l) × (start.above ≡ 0)) → AreAtMost start.above (drop (start.at + 1) l)
  start_hinted hint start l size le is less (inl same) =
      let low : start.above ≤ MAX_FRAMES = omega (arith, less, le) in
      rw same (is (rw same at low))
  start_hinted hint start l size le is less (inr last) = none_behind (start.at + 1) l start.above last.0

  -- the links behind a place are as they were
  pub hinted_behind : (hint : Hint) (at : ℕ) (old new : List (Link N)) → KeepBounds (at + 1) old new → AreHinted hint old → AreHinted (record { at = max hint.at at; above = hint.above }) new
  hinted_behind hint at old new keep is = λ low. keep (max hint.at at + 1) hint.above (omega arith) (at_most_later hint.above (hint.at + 1) (max hint.at at + 1) old (omega arith) (is low))

  pub same_behind : (at : ℕ) (old new : List (Link N)) → drop at new ≡ drop at old → KeepBounds at old new
  same_behind at old new same = λ n room le most. rw (drop_later at n new old le same) most

  -- one link less, and those behind it moved up
  pub fewer_behind : (at : ℕ) (old new : List (Link N)) → drop (at + 1) new ≡ drop (at + 2) old → KeepBounds (at + 2) old new
  fewer_behind at old new same = λ n room le most. go n room le most
    where
      go : (n room : ℕ) → at + 2 ≤ n → AreAtMost room (drop n old) → AreAtMost room (drop n new)
      go n room le most =
          let m = n - (at + 1) in
          let i : n ≡ (at + 1) + m = omega arith in
          let j : (at + 2) + m ≡ n + 1 = omega arith in
          let shift : drop n new ≡ drop (n + 1) old = rw (← j) (ap (λ k. drop k new) i ∙ drop_add (at + 1) m new ∙ ap (drop m) same ∙ sym (drop_add (at + 2) m old)) in
          rw shift (at_most_later room n (n + 1) old (omega arith) most)
