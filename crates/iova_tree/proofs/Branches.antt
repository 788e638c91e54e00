-- Links side by side, and the ranges behind them.
use Rattle.std.proofs.Common.{ℕ, zero, suc, Bool, true, false, cond, ◌≡◌, ◌+◌, ◌-◌, ◌<◌, ◌≤◌, max, min, List, [], ◌∷◌, ◌++◌, length, take, drop, slice_index_or, slice_set, refl, sym, ap, ◌∙◌, arith, take-append-drop, length-append}
use Rattle.std.specs.Prelude.{nat_lt, nat_eq}
use Rattle.std.proofs.lemmas.Bool.Decides.{nat_tests}
use Rattle.std.proofs.lemmas.List.{append-nil}
use Rattle.std.proofs.Math.Seq.{drop-cons}
use Rattle.iova_tree.specs.Room.{room}
use Rattle.iova_tree.specs.Spans.{Span, end_after, first_lo, room_between, room_after, with_span, with_replaced, IsRisingFrom}
use Rattle.iova_tree.specs.declared.branch.Link.{Link}
use Rattle.iova_tree.specs.Branches.{spans_below, IsLinked, AreLinked, AreLinkedBehind}
use Rattle.iova_tree.proofs.Rooms.{room_mono}
use Rattle.iova_tree.proofs.Spans.{end_after-append, end_after-any, rising-end}

-- A list as what lies before a place, what stands there, and what lies behind it.

pub parts_at : {A : Type 0} (l : List A) (at : ℕ) (d : A) → at < length l → l ≡ take at l ++ slice_index_or l at d ∷ drop (at + 1) l
parts_at l at d lt =
    let j : at + 1 ≡ suc at = omega arith in
    rw j (sym (take-append-drop at l) ∙ ap (λ m. take at l ++ m) (drop-cons l at d lt))

pub set_at : {A : Type 0} (l : List A) (at : ℕ) (y : A) → at < length l → slice_set l at y ≡ take at l ++ y ∷ drop (at + 1) l
set_at [] at y lt = absurd (omega arith)
set_at (x ∷ l) zero y lt = refl
set_at (x ∷ l) (suc at) y lt =
    let j : suc at + 1 ≡ suc (at + 1) = omega arith in
    rw j (ap (λ m. x ∷ m) (set_at l at y (omega arith)))

pub take_set : {A : Type 0} (l : List A) (at : ℕ) (y : A) → take at (slice_set l at y) ≡ take at l
take_set [] zero y = refl
take_set [] (suc at) y = refl
take_set (x ∷ l) zero y = refl
take_set (x ∷ l) (suc at) y = ap (λ m. x ∷ m) (take_set l at y)

pub drop_set : {A : Type 0} (l : List A) (at : ℕ) (y : A) → at < length l → drop at (slice_set l at y) ≡ y ∷ drop (at + 1) l
drop_set [] at y lt = absurd (omega arith)
drop_set (x ∷ l) zero y lt = refl
drop_set (x ∷ l) (suc at) y lt =
    let j : suc at + 1 ≡ suc (at + 1) = omega arith in
    rw j (drop_set l at y (omega arith))

pub index_set : {A : Type 0} (l : List A) (at : ℕ) (y d : A) → at < length l → slice_index_or (slice_set l at y) at d ≡ y
index_set [] at y d lt = absurd (omega arith)
index_set (x ∷ l) zero y d lt = refl
index_set (x ∷ l) (suc at) y d lt = index_set l at y d (omega arith)

pub drop_behind : {A : Type 0} (l : List A) (at : ℕ) (y : A) → drop (at + 1) (slice_set l at y) ≡ drop (at + 1) l
drop_behind [] at y = refl
drop_behind (x ∷ l) zero y = refl
drop_behind (x ∷ l) (suc at) y =
    let j : suc at + 1 ≡ suc (at + 1) = omega arith in
    rw j (drop_behind l at y)

-- the greatest size that fits into a gap below one of some ranges
pub room_after-first : (e : ℕ) (l : List Span) → 0 < length l → room_after e l ≡ max (room e (first_lo l)) (room_between l)
room_after-first e [] some = absurd (omega arith)
room_after-first e (x ∷ l) some = refl

module _ {N : Type 0} (spans : N → List Span) where
  pub below-append : (a b : List (Link N)) → spans_below spans (a ++ b) ≡ spans_below spans a ++ spans_below spans b
  below-append [] b = refl
  below-append (k ∷ a) b = rw (below-append a b, append_swap (spans k.node) (spans_below spans a) (spans_below spans b)) refl
    where
      append_swap : (x y z : List Span) → (x ++ y) ++ z ≡ x ++ (y ++ z)
      append_swap [] y z = refl
      append_swap (s ∷ x) y z = ap (λ m. s ∷ m) (append_swap x y z)

  -- behind any link there is a range
  pub some_below : (l : List (Link N)) → AreLinked spans l → 0 < length l → 0 < length (spans_below spans l)
  some_below [] h some = absurd (omega arith)
  some_below (k ∷ l) h some = let s = h.0.some in omega (arith, s, length-append (spans k.node) (spans_below spans l))

  pub some_links : (l : List (Link N)) → 0 < length (spans_below spans l) → 0 < length l
  some_links [] some = absurd (omega arith)
  some_links (k ∷ l) some = omega arith

  end_linked : (e : ℕ) (k : Link N) → IsLinked (spans k.node) k.first k.end k.room → end_after e (spans k.node) ≡ k.end
  end_linked e k h = end_after-any e 0 (spans k.node) h.some ∙ sym h.end_is

  pub record IsInParts (k : Link N) (a b : List (Link N)) : Type 0 where
    pub low : AreLinked spans a
    pub own : IsLinked (spans k.node) k.first k.end k.room
    pub gap : 0 < length a → room (end_after 0 (spans_below spans a)) k.first ≤ k.room
    pub high : AreLinkedBehind spans k.end b

  behind_parts : (e : ℕ) (a : List (Link N)) (k : Link N) (b : List (Link N)) → AreLinkedBehind spans e (a ++ k ∷ b)
      → AreLinkedBehind spans e a × IsLinked (spans k.node) k.first k.end k.room × (room (end_after e (spans_below spans a)) k.first ≤ k.room) × AreLinkedBehind spans k.end b
  behind_parts e [] k b h = (tt, h.0, h.1, h.2)
  behind_parts e (x ∷ a) k b h =
      let i = behind_parts x.end a k b h.2 in
      let end : end_after e (spans x.node ++ spans_below spans a) ≡ end_after x.end (spans_below spans a) = end_after-append e (spans x.node) (spans_below spans a) ∙ ap (λ n. end_after n (spans_below spans a)) (end_linked e x h.0) in
      ((h.0, h.1, i.0), i.1, rw end i.2, i.3)

  pub in_parts : (a : List (Link N)) (k : Link N) (b : List (Link N)) → AreLinked spans (a ++ k ∷ b) → IsInParts k a b
  in_parts [] k b h = record { low = tt; own = h.0; gap = λ some. absurd (omega arith); high = h.1 }
  in_parts (x ∷ a) k b h =
      let i = behind_parts x.end a k b h.1 in
      let end : end_after 0 (spans x.node ++ spans_below spans a) ≡ end_after x.end (spans_below spans a) = end_after-append 0 (spans x.node) (spans_below spans a) ∙ ap (λ n. end_after n (spans_below spans a)) (end_linked 0 x h.0) in
      record { low = (h.0, i.0); own = i.1; gap = λ some. rw end i.2; high = i.3 }

  behind_joined : (e : ℕ) (a : List (Link N)) (k : Link N) (b : List (Link N)) → AreLinkedBehind spans e a → IsLinked (spans k.node) k.first k.end k.room
      → room (end_after e (spans_below spans a)) k.first ≤ k.room → AreLinkedBehind spans k.end b → AreLinkedBehind spans e (a ++ k ∷ b)
  behind_joined e [] k b low own gap high = (own, gap, high)
  behind_joined e (x ∷ a) k b low own gap high =
      let end : end_after e (spans x.node ++ spans_below spans a) ≡ end_after x.end (spans_below spans a) = end_after-append e (spans x.node) (spans_below spans a) ∙ ap (λ n. end_after n (spans_below spans a)) (end_linked e x low.0) in
      (low.0, low.1, behind_joined x.end a k b low.2 own (rw end at gap) high)

  pub joined_parts : (a : List (Link N)) (k : Link N) (b : List (Link N)) → IsInParts k a b → AreLinked spans (a ++ k ∷ b)
  joined_parts [] k b i = (i.own, i.high)
  joined_parts (x ∷ a) k b i =
      let end : end_after 0 (spans x.node ++ spans_below spans a) ≡ end_after x.end (spans_below spans a) = end_after-append 0 (spans x.node) (spans_below spans a) ∙ ap (λ n. end_after n (spans_below spans a)) (end_linked 0 x i.low.0) in
      let gap = i.gap (omega arith) in
      (i.low.0, behind_joined x.end a k b i.low.1 i.own (rw end at gap) i.high)

  -- where the gap before them begins later, its room is no more
  pub behind_later : (e d : ℕ) (b : List (Link N)) → e ≤ d → AreLinkedBehind spans e b → AreLinkedBehind spans d b
  behind_later e d [] le h = tt
  behind_later e d (k ∷ b) le h = let m = room_mono e k.first d k.first le (omega arith) in (h.0, omega (arith, m, h.1), h.2)

  pub behind_alone : (e : ℕ) (b : List (Link N)) → AreLinkedBehind spans e b → AreLinked spans b
  behind_alone e [] h = tt
  behind_alone e (k ∷ b) h = (h.0, h.2)

  pub linked_front : (a b : List (Link N)) → AreLinked spans (a ++ b) → AreLinked spans a
  linked_front a [] h = rw (append-nil a) at h
  linked_front a (k ∷ b) h = (in_parts a k b h).low

  pub linked_back : (a b : List (Link N)) → AreLinked spans (a ++ b) → AreLinked spans b
  linked_back a [] h = tt
  linked_back a (k ∷ b) h = let i = in_parts a k b h in (i.own, i.high)

  -- the ranges before a link, its own, and those behind it
  pub below_parts : (a : List (Link N)) (k : Link N) (b : List (Link N)) → spans_below spans (a ++ k ∷ b) ≡ spans_below spans a ++ (spans k.node ++ spans_below spans b)
  below_parts a k b = below-append a (k ∷ b)

-- One range more or less.

pub first_with : (x : Span) (l : List Span) → 0 < length l → first_lo (with_span x l) ≡ min x.lo (first_lo l)
first_with x [] some = absurd (omega arith)
first_with x (y ∷ l) some = split (nat_lt x.lo y.lo) refl
  where
    split : (b : Bool) → nat_lt x.lo y.lo ≡ b → first_lo (cond b (x ∷ y ∷ l) (y ∷ with_span x l)) ≡ min x.lo y.lo
    split true h = let lt : x.lo < y.lo = grind (arith, nat_tests) in omega arith
    split false h = let le : y.lo ≤ x.lo = grind (arith, nat_tests) in omega arith

pub end_with : (e : ℕ) (x : Span) (l : List Span) → 0 < length l → IsRisingFrom e (with_span x l) → end_after e (with_span x l) ≡ max x.end (end_after e l)
end_with e x [] some r = absurd (omega arith)
end_with e x (y ∷ []) some r = split (nat_lt x.lo y.lo) r
  where
    split : (b : Bool) → IsRisingFrom e (cond b (x ∷ y ∷ []) (y ∷ x ∷ [])) → end_after e (cond b (x ∷ y ∷ []) (y ∷ x ∷ [])) ≡ max x.end y.end
    split true r = omega (arith, r.2.0, r.2.1)
    split false r = omega (arith, r.2.0, r.2.1)
end_with e x (y ∷ (z ∷ l)) some r = split (nat_lt x.lo y.lo) r (λ s. end_with y.end x (z ∷ l) (omega arith) s)
  where
    split : (b : Bool) → IsRisingFrom e (cond b (x ∷ y ∷ z ∷ l) (y ∷ with_span x (z ∷ l))) → (IsRisingFrom y.end (with_span x (z ∷ l)) → end_after y.end (with_span x (z ∷ l)) ≡ max x.end (end_after z.end l))
        → end_after e (cond b (x ∷ y ∷ z ∷ l) (y ∷ with_span x (z ∷ l))) ≡ max x.end (end_after z.end l)
    split true r rest = let i = rising-end z.end l r.2.2.2 in omega (arith, r.2.0, r.2.1, r.2.2.0, r.2.2.1)
    split false r rest = rest r.2

pub first_without : (x : Span) (m : List Span) → 0 < length m → (x.lo ≡ first_lo (with_span x m) → ⊥) → first_lo (with_span x m) ≡ first_lo m
first_without x m some other = let f = first_with x m some in split (nat_lt x.lo (first_lo m)) refl f
  where
    split : (b : Bool) → nat_lt x.lo (first_lo m) ≡ b → first_lo (with_span x m) ≡ min x.lo (first_lo m) → first_lo (with_span x m) ≡ first_lo m
    split true h f = let lt : x.lo < first_lo m = grind (arith, nat_tests) in absurd (other (omega arith))
    split false h f = let le : first_lo m ≤ x.lo = grind (arith, nat_tests) in omega arith

pub end_without : (x : Span) (m : List Span) → 0 < length m → IsRisingFrom 0 (with_span x m) → (x.end ≡ end_after 0 (with_span x m) → ⊥) → end_after 0 (with_span x m) ≡ end_after 0 m
end_without x m some r other = let f = end_with 0 x m some r in split (nat_lt (end_after 0 m) x.end) refl f
  where
    split : (b : Bool) → nat_lt (end_after 0 m) x.end ≡ b → end_after 0 (with_span x m) ≡ max x.end (end_after 0 m) → end_after 0 (with_span x m) ≡ end_after 0 m
    split true h f = let lt : end_after 0 m < x.end = grind (arith, nat_tests) in absurd (other (omega arith))
    split false h f = let le : x.end ≤ end_after 0 m = grind (arith, nat_tests) in omega arith

pub first_front : (l r : List Span) → 0 < length l → first_lo (l ++ r) ≡ first_lo l
first_front [] r some = absurd (omega arith)
first_front (x ∷ l) r some = refl

pub length_replaced : (lo : ℕ) (y : Span) (l : List Span) → length (with_replaced lo y l) ≡ length l
length_replaced lo y [] = refl
length_replaced lo y (x ∷ l) = split (nat_eq x.lo lo) (length_replaced lo y l)
  where
    split : (b : Bool) → length (with_replaced lo y l) ≡ length l → length (cond b (y ∷ l) (x ∷ with_replaced lo y l)) ≡ length (x ∷ l)
    split true e = refl
    split false e = ap suc e

-- where the ranges behind some links end
module _ {N : Type 0} (spans : N → List Span) where
  end_behind : (e : ℕ) (l : List (Link N)) (k : Link N) → AreLinkedBehind spans e l → 0 < length l → k ≡ slice_index_or l (length l - 1) k → k.end ≡ end_after e (spans_below spans l)
  end_behind e [] k h some is = absurd (omega arith)
  end_behind e (x ∷ []) k h some is = rw (is, append-nil (spans x.node)) (sym (end_linked spans e x h.0))
  end_behind e (x ∷ (y ∷ l)) k h some is =
      let n : length (x ∷ y ∷ l) - 1 ≡ suc (length l) = omega arith in
      let m : length (y ∷ l) - 1 ≡ length l = omega arith in
      let last : k ≡ slice_index_or (y ∷ l) (length (y ∷ l) - 1) k = rw m (rw n at is) in
      end_behind x.end (y ∷ l) k h.2 (omega arith) last ∙ sym (end_after-append e (spans x.node) (spans_below spans (y ∷ l)) ∙ ap (λ n. end_after n (spans_below spans (y ∷ l))) (end_linked spans e x h.0))

  pub end_last : (e : ℕ) (l : List (Link N)) (k : Link N) → AreLinked spans l → 0 < length l → k ≡ slice_index_or l (length l - 1) k → k.end ≡ end_after e (spans_below spans l)
  end_last e [] k h some is = absurd (omega arith)
  end_last e (x ∷ []) k h some is = rw (is, append-nil (spans x.node)) (sym (end_linked spans e x h.0))
  end_last e (x ∷ (y ∷ l)) k h some is =
      let n : length (x ∷ y ∷ l) - 1 ≡ suc (length l) = omega arith in
      let m : length (y ∷ l) - 1 ≡ length l = omega arith in
      let last : k ≡ slice_index_or (y ∷ l) (length (y ∷ l) - 1) k = rw m (rw n at is) in
      end_behind x.end (y ∷ l) k h.1 (omega arith) last ∙ sym (end_after-append e (spans x.node) (spans_below spans (y ∷ l)) ∙ ap (λ n. end_after n (spans_below spans (y ∷ l))) (end_linked spans e x h.0))
