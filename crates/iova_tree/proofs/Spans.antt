-- Laws of lists of ranges.
use Rattle.std.proofs.Common.{◌≡◌, ℕ, ◌+◌, ◌<◌, ◌≤◌, inl, inr, max, Bool, true, false, cond, ltb, List, [], ◌∷◌, ◌++◌, length, refl, sym, ap, ◌∙◌, arith}
use Rattle.std.specs.Prelude.{nat_lt, nat_eq}
use Rattle.std.proofs.lemmas.Bool.Decides.{nat_tests}
use Rattle.std.proofs.lemmas.Bool.{lt-ltb, le-ltb, ltb-true, ltb-false}
use Rattle.iova_tree.specs.Room.{room}
use Rattle.iova_tree.specs.Spans.{Span, end_after, first_lo, IsRisingFrom, room_after, room_between, room_below, with_span, without_span, with_replaced, Holds, IsBefore}

pub end_after-append : (e : ℕ) (l r : List Span) → end_after e (l ++ r) ≡ end_after (end_after e l) r
end_after-append e [] r = refl
end_after-append e (x ∷ l) r = end_after-append x.end l r

pub end_after-middle : (e : ℕ) (l : List Span) (k : Span) (r : List Span) → end_after e (l ++ k ∷ r) ≡ end_after k.end r
end_after-middle e l k r = end_after-append e l (k ∷ r)

pub room_after-middle : (e : ℕ) (l : List Span) (k : Span) (r : List Span) → room_after e (l ++ k ∷ r) ≡ max (max (room_after e l) (room (end_after e l) k.lo)) (room_after k.end r)
room_after-middle e [] k r = omega arith
room_after-middle e (x ∷ l) k r = let i = room_after-middle x.end l k r in omega arith

pub room_between-middle : (l : List Span) (k : Span) (r : List Span) → room_between (l ++ k ∷ r) ≡ max (room_below k.lo l) (room_after k.end r)
room_between-middle [] k r = omega arith
room_between-middle (x ∷ l) k r = room_after-middle x.end l k r

pub room_between-after : (e : ℕ) (l : List Span) → room_between l ≤ room_after e l
room_between-after e [] = omega arith
room_between-after e (x ∷ l) = omega arith

pub rising-weaken : (d e : ℕ) (l : List Span) → d ≤ e → IsRisingFrom e l → IsRisingFrom d l
rising-weaken d e [] p s = tt
rising-weaken d e (x ∷ l) p s = (omega arith, s.1, s.2)

pub rising-front : (e : ℕ) (l r : List Span) → IsRisingFrom e (l ++ r) → IsRisingFrom e l
rising-front e [] r s = tt
rising-front e (x ∷ l) r s = (s.0, s.1, rising-front x.end l r s.2)

pub rising-back : (e : ℕ) (l r : List Span) → IsRisingFrom e (l ++ r) → IsRisingFrom (end_after e l) r
rising-back e [] r s = s
rising-back e (x ∷ l) r s = rising-back x.end l r s.2

pub rising-after : (e : ℕ) (l r : List Span) → IsRisingFrom e (l ++ r) → IsRisingFrom 0 r
rising-after e l r s = rising-weaken 0 (end_after e l) r (omega arith) (rising-back e l r s)

pub rising-end : (e : ℕ) (l : List Span) → IsRisingFrom e l → e ≤ end_after e l
rising-end e [] s = omega arith
rising-end e (x ∷ l) s = let i = rising-end x.end l s.2 in omega arith

pub with_span-later : (x y : Span) (t : List Span) → y.lo ≤ x.lo → with_span x (y ∷ t) ≡ y ∷ with_span x t
with_span-later x y t p = rw (le-ltb x.lo y.lo p)

-- the room of a side, and of the gap between it and what is beside it

abbrev pub edge_below : ℕ → List Span → ℕ
edge_below lo [] = 0
edge_below lo (x ∷ l) = room (end_after x.end l) lo

pub room_below-edge : (lo : ℕ) (l : List Span) → room_below lo l ≡ max (room_between l) (edge_below lo l)
room_below-edge lo [] = omega arith
room_below-edge lo (x ∷ l) = refl

abbrev pub edge_after : ℕ → List Span → ℕ
edge_after e [] = 0
edge_after e (x ∷ l) = room e x.lo

pub room_after-edge : (e : ℕ) (l : List Span) → room_after e l ≡ max (room_between l) (edge_after e l)
room_after-edge e [] = omega arith
room_after-edge e (x ∷ l) = omega arith

without_cases : (e : ℕ) (b : Bool) (x y : Span) (t u : List Span) → (IsRisingFrom y.end u → IsRisingFrom y.end t) → IsRisingFrom e (cond b (x ∷ y ∷ t) (y ∷ u)) → IsRisingFrom e (y ∷ t)
without_cases e true x y t u i s = rising-weaken e x.end (y ∷ t) (omega (arith, s.0, s.1)) s.2
without_cases e false x y t u i s = (s.0, s.1, i s.2)

pub rising-without : (e : ℕ) (x : Span) (d : List Span) → IsRisingFrom e (with_span x d) → IsRisingFrom e d
rising-without e x [] s = tt
rising-without e x (y ∷ t) s = without_cases e (ltb x.lo y.lo) x y t (with_span x t) (rising-without y.end x t) s

pub holds_above : (e lo : ℕ) (l : List Span) → IsRisingFrom e l → Holds lo l → e ≤ lo
holds_above e lo [] r h = absurd h
holds_above e lo (x ∷ l) r (inl h) = omega (arith, r.0)
holds_above e lo (x ∷ l) r (inr h) = let i = holds_above x.end lo l r.2 h in omega (arith, r.0, r.1)

pub rising_with : (e : ℕ) (x : Span) (l : List Span) → IsRisingFrom e (with_span x l) → (e ≤ x.lo) × (x.lo < x.end)
rising_with e x [] r = (r.0, r.1)
rising_with e x (y ∷ l) r = split (nat_lt x.lo y.lo) r (λ s. rising_with y.end x l s)
  where
    split : (b : Bool) → IsRisingFrom e (cond b (x ∷ y ∷ l) (y ∷ with_span x l)) → (IsRisingFrom y.end (with_span x l) → (y.end ≤ x.lo) × (x.lo < x.end)) → (e ≤ x.lo) × (x.lo < x.end)
    split true r rest = (r.0, r.1)
    split false r rest = let i = rest r.2 in (omega (arith, i.0, r.0, r.1), i.1)

pub end_some : (e : ℕ) (l : List Span) → IsRisingFrom e l → 0 < length l → 1 ≤ end_after e l
end_some e [] r some = absurd (omega arith)
end_some e (x ∷ l) r some = let i = rising-end x.end l r.2 in omega (arith, r.1)

-- Lists one behind the other.

-- where a list that isn't empty ends doesn't hang on what is before it
pub end_after-any : (d e : ℕ) (l : List Span) → 0 < length l → end_after d l ≡ end_after e l
end_after-any d e [] some = absurd (omega arith)
end_after-any d e (x ∷ l) some = refl

pub rising_join : (e : ℕ) (l r : List Span) → IsRisingFrom e l → IsRisingFrom (end_after e l) r → IsRisingFrom e (l ++ r)
rising_join e [] r s t = t
rising_join e (x ∷ l) r s t = (s.0, s.1, rising_join x.end l r s.2 t)

-- what comes in behind the first list
pub with_span-behind : (e : ℕ) (x : Span) (l m : List Span) → IsRisingFrom e l → end_after e l ≤ x.lo → with_span x (l ++ m) ≡ l ++ with_span x m
with_span-behind e x [] m r le = refl
with_span-behind e x (y ∷ l) m r le =
    let i = rising-end y.end l r.2 in
    with_span-later x y (l ++ m) (omega (arith, r.1)) ∙ ap (λ (z : List Span). y ∷ z) (with_span-behind y.end x l m r.2 le)

with_span-before-step : (x y : Span) (b : Bool) (l r u v : List Span) → v ≡ u ++ r → cond b (x ∷ y ∷ (l ++ r)) (y ∷ v) ≡ cond b (x ∷ y ∷ l) (y ∷ u) ++ r
with_span-before-step x y true l r u v e = refl
with_span-before-step x y false l r u v e = ap (λ z. y ∷ z) e

-- what comes in before the second list
pub with_span-before : (x : Span) (l r : List Span) → IsBefore x r → with_span x (l ++ r) ≡ with_span x l ++ r
with_span-before x [] [] b = refl
with_span-before x [] (y ∷ r) b = rw (lt-ltb x.lo y.lo b) refl
with_span-before x (y ∷ l) r b = with_span-before-step x y (ltb x.lo y.lo) l r (with_span x l) _ (with_span-before x l r b)

pub before_all : (e : ℕ) (x : Span) (l : List Span) → x.lo < e → IsRisingFrom e l → IsBefore x l
before_all e x [] lt r = tt
before_all e x (y ∷ l) lt r = omega (arith, r.0)

-- The ranges of a node: those of the lower side, of its own block, which isn't empty, and of the upper side.

pub room_after-append : (e : ℕ) (l r : List Span) → room_after e (l ++ r) ≡ max (room_after e l) (room_after (end_after e l) r)
room_after-append e [] r = omega arith
room_after-append e (x ∷ l) r = let i = room_after-append x.end l r in omega arith

pub room_between-node : (l k r : List Span) → 0 < length k → room_between (l ++ (k ++ r)) ≡ max (room_below (first_lo k) l) (max (room_between k) (room_after (end_after 0 k) r))
room_between-node l [] r some = absurd (omega arith)
room_between-node l (h ∷ t) r some = rw (room_between-middle l h (t ++ r), room_after-append h.end t r) refl

pub with_span-here : (x : Span) (l k r : List Span) → IsRisingFrom 0 (l ++ (k ++ r)) → end_after 0 l ≤ x.lo → IsBefore x r → with_span x (l ++ (k ++ r)) ≡ l ++ (with_span x k ++ r)
with_span-here x l k r s le before =
    with_span-behind 0 x l (k ++ r) (rising-front 0 l (k ++ r) s) le
    ∙ ap (λ (z : List Span). l ++ z) (with_span-before x k r before)

-- where the middle of a node ends, the upper side begins
pub node-gaps : (l k r : List Span) → 0 < length k → IsRisingFrom 0 (l ++ (k ++ r)) → (end_after 0 l ≤ first_lo k) × IsRisingFrom (end_after 0 k) r
node-gaps l [] r some s = absurd (omega arith)
node-gaps l (h ∷ t) r some s =
    let b = rising-back 0 l (h ∷ (t ++ r)) s in
    (b.0, rising-back h.end t r b.2)

pub first_below_end : (e : ℕ) (k : List Span) → 0 < length k → IsRisingFrom e k → first_lo k < end_after 0 k
first_below_end e [] some r = absurd (omega arith)
first_below_end e (h ∷ t) some r = let i = rising-end h.end t r.2 in omega (arith, r.1)

pub node-middle : (l k r : List Span) → IsRisingFrom 0 (l ++ (k ++ r)) → IsRisingFrom 0 k
node-middle l k r s = rising-weaken 0 (end_after 0 l) k (omega arith) (rising-front (end_after 0 l) k r (rising-back 0 l (k ++ r) s))

length-with-step : (b : Bool) (x y : Span) (l u : List Span) → length u ≡ length l + 1 → length (cond b (x ∷ y ∷ l) (y ∷ u)) ≡ length (y ∷ l) + 1
length-with-step true x y l u e = omega arith
length-with-step false x y l u e = omega arith

pub length-with : (x : Span) (l : List Span) → length (with_span x l) ≡ length l + 1
length-with x [] = refl
length-with x (y ∷ l) = length-with-step (ltb x.lo y.lo) x y l (with_span x l) (length-with x l)

-- One taken out, or another in its place.

test_same : (n : ℕ) → nat_eq n n ≡ true
test_same n = grind (arith, nat_tests)

test_other : (n m : ℕ) → n < m → nat_eq n m ≡ false
test_other n m lt = grind (arith, nat_tests)

pub without-with : (e : ℕ) (x : Span) (l : List Span) → IsRisingFrom e (with_span x l) → without_span x.lo (with_span x l) ≡ l
without-with e x [] r = rw (test_same x.lo) refl
without-with e x (y ∷ t) r = split (ltb x.lo y.lo) r (λ s. without-with y.end x t s)
  where
    split : (c : Bool) → IsRisingFrom e (cond c (x ∷ y ∷ t) (y ∷ with_span x t)) → (IsRisingFrom y.end (with_span x t) → without_span x.lo (with_span x t) ≡ t) → without_span x.lo (cond c (x ∷ y ∷ t) (y ∷ with_span x t)) ≡ y ∷ t
    split true r i = rw (test_same x.lo) refl
    split false r i =
        let w = rising_with y.end x t r.2 in
        rw (test_other y.lo x.lo (omega (arith, r.1, w.0))) (ap (λ (z : List Span). y ∷ z) (i r.2))

pub with_span-cancel : (x y : Span) (l m : List Span) → IsRisingFrom 0 (with_span x l) → with_span x l ≡ with_span y m → y.lo ≡ x.lo → l ≡ m
with_span-cancel x y l m r same lo =
    sym (without-with 0 x l r) ∙ rw (same, ← lo) (without-with 0 y m (rw same at r))

pub holds_with : (x : Span) (l : List Span) → Holds x.lo (with_span x l)
holds_with x [] = inl refl
holds_with x (y ∷ t) = split (ltb x.lo y.lo) (holds_with x t)
  where
    split : (c : Bool) → Holds x.lo (with_span x t) → Holds x.lo (cond c (x ∷ y ∷ t) (y ∷ with_span x t))
    split true h = inl refl
    split false h = inr h

pub with_span-front : (x : Span) (t : List Span) → x.lo < x.end → IsRisingFrom x.end t → with_span x t ≡ x ∷ t
with_span-front x [] lt r = refl
with_span-front x (y ∷ t) lt r = rw (lt-ltb x.lo y.lo (omega (arith, r.0))) refl

-- the one that begins at lo, and the others
pub record IsOneOf (lo : ℕ) (l : List Span) : Type 0 where
  pub one : Span
  pub others : List Span
  pub begins : one.lo ≡ lo
  pub is : l ≡ with_span one others

pub one_of : (e lo : ℕ) (l : List Span) → IsRisingFrom e l → Holds lo l → IsOneOf lo l
one_of e lo [] r h = absurd h
one_of e lo (x ∷ t) r (inl h) = record { one = x; others = t; begins = h; is = sym (with_span-front x t r.1 r.2) }
one_of e lo (x ∷ t) r (inr h) =
    let i = one_of x.end lo t r.2 h in
    let high = holds_above x.end lo t r.2 h in
    record {
      one = i.one;
      others = x ∷ i.others;
      begins = i.begins;
      is = ap (λ (z : List Span). x ∷ z) i.is ∙ sym (with_span-later i.one x i.others (omega (arith, r.1, i.begins)));
    }

pub replaced-front : (lo : ℕ) (y : Span) (l r : List Span) → Holds lo l → with_replaced lo y (l ++ r) ≡ with_replaced lo y l ++ r
replaced-front lo y [] r h = absurd h
replaced-front lo y (x ∷ l) r h = split (nat_eq x.lo lo) refl h (λ g. replaced-front lo y l r g)
  where
    split : (c : Bool) → nat_eq x.lo lo ≡ c → Holds lo (x ∷ l) → (Holds lo l → with_replaced lo y (l ++ r) ≡ with_replaced lo y l ++ r) → cond c (y ∷ (l ++ r)) (x ∷ with_replaced lo y (l ++ r)) ≡ cond c (y ∷ l) (x ∷ with_replaced lo y l) ++ r
    split true e h i = refl
    split false e (inl same) i = absurd (grind (arith, nat_tests))
    split false e (inr g) i = ap (λ (z : List Span). x ∷ z) (i g)

pub replaced-behind : (e lo : ℕ) (y : Span) (l r : List Span) → IsRisingFrom e l → end_after e l ≤ lo → with_replaced lo y (l ++ r) ≡ l ++ with_replaced lo y r
replaced-behind e lo y [] r s le = refl
replaced-behind e lo y (x ∷ l) r s le =
    let i = rising-end x.end l s.2 in
    rw (test_other x.lo lo (omega (arith, s.1))) (ap (λ (z : List Span). x ∷ z) (replaced-behind x.end lo y l r s.2 le))

-- in the place of one that it covers, it stands where it rises
pub replaced-with : (e d : ℕ) (x y : Span) (l : List Span) → IsRisingFrom e (with_span x l) → IsRisingFrom d (with_span y l) → y.lo ≤ x.lo → x.end ≤ y.end → with_replaced x.lo y (with_span x l) ≡ with_span y l
replaced-with e d x y [] r s low high = rw (test_same x.lo) refl
replaced-with e d x y (z ∷ t) r s low high = split (ltb x.lo z.lo) refl r (λ p q. replaced-with z.end z.end x y t p q low high)
  where
    later : z.lo ≤ x.lo → IsRisingFrom z.end (with_span x t) → (c : Bool) → ltb y.lo z.lo ≡ c → IsRisingFrom d (cond c (y ∷ z ∷ t) (z ∷ with_span y t)) → (IsRisingFrom z.end (with_span y t) → with_replaced x.lo y (with_span x t) ≡ with_span y t)
        → z ∷ with_replaced x.lo y (with_span x t) ≡ cond c (y ∷ z ∷ t) (z ∷ with_span y t)
    later le q true is s i = let w = rising_with z.end x t q in absurd (omega (arith, w.0, w.1, s.2.0, s.2.1))
    later le q false is s i = ap (λ (k : List Span). z ∷ k) (i s.2)

    split : (c : Bool) → ltb x.lo z.lo ≡ c → IsRisingFrom e (cond c (x ∷ z ∷ t) (z ∷ with_span x t)) → (IsRisingFrom z.end (with_span x t) → IsRisingFrom z.end (with_span y t) → with_replaced x.lo y (with_span x t) ≡ with_span y t)
        → with_replaced x.lo y (cond c (x ∷ z ∷ t) (z ∷ with_span x t)) ≡ with_span y (z ∷ t)
    split true is r i =
        let lt = ltb-true x.lo z.lo is in
        rw (test_same x.lo, lt-ltb y.lo z.lo (omega arith)) refl
    split false is r i =
        let le = ltb-false x.lo z.lo is in
        let w = rising_with z.end x t r.2 in
        rw (test_other z.lo x.lo (omega (arith, r.1, w.0)))
        (later le r.2 (ltb y.lo z.lo) refl s (λ q. i r.2 q))
